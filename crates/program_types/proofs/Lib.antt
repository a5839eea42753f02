mod Suiting
mod Giving
mod Trees
mod Coding
