mod Falling
mod Placing
mod Seeing
mod Fielding
mod Renaming
mod Meeting
