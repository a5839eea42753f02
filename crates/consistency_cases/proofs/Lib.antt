mod Named
mod Within
