pub mod Turns
pub mod Tables
pub mod Nearest
pub mod Products
pub mod Fours
