pub mod Waits
pub mod Answers
pub mod Starts
pub mod Shows
pub mod Sizes
