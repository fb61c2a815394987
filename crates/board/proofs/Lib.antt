pub mod Writes
pub mod InnerBoard
pub mod Loops
pub mod Parts
pub mod Downward
