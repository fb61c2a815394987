pub mod Feeding
pub mod Runs
pub mod Tasks
