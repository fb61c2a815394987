pub mod Values
pub mod Runs
