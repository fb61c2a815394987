pub mod Starts
pub mod Reads
