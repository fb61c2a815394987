pub mod Fields
pub mod Reads
