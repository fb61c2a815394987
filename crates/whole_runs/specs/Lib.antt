pub mod Feed
pub mod Whole
pub mod ForC
