pub mod Fields
pub mod ForC
