pub mod Lines
pub mod SetLines
