pub mod Calls
pub mod Points
pub mod Tests
pub mod Sizes
