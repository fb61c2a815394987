pub mod Values
pub mod LoopBoard
pub mod LoopRuns
pub mod Tests
