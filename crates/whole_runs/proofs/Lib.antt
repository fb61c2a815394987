pub mod Feeds
pub mod Solves
pub mod Loops
pub mod Penalties
pub mod ForC
pub mod LoopForC
