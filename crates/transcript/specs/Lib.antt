pub mod Texts
pub mod Places
pub mod Plays
pub mod Tables
