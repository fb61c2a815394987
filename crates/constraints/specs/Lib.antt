pub mod Box
pub mod Ball
pub mod Table
pub mod Lent
pub mod Exact
pub mod Claims
