pub mod Firsts
pub mod Board
pub mod Formulas
