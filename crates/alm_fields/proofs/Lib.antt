pub mod NumberLaws
pub mod Kept
pub mod Carried
pub mod Arms
pub mod CallLaws
