pub mod NumberLaws
pub mod Kept
pub mod Arms
pub mod CallLaws
pub mod StandLaws
pub mod PlaceLaws
