pub mod StartLaws
pub mod PlaceLaws
pub mod StandLaws
