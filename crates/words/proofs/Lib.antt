pub mod CutLaws
pub mod Written
pub mod RoundTrip
pub mod FloatLaws
