pub mod Shown
pub mod InnerCorners
pub mod PsiCorners
pub mod DPsiCorners
pub mod Runs
pub mod LongRun
pub mod LoopCorners
