pub mod Boards
pub mod PsiLaws
pub mod DPsiLaws
pub mod StartLaws
pub mod PointLaws
pub mod Exact
