pub mod Basics
mod ConstSinks
pub mod RepLaws
pub mod MarkLaws
pub mod NameLaws
pub mod ConstLaws
pub mod BarLaws
pub mod LoopLaws
mod LabelLaws
pub mod StayLaws
pub mod SizeLaws
pub mod LeaveLaws
pub mod InsideLaws
pub mod PartLaws
pub mod VisitLaws
