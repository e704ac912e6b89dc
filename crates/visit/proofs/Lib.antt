pub mod FallLaws
pub mod RunLaws
pub mod ArmLaws
pub mod GroupLaws
pub mod LoopLaws
pub mod KindLaws
