pub mod GoLaws
pub mod CountLaws
pub mod SiblingLaws
pub mod OperatorLaws
pub mod LeafLaws
pub mod RunLaws
pub mod EndLaws
pub mod LoopLaws
