pub mod HeldLaws
pub mod PatternLaws
pub mod CaseLaws
pub mod MatchLaws
pub mod TurnLaws
pub mod DepthLaws
pub mod TestLaws
pub mod CleanLaws
