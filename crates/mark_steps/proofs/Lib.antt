pub mod Refs
pub mod Lists
pub mod VisitStep
pub mod MarkLoop
pub mod FrameLaws
pub mod ClosureLaws
