pub mod Counting
pub mod Ending
pub mod RunLaws
pub mod SoFar
