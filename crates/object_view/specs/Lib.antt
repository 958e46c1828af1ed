pub mod Views
pub mod Births
pub mod Moving
