pub mod Bench
pub mod Items
pub mod Summary
