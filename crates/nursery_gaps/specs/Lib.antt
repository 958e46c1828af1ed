pub mod Ranges
pub mod Nursery
pub mod Gaps
pub mod Fields
