pub mod Blocks
pub mod Large
pub mod Sweep
