pub mod HasBlocks
pub mod Calls
pub mod Headers
pub mod Sweeping
