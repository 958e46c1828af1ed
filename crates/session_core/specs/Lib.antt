pub mod Seen
pub mod Blocks
pub mod Standing
pub mod Commands
pub mod Finding
pub mod Ends
