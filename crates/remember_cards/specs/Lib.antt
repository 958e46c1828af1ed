pub mod Remembered
pub mod Tracking
pub mod Entries
pub mod Drained
pub mod Remembering
