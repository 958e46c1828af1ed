pub mod Events
pub mod Tests
pub mod Collections
pub mod Room
pub mod Retained
