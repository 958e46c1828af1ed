pub mod TwoObjects
pub mod TwoWeak
