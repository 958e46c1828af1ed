pub mod Ranges
pub mod Passing
pub mod Looks
pub mod Items
pub mod Places
pub mod Performing
pub mod Collecting
