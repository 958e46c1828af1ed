pub mod Words
pub mod Packing
