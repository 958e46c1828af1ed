pub mod Fields
pub mod Reader
pub mod Taking
