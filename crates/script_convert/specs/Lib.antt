pub mod Convert
pub mod Reader
pub mod Written
