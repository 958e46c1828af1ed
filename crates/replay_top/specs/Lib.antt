pub mod Run
pub mod Top
pub mod Units
pub mod Written
