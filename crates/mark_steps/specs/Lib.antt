pub mod Visits
pub mod Ends
