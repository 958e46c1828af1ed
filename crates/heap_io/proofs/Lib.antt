pub mod FrontReads
pub mod Lookup
