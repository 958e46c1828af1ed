pub mod Form
pub mod Conditions
pub mod Structures
pub mod Objects
pub mod Sound
pub mod Ties
pub mod Cuts
