pub mod BirthNames
pub mod BirthStands
pub mod BumpLaws
pub mod SpareLaws
pub mod YoungBirths
pub mod OldBirths
