pub mod BitLaws
pub mod FlagLaws
pub mod WordLaws
pub mod HeaderLaws
