pub mod TableLaws
pub mod Place
pub mod TypeTableLaws
