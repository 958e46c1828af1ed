pub mod HashLaws
pub mod MapLaws
