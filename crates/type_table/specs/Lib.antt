pub mod Table
pub mod TypeTable
pub mod Words
