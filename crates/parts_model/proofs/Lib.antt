pub mod SameLayouts
pub mod BlockLaws
pub mod QueueTables
