pub mod ObjectLaws
pub mod FreshLaws
