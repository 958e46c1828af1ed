pub mod GapLaws
pub mod FreeLaws
pub mod LayoutLaws
pub mod SpareLaws
pub mod KeptLaws
pub mod NurseryLaws
