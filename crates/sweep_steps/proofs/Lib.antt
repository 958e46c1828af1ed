pub mod TailLaws
pub mod StepLaws
