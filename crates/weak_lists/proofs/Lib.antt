pub mod Lists
pub mod TailLaws
pub mod RisingLaws
pub mod PlaceLaws
pub mod Once
pub mod Settling
pub mod Rules
pub mod TargetLaws
