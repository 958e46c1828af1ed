pub mod Complete
pub mod DoneLaws
pub mod LimitLaws
pub mod Pieces
pub mod RunEnds
pub mod RunsOn
pub mod UnitEnds
pub mod Words
