pub mod DecimalLaws
pub mod WordLaws
pub mod NumberLaws
pub mod ReadingLaws
pub mod SpellingLaws
pub mod LinesLaws
pub mod PrintingLaws
