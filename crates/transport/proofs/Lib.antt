pub mod ExtendedLaws
pub mod Sound
