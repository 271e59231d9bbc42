pub mod Lanes
pub mod Sections
