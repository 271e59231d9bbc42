pub mod Shown
pub mod Longest
