pub mod Filling
pub mod Corner
