pub mod Digits
pub mod Front
pub mod Whole
pub mod Fitting
