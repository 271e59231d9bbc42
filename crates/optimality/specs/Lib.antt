pub mod Finished
pub mod Settling
