pub mod Check
pub mod Laws
pub mod Refusals
