pub mod Sets
pub mod Bags
pub mod Way
pub mod Sought
pub mod Answer
