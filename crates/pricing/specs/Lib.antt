pub mod Lowest
pub mod Slacks
pub mod Scan
