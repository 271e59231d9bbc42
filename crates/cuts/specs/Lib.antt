pub mod Cuts
pub mod Planting
pub mod Cycle
pub mod Exchange
