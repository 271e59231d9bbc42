pub mod Kept
pub mod Begun
pub mod PricesShown
pub mod OnBoard
