pub mod PriceLists
pub mod Prices
