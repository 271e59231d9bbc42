pub mod FlowLaws
pub mod Carried
pub mod Balance
pub mod Weighing
pub mod Spread
