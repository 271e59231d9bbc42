pub mod Sorted
pub mod RowPlans
pub mod Plans
pub mod Settled
