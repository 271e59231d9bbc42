pub mod SheetLanes
pub mod OwnBelonging
pub mod Extending
pub mod StruckPlans
pub mod Reduction
pub mod Balanced
pub mod Totals
