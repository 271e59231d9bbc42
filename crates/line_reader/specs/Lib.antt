pub mod LinesRead
pub mod SheetRead
