pub mod SheetAnswer
