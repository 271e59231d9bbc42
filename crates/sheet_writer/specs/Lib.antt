pub mod SheetSections
