-- The theorems about the sheet text: `reader_iff` and `place` (Place), `text-length` (Longest), `read_sheet_iff`, `write_sheet_iff`, `undo`, `nine_iff` and
-- `read_cut` (SheetCalls), and `digits_iff` and `whole_iff` (Decimal) and `digits-length` (Digits). They rest on `sheet_exact` (Grammar).
pub mod Every
pub mod Numbers
pub mod Digits
pub mod Numeral
pub mod Decimal
pub mod Exact
pub mod Readers
pub mod Closing
pub mod Number
pub mod Branching
pub mod Signed
pub mod Rows
pub mod Lines
pub mod Grammar
pub mod Refusals
pub mod Longest
pub mod Place
pub mod SheetCalls
