pub mod Beginning
pub mod Edits
pub mod Respread
