pub mod Lines
pub mod LinesWritten
pub mod WriteCall
