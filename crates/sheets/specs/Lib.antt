pub mod MemorySheet
pub mod Ceiling
pub mod FinishedText
