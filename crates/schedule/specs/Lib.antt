pub mod Records
pub mod Reading
pub mod Writing
pub mod Faults
pub mod ReadLine
pub mod Place
