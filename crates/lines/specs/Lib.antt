pub mod CheckedLine
pub mod Nets
pub mod Forms
pub mod Tables
