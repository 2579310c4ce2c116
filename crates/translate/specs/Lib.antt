pub mod Books
pub mod Translation
pub mod Streaming
pub mod Entering
pub mod Whole
pub mod Solutions
