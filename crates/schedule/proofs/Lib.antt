mod Rests
mod Marks
mod Terms
mod LineRead
mod Numbers
mod Counting
pub mod Steps
pub mod ReadingBack
pub mod WholeFiles
mod RecordFaults
mod CausesGiveFault
mod RecordsSeen
mod HeadersSeen
mod LinesSeen
mod FilesSeen
pub mod LinesPass
