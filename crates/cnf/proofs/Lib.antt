pub mod GivingEach
pub mod GivingAll
pub mod PartlyGiven
pub mod Marking
pub mod Overwriting
pub mod Showing
pub mod Fronts
pub mod CellsBack
pub mod TextBack
pub mod Asking
pub mod Limiting
pub mod Giving
pub mod Satisfying
pub mod UnitLists
mod Forming
