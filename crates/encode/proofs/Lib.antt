mod ShortClauses
mod Terms
mod Parts
mod Masks
mod LeastSets
mod LeastLists
mod DirectNaming
pub mod Directing
pub mod DirectCases
mod OrderNaming
mod Matrix
mod Places
pub mod Ordering
pub mod OrderCases
pub mod Modelling
pub mod Choosing
pub mod Wholes
pub mod Extending
pub mod Together
