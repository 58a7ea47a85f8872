mod Fronts
mod ImportNames
mod Looping
mod NamedOnce
pub mod OneLoading
mod Orders
mod Reaching
