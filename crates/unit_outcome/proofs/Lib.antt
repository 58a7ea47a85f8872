pub mod Fronts
mod Coming
pub mod StreamTokens
pub mod FaultsStand
pub mod BlockTexts
pub mod BlocksStand
mod OutcomeStands
