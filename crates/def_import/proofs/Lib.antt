mod FileNames
mod ReadFiles
mod Naming
mod Beginning
pub mod Fitting
mod FrontNames
mod Limits
mod OneMore
mod Asking
mod Ordering
mod Noting
mod Gathers
mod UnitKept
mod Places
mod FoundTexts
mod Rounds
pub mod WholeUnits
mod OneOutcome
