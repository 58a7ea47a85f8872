mod Digits
mod Lexing
mod LongestFrom
mod LongestNumerals
mod LongestRuns
mod LongestStrings
mod LongestSymbols
pub mod ReadTokens
pub mod SpelledNames
pub mod TextUnit
pub mod FaultLaws
