pub mod ActionCases
pub mod LoopCases
pub mod FlowsLater
pub mod FlowRows
pub mod FlowDepths
pub mod FlowsSized
pub mod FlowsAppended
pub mod Flowed
pub mod StatementFolds
pub mod FlowLists
pub mod StatementReads
pub mod FlowsMade
pub mod FlowsBehind
pub mod CaseLists
pub mod StatementGiven
pub mod Walked
pub mod Walkers
pub mod SimpleGiven
mod ProcedureCodes
mod PiecesJoined
mod TopStatements
mod BodyStatements
