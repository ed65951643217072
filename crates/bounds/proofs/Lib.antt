mod Budgets
pub mod OwnTurn
pub mod Counts
mod Rounds
pub mod Open
mod LinkedRows
mod Moves
pub mod Rows
pub mod SurveySteps
pub mod SurveyTurns
pub mod Bounds
pub mod Counted
mod Worked
pub mod Theorems
