mod Times
pub mod Steps
mod Chains
mod Walking
pub mod Drafts
mod Known
mod Counts
mod Later
mod Serves
mod Fills
mod Resolves
mod Starts
mod Jobs
pub mod Surveys
mod Right
pub mod Sums
mod Paces
mod Costs
mod Spends
mod Turns
pub mod Limits
mod Worked
mod Effects
pub mod Runs
mod Told
mod Placed
mod Begun
pub mod Histories
mod RunSteps
pub mod OpenBack
pub mod RunCourses
pub mod RunMarks
pub mod Written
pub mod PageTurns
pub mod RunSurveys
pub mod RunAnswers
pub mod Theorems
