mod Checks
mod Seen
mod Traced
mod Firsts
mod Left
mod Named
mod Cases
mod Bridges
mod Deeds
mod DeedRuns
mod Stamps
mod Pages
mod Rests
mod CountRuns
mod Chains
mod Bounded
mod Surveys
mod Answered
mod Leaves
mod SurveyKeys
mod Points
pub mod Theorems
pub mod Contracts
