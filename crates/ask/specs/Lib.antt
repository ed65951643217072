pub mod Numbers
pub mod Replies
pub mod Sheets
pub mod Lines
pub mod Texts
pub mod Answers
