pub mod TaskReports
pub mod Tasks
pub mod UndecoratedLines
pub mod UndecoratedText
