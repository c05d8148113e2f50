pub mod FrameReports
pub mod LineSteps
pub mod NothingOut
