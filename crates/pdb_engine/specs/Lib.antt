pub mod Address
pub mod Answering
pub mod InputFaultText
pub mod InputFaults
pub mod InputLines
pub mod Puts
pub mod Requests
pub mod Watched
