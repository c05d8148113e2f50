pub mod ContextSteps
