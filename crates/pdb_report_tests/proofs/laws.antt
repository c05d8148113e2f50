mod DeepAnswers
mod FailingParts
