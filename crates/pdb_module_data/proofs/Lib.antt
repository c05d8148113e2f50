pub mod AscendingRows
mod Bodies
pub mod BriefSteps
mod BodySteps
pub mod CallRowSteps
mod CallsDeep
pub mod ChainSteps
pub mod CutSteps
mod FirstStarts
mod ForestGrammar
pub mod KeptRows
pub mod KnownNames
pub mod NameEnds
pub mod NestedSites
mod OpenBodies
pub mod Deepest
pub mod InlineeSteps
pub mod InlineSteps
pub mod PieceSteps
pub mod PlainKinds
pub mod ProcedureSteps
pub mod RowPieceSteps
pub mod RowSteps
pub mod SiteRowSteps
pub mod SitesGoneOver
pub mod SubsectionRows
