pub mod Bounds
pub mod CachedModules
pub mod KnownModules
pub mod ProcedureData
pub mod SectionBounds
pub mod Seen
pub mod SubsectionRows
