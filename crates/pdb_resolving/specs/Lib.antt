pub mod Cause
pub mod Failed
pub mod Failures
pub mod Fault
pub mod KeptTables
pub mod Reaches
pub mod Resolving
pub use Rattle.pdb_subsections.specs.Imports
