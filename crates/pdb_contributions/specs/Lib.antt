pub mod BoundNumbers
pub mod ContributionPieces
pub mod MergedContributions
pub mod Publics
pub mod SectionBounds
pub mod UnmergedContributions
