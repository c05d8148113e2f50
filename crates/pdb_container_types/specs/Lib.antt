pub mod Item
pub mod ItemType
pub mod Items
pub mod IteratorAndFinder
pub mod KeptPlaces
