pub mod Reachable
pub mod StopsWhole
pub mod Closings
pub mod Separation
pub mod SeparationRows
