-- What public contracts cite.
pub mod Frames
pub mod Elements
pub mod Shelves
pub mod Layouts
pub mod Columns
pub mod Waits
pub mod Curves
pub mod Captions
pub mod Strips
pub mod Bundles
pub mod Scales
pub mod Legends
pub mod Styles
pub mod Thinnings
pub mod Headings
pub mod Pictures
