pub mod HdrBoxes
pub mod Lengths
pub mod Orientation
pub mod OrientationLaws
pub mod Pixi
pub mod PixiLaws
pub mod Property
