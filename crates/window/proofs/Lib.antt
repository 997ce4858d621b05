pub mod CountAppended
pub mod Folding
pub mod Parts
pub mod SinceAppended
