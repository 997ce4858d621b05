pub mod Along
pub mod Back
pub mod Far
pub mod Shift
