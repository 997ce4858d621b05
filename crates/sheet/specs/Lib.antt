pub mod Bytes
pub mod Codes
pub mod Conditions
pub mod Contents
pub mod Fields
pub mod Formulas
pub mod Refused
pub mod Windows
