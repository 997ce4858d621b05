pub mod Bytes
pub mod Codes
pub mod Machine
pub mod Meaning
pub mod Packed
pub mod Spelled
pub mod Text
pub mod TextLaws
