pub mod Codes
pub mod Counting
pub mod Judged
pub mod Refused
pub mod Scales
