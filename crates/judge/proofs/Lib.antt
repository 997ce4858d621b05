pub mod Downs
pub mod Falls
pub mod Saids
pub mod Unrolls
