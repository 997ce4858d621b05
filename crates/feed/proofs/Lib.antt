pub mod Leads
pub mod Packs
pub mod Rests
pub mod Scan
pub mod Steps
pub mod Texts
