pub mod Laws
pub mod Order
pub mod Places
pub mod Truth
