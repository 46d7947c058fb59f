pub mod Line
pub mod File
pub mod Read
pub mod Text
pub mod Places
pub mod Laws
