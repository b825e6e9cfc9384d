pub mod Numbers
pub mod Digest
pub mod Signed
pub mod Auth
pub mod Laws
