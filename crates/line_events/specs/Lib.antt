pub mod Shows
pub mod Progress
pub mod Forms
pub mod Laws
