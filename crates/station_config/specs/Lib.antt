pub mod Answers
pub mod Causes
pub mod Drafts
pub mod Grammar
pub mod Identity
pub mod Kinds
pub mod Same
pub mod Validity
