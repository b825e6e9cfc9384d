pub mod Identity
pub mod Places
pub mod SiteTexts
pub mod Valid
