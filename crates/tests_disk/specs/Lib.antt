pub mod PartFile
pub mod PartFileLaws
