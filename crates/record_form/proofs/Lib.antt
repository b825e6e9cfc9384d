pub mod Fronts
pub mod Steps
pub mod FieldsRead
pub mod EntriesRead
pub mod Found
