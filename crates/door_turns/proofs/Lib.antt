mod Rows
mod Links
