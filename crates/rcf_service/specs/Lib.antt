pub mod Rcf
