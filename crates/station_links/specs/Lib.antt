pub mod LinkLines
pub mod Connected
pub mod Rounds
pub mod Asked
pub mod Run
pub mod Lives
