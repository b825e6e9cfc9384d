pub mod Running
pub mod Outcomes
pub mod Promises
pub mod Rehearsals
pub mod OneForward
pub mod SentLines
pub mod Sessions
