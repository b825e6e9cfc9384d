mod OneMore
mod Landing
mod Mending
mod Moments
mod Again
mod NoRoom
mod Short
