pub mod Distinct
mod Matches
mod Lengths
pub mod Places
pub mod Numbers
pub mod RowWrites
pub mod Passes
pub mod Waiting
pub mod Opens
pub mod Keeping
pub mod TableViews
pub mod GraphPlaces
pub mod Telling
