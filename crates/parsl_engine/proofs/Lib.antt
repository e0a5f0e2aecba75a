mod Lines
mod Refusals
mod Courses
mod Turning
mod Stopping
mod Attempts
pub mod Opening
mod Outputs
mod RunsTold
