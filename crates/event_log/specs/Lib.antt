pub mod LogText
pub mod LogWords
pub mod Logs
pub mod Reading
