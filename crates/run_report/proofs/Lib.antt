pub mod PlainTexts
pub mod LogFound
