pub mod Dues
pub mod LawTexts
