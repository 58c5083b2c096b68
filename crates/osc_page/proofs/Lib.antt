pub mod AddedTokens
pub mod AnswerTexts
pub mod ReadBack
pub mod Responses
pub mod ToldTexts
