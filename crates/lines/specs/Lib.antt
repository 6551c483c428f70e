pub mod EventLine
pub mod BadField
pub mod Layout
pub mod AnswerLine
pub mod Round
