pub mod Released
pub mod Outcomes
pub mod Replies
pub mod Refusals
pub mod RuleLaws
pub mod Unique
