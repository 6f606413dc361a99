pub mod Slack
pub mod Allotted
