pub mod Calls
pub mod Reports
pub mod Outcomes
