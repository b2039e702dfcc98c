pub mod CallsLemmas
pub mod RunLemmas
