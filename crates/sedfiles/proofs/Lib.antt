pub mod CommandLineLemmas
pub mod JoinLemmas
pub mod MemoryFinding
pub mod PartsLemmas
pub mod MemorySinkLemmas
