pub use Rattle.sedtext.proofs.MatchingLemmas
pub use Rattle.sedtext.proofs.SpanLemmas
pub mod Closing
pub mod OccurrenceLemmas
pub mod RoomLemmas
pub mod StretchLemmas
pub mod Words
