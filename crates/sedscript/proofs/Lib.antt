pub mod Coming
pub mod FlagLemmas
pub mod Chars
pub mod Pieces
pub mod ByteTables
pub mod Packing
pub mod Cuts
pub mod Exclusive
mod OneMeaning
pub mod OneFault
pub mod Labels
pub mod FileTables
pub mod Blocks
pub mod TargetFaults
pub mod Places
pub mod Bounds
