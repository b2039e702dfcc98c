pub mod Edited
pub mod Words
pub mod Alone
pub mod Slashed
pub mod Ampleness
pub mod InTurn
pub mod OneText
