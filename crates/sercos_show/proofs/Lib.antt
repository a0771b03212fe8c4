pub mod LineLemmas
pub mod SpareBits
pub mod HexPairs
pub mod HexLines
pub mod DigitLemmas
pub mod SpelledLines
pub mod WrittenLines
pub mod PlaceLemmas
pub mod SetHex
pub mod ShowLemmas
mod WorkedLines
