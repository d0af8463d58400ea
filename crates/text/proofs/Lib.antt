-- The laws behind the readers of numbers and words: places and ends first, then numbers and words.
pub mod Bytes
pub mod Numbers
pub mod Places
pub mod Ends
pub mod Sizing
pub mod Signed
pub mod Words
pub mod Codes
