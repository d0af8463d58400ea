-- The laws of writing: a number's digits from the last to the first, one text after another, and a signed number by its size.
pub mod Writing
pub mod Digits
pub mod Signed
