-- The laws of given lines: their text and its length, what is written so far, numbers of one and two digits, and a line as the reader's steps ask for it.
pub mod Texts
pub mod Lengths
pub mod Begun
pub mod Digits
pub mod Tabbed
pub mod Taking
