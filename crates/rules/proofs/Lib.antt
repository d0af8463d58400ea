-- The laws behind the rules: tests, a base and its digit count, and what is lent first; then what a line yields by the first rule that it breaks, for every kind and for
-- each.
pub mod Tests
pub mod Digits
pub mod Values
pub mod Rules
pub mod Inputs
pub mod DigitLines
pub mod DigitKinds
pub mod SumLine
pub mod Pairs
