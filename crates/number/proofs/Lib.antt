-- Laws that the proofs of `number`'s functions share, and those of the crates above: signed numbers as machine words and their bounds first (`Word`, `Bounded`),
-- then the bound of a root, remainders, powers and Euclid's steps.
pub mod Word
pub mod Bounded
pub mod RootBound
pub mod Remainder
pub mod CappedPower
pub mod Euclid
