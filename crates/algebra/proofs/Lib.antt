-- The laws of algebra/specs, and how they are proved: integers first, then tests as propositions, then congruence, primes, digits and the root,
-- each file on those before it.
pub mod Integer
pub mod Test
pub mod Congruence
pub mod Prime
pub mod PrimeDivisor
pub mod Digits
pub mod Root
