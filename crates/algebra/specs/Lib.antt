-- Mathematics with no word of this product, as definitions: congruence and remainders, primes, base-b digits, the square root. `meaning` passes them
-- on by name, so that a law of algebra is about the very function that a cell is defined by.
pub mod Congruence
pub mod Prime
pub mod Digits
pub mod Root
