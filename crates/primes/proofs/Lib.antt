-- The laws of the test for a prime: from divisors to the test of meaning, then the table, the wheel and the trial.
pub mod OddPrime
pub mod PrimeTable
