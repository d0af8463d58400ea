-- The five great primes that the test for a prime knows, as a list.
pub mod Known
