-- What the contracts of `primes` say that meaning does not: the primes that are tried.
pub mod Table
