-- What the contracts of `number` say that meaning and algebra do not: what a step of Euclid keeps, a power up to a cap, and a bound on a whole number.
pub mod Euclid
pub mod Power
pub mod Bounded
