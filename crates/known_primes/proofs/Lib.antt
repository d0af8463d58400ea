-- That they are prime. It is computed here once, in a crate of its own, so that an edit of `number` does not compute it again.
pub mod Known
pub mod KnownPrime
