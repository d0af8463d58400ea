-- What a reading writes where its answer cannot cross the C ABI as it is.
pub mod Read
