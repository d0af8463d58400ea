-- One call of the desk, and the claims about any number of them.
pub mod Calling
pub mod Claims
