-- What a writer leaves in the part of the output that is lent to it.
pub mod Written
