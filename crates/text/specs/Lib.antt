-- How the readers of the text format answer, over the definitions of a text in meaning. `..Yield` is what the bytes at a place yield: the number or the
-- word there, and where it ends, or that there is none. `..Meaning` reads an enum of the code as a value of the definitions.
pub mod Ended
pub mod Place
pub mod Number
pub mod Word
pub mod Code
