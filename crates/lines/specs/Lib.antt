-- How the line reader answers, over the definitions of a line in meaning. `..Yield` is what the bytes at a place yield: the fields or the line there, and where the
-- next one starts, or that there is none. `..Meaning` reads an enum of the code as a value of the definitions.
pub mod Parsed
