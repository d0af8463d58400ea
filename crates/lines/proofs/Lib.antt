-- The laws behind the line reader: what a word and numbers are as a line, then a line's fields, and last what the line reader's answer says to its callers
-- (`Answers`).
pub mod Lines
pub mod LineFields
pub mod Answers
