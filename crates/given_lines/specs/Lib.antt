-- What the functions over given lines yield, in the code's own types: a line out of the three rows, the length of a text, and a line as the reader's
-- steps ask for it.
pub mod Given
pub mod Measure
pub mod Line
