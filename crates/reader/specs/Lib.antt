-- What reading a list yields, a line at a time and whole, in the code's own types: the state in arrays, how much a line adds to the counts, one step, and the answer. `..Yield` is
-- what a line yields, `..Meaning` reads an enum of the code as a value of the definitions.
pub mod State
pub mod Size
pub mod Line
pub mod Step
pub mod Read
