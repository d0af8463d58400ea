-- What the rules of a line are given and what the line yields by them, in the code's own types: `Ready` and `Represented` are what is lent, `Yield` is the ends that a
-- line makes or the first rule that it breaks, and `..Yield` is that of one kind of line or of one rule. `..Meaning` reads an enum or a struct of the code as a value
-- of the definitions.
pub mod Digits
pub mod Ready
pub mod Yield
pub mod Rule
pub mod Sum
