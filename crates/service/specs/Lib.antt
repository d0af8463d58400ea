-- What the calls promise and what the walks below them are given (`..Given`) and yield (`..Yield`); `..Meaning` reads an enum or a struct of the code as a value of the definitions.
-- Last stand the claims about the code's own replies.
pub mod Walk
pub mod Taken
pub mod Reply
pub mod Show
pub mod Check
pub mod Make
pub mod Claims
