-- The desk of the code as that of the definitions, runs of its calls, and the claims about them. `..Meaning` reads a struct of the code as a value of the definitions.
pub mod Desk
pub mod Run
pub mod Claims
