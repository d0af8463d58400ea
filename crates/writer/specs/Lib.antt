-- What reading given lines yields, in the code's own types; and what `write` promises, with the claims about its replies.
pub mod Survey
pub mod Claims
