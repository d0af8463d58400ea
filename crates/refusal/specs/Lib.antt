-- How the refusals of the code are read: the number of each, and the replies that answers are.
pub mod Refusal
