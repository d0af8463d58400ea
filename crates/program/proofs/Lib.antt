-- The laws behind the program's answer: its texts and their lengths, the parts of the input, the inputs, then the answer by what was found.
pub mod Texts
pub mod Lengths
pub mod Parting
pub mod Inputs
pub mod Answering
pub mod Limits
pub mod Responding
