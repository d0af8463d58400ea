-- The program's answer in the parts in which it is written, and what the functions that find and answer the parts of the input are given (`..Given`) and yield (`..Yield`).
pub mod Texts
pub mod Input
pub mod Made
pub mod Answered
