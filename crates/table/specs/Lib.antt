-- What working a line, writing its cells and checking its rows are given (`..Given`) and what they then yield (`..Yield`), one definition for all kinds of lines; and the cells of those
-- kinds that need a name of their own.
pub mod Value
pub mod Max
pub mod Root
pub mod Sum
pub mod Line
pub mod LineValues
pub mod LineRows
