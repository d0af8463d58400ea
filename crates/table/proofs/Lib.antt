-- The laws of the kinds of lines, in the order in which a line is treated.
--
-- a line: its word, its numbers, and the values that they name
pub mod LineNumbers
pub mod LineKinds
pub mod LineValues
pub mod LineSum
-- working a line
pub mod WorksSum
pub mod WorksSumFits
pub mod WorksLine
-- writing its cells
pub mod CellsRoot
pub mod CellsLine
-- checking its rows
pub mod RowsSigned
pub mod RowsMax
pub mod RowsRoot
pub mod RowsLine
pub mod RowsSum
