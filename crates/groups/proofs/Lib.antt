-- The laws of what the kinds of lines share, in the order in which a line is treated.
--
-- whole numbers and machine words
pub mod Whole
pub mod GroupNumbers
-- working a line, and writing its cells
pub mod SignPower
pub mod CellsGroup
pub mod CellsSign
-- checking its rows
pub mod RowsFirst
pub mod RowsForm
pub mod RowsGroup
pub mod RowsSign
