-- What the kinds of lines share in a table, as their contracts say it: the numbers that a line has, how great they are, its cells and its rows. `..Meaning` reads an enum of the
-- code as a value of the definitions, `GroupOf` and its like say what a function is given.
pub mod Cells
pub mod Numbers
pub mod Rows
