-- The proofs of the claims in specs/Claims.antt, and the laws that the crates above use.
-- First laws of lists, numbers and cells. Then a digit group (Group), the law that every kind of line keeps (Law) and its proof for each kind
-- (Gadget, Lines), and the induction over a list by that law alone (Induction, Working). Then the claims: reading is exact (Reading), checking is
-- exact (Rows), what is accepted is the true table (TrueTables, Accepted), the desk counts (Desk), lists are written as they are read (Write, with
-- NumberText and Split). Last what is computed: that the claims are not empty (NotEmpty), and the worked tables (WorkedTables).
pub mod Lists
pub mod Results
pub mod Part
pub mod Decimal
pub mod Number
pub mod Order
pub mod Cells
pub mod Hold
pub mod Group
pub mod Law
pub mod Gadget
pub mod Ranks
pub mod Words
pub mod RowCounts
pub mod Kept
pub mod Lines
pub mod Induction
pub mod Working
pub mod Reading
pub mod Rows
pub mod TrueTables
pub mod Accepted
pub mod Desk
pub mod NumberText
pub mod Split
pub mod Write
pub mod Compute
pub mod NotEmpty
pub mod WorkedTables
