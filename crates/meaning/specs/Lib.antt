-- What the product does, as definitions: each states clauses of docs/FORMAT.md, which it cites as FORMAT and the clause's number.
-- To be read in this order. Machine and Number: numbers of the machine, remainders and signed values. Text: lines, fields, spelled numbers.
-- Known: the ends of values and the digit rule. Row: rows and digit groups. Gadget: what each kind of line does. Word, Line and Write: the
-- words, and lines from bytes and back. Meaning: what is known after a line. Refusal: reading and refusals 1 to 12. Kept: what holds of a
-- list that was read. Work: working and true tables. Reply: what the calls reply. Desk and Program: the desk, and the program's answer.
-- Claims: what is claimed of all this, as types. Examples: the worked tables.
pub mod Machine
pub mod Number
pub mod Text
pub mod Known
pub mod Row
pub mod Gadget
pub mod Word
pub mod Line
pub mod Write
pub mod Meaning
pub mod Refusal
pub mod Kept
pub mod Work
pub mod Reply
pub mod Desk
pub mod Program
pub mod Claims
pub mod Examples
