-- What a line does: one interface, which reading, making and checking go by, and a module for each kind of line. Digits and Sign are what several
-- of them share.
pub mod Interface
pub mod Digits
pub mod Sign
pub mod Field
pub mod Input
pub mod Span
pub mod Sum
pub mod Relu
pub mod Which
pub mod Max
pub mod Root
