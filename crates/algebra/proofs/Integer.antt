-- Integers, four ways of proving with them: order and linear facts by `omega`, with the sums and differences listed (`Order`) or read by rules (`Linear`),
-- and ring identities, of low degree by natural numbers (`Difference`) or of any degree by computing normal forms (`Ring`).
pub mod Order
pub mod Linear
pub mod Difference
pub mod Ring
