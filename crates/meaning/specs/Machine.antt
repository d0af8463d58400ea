-- Where the machine's numbers end, which bounds what a call can be given: for each type of the code, the first whole number past those that it
-- holds. An `abbrev`, as every bound is, so that the arithmetic sees the number.
use Rattle.std.specs.Prelude.{ℕ, ◌^◌}

-- 16 bits
abbrev pub past_u16 : ℕ
past_u16 = 2 ^ 16

-- 31 bits and a sign
abbrev pub past_i32 : ℕ
past_i32 = 2 ^ 31

-- 32 bits, as a cell of a table has. FORMAT 9.1
abbrev pub past_u32 : ℕ
past_u32 = 2 ^ 32

-- 63 bits and a sign, as an input has. FORMAT 9.1
abbrev pub past_i64 : ℕ
past_i64 = 2 ^ 63

-- 64 bits, as a count of a desk and the number of a line have. FORMAT 9.1
abbrev pub past_u64 : ℕ
past_u64 = 2 ^ 64
