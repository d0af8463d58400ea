-- What is claimed of the code's own replies, as types: for every list, table and column, whoever wrote the table. Each speaks of a reply that
-- keeps the promise of `check` or `make` (`Checks`, `Makes`), and of the table that `make` leaves. The proofs are terms of these types, in
-- proofs/Claims.antt; docs/FORMAT.md and crates/meaning/specs say what the words mean.
use Rattle.std.specs.Prelude.{ℕ, ◌<◌, ◌≡◌, ◌↔◌, ◌⊎◌, List, length, ℤ, Result}
use Rattle.meaning.specs.Line.{Line}
use Rattle.meaning.specs.Known.{Known}
use Rattle.meaning.specs.Refusal.{read, reading}
use Rattle.meaning.specs.Work.{false-at, true-table, work}
use Rattle.meaning.specs.Reply.{reply}
use Rattle.meaning.specs.Claims.{WellFormed, Holds, Column, inputs_of, values_of}
use Rattle.service.specs.Reply.{reply_meaning, number_returned, Checks, Makes}
use Rattle.refusal.specs.declared.refused.Refused.{Refused}

-- the reply 0, 0. FORMAT 9.3
abbrev pub Accepts : Result (Unit {0}) Refused → Type 0
Accepts r = reply_meaning r ≡ reply 0 0

-- the number alone tells it, of a check and of a making: by it the desk counts, and a caller by the C ABI knows. FORMAT 9.3
abbrev pub AcceptedByNumber : Type 0
AcceptedByNumber =
    ((list table : List ℕ) (r : Result (Unit {0}) Refused) → Checks list table r → (number_returned r ≡ 0) ↔ Accepts r)
    × ((list : List ℕ) (inputs : List ℤ) (table : List ℕ) (r : Result (Unit {0}) Refused) (after : List ℕ) → Makes list inputs table r after → (number_returned r ≡ 0) ↔ Accepts r)

-- ---- rows

-- a table that fits the list is accepted exactly when all rows hold, else the first that does not is named. FORMAT 8.12
abbrev pub RowsAreChecked : Type 0
RowsAreChecked =
    (list : List ℕ) (ls : List Line) (s : Known) (table : List ℕ) (r : Result (Unit {0}) Refused) → Checks list table r → reading list ≡ read ls s → WellFormed s table →
    (Accepts r ↔ ((i : ℕ) → i < s.rows → Holds s ls table i))
    × ((row : ℕ) → reply_meaning r ≡ reply 15 row ↔ ((row < s.rows) × (¬ Holds s ls table row) × ((i : ℕ) → i < row → Holds s ls table i)))
    × (Accepts r ⊎ ((row : ℕ) × (reply_meaning r ≡ reply 15 row)))

-- ---- true tables

-- whoever wrote the table: it is accepted exactly when it is the true table of the inputs that stand in it. FORMAT 8.11
abbrev pub OnlyTrueTablesPass : Type 0
OnlyTrueTablesPass =
    (list : List ℕ) (ls : List Line) (s : Known) (table : List ℕ) (r : Result (Unit {0}) Refused) → Checks list table r → reading list ≡ read ls s →
    Accepts r ↔ (WellFormed s table × (work ls (inputs_of s ls table) ≡ true-table (values_of s table) table))

-- no table passes with a list that is refused. FORMAT 9.6
abbrev pub NothingPassesUnread : Type 0
NothingPassesUnread =
    (list table : List ℕ) (r : Result (Unit {0}) Refused) → Checks list table r → Accepts r → (ls : List Line) × (s : Known) × (reading list ≡ read ls s)

-- ---- making

-- the maker writes the true table of a column whose statements are true; else it replies the first false line, and no table in which the column
-- stands is accepted. FORMAT 8.13, 10.18
abbrev pub MakesTrueTables : Type 0
MakesTrueTables =
    (list : List ℕ) (ls : List Line) (s : Known) (inputs : List ℤ) (table : List ℕ) (r : Result (Unit {0}) Refused) (after : List ℕ) →
    Makes list inputs table r after → reading list ≡ read ls s → Column s inputs → length table ≡ s.cells →
    ((values : List ℤ) (cells : List ℕ) → work ls inputs ≡ true-table values cells →
    Accepts r × (after ≡ cells) × (inputs_of s ls after ≡ inputs) × (values_of s after ≡ values))
    × ((line : ℕ) → work ls inputs ≡ false-at line → (reply_meaning r ≡ reply 18 line) × (after ≡ table)
    × ((other : List ℕ) (checked : Result (Unit {0}) Refused) → Checks list other checked → inputs_of s ls other ≡ inputs → ¬ Accepts checked))

-- what the maker wrote passes, and no other table with these inputs does. FORMAT 8.13
abbrev pub MadeTablesPass : Type 0
MadeTablesPass =
    (list : List ℕ) (inputs : List ℤ) (table : List ℕ) (r : Result (Unit {0}) Refused) (after : List ℕ) → Makes list inputs table r after → Accepts r →
    ((checked : Result (Unit {0}) Refused) → Checks list after checked → Accepts checked)
    × ((ls : List Line) (s : Known) → reading list ≡ read ls s → (other : List ℕ) (checked : Result (Unit {0}) Refused) → Checks list other checked → Accepts checked →
    inputs_of s ls other ≡ inputs → other ≡ after)

-- ---- memory

-- a refused making leaves the table as it was. FORMAT 9.8
abbrev pub RefusedMakingChangesNothing : Type 0
RefusedMakingChangesNothing =
    (list : List ℕ) (inputs : List ℤ) (table : List ℕ) (r : Result (Unit {0}) Refused) (after : List ℕ) → Makes list inputs table r after → ¬ Accepts r → after ≡ table
