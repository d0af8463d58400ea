-- Checking a table against a list that was read: what its cells and its rows are given, and what they reply.
use Rattle.std.specs.Prelude.{◌≡◌, List, ℕ, length, Some, None}
use Rattle.std.specs.Prelude.{Option as Perhaps}
use Rattle.std.proofs.Math.Option.{Option, none, some}
use Rattle.algebra.specs.Digits.{Below}
use Rattle.meaning.specs.Line.{Line}
use Rattle.number.specs.declared.cell.Cell.{Cell}
use Rattle.meaning.specs.Known.{Known}
use Rattle.meaning.specs.Row.{holds}
use Rattle.meaning.specs.Refusal.{on_some}
use Rattle.meaning.specs.Reply.{Reply, reply, first_fail, rows_of}
use Rattle.service.specs.Walk.{ListRead}

-- the refusal at the first cell of p or more. FORMAT 10.14
unfoldable pub cells_meaning : Perhaps Cell → Option Reply
cells_meaning None = none
cells_meaning (Some cell) = some (reply 14 cell.0)

-- a table of the list's length with all cells below p. FORMAT 8.8
pub record TableGiven (list table : List ℕ) (p : ℕ) : Type 0 where
  pub listed : ListRead list
  pub prime : listed.last.p ≡ p
  pub long : listed.last.cells ≡ length table
  pub below : Below p table

-- what its rows then reply. FORMAT 10.15
unfoldable pub rows_reply : Known → List Line → List ℕ → Reply
rows_reply s ls t = on_some (first_fail (holds s.p t) 0 (rows_of ls)) (reply 15) (reply 0 0)
