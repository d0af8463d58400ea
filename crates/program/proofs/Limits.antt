-- The most that a list which is read has, and how many lines its text can have: what no sum overflows by.
use mathlib.Core.Path.{◌≡◌, subst}
use mathlib.Core.List.{List, [], ◌∷◌}
use Prim.Native.Nat.{ℕ, suc, ◌+◌, ◌≤◌}
use native.Mathlib.Omega.{arith}
use lib.Dec.{leb→le}
use lib.ListN.{length, length-append}
use Rattle.meaning.specs.Refusal.{value_limit, cell_limit, read, reading}
use Rattle.meaning.specs.Line.{Line}
use Rattle.meaning.specs.Known.{Known, fresh}
use Rattle.meaning.specs.Meaning.{gadget, after}
use Rattle.meaning.specs.Program.{joined}
use Rattle.meaning.specs.Kept.{Kept, Keeps}
use Rattle.meaning.proofs.Kept.{keeps-all}
use Rattle.meaning.proofs.Reading.{read_kept}
use Rattle.reader.proofs.Steps.{few}
use Rattle.service.specs.Walk.{ListRead}

-- ---- the most that a list which is read has

pub record Most (s : Known) : Type 0 where
  pub values-most : length s.known ≤ value_limit
  pub inputs-most : s.inputs ≤ length s.known
  pub cells-most : s.cells ≤ cell_limit

most-after : (n : ℕ) (s : Known) (l : Line) → Keeps n s l → Most s → Most (after s l)
unfolding after
most-after n s l keeps m =
    let g = gadget s l in
    let f = few n s l keeps in
    let all = length-append g.narrowed g.made in
    record {
      values-most = omega (arith, all, f.2, leb→le (length s.known + length g.made) value_limit keeps.values-fit);
      inputs-most = omega (arith, all, f.0, f.2, m.inputs-most);
      cells-most = omega (arith, leb→le (s.cells + g.width) cell_limit keeps.cells_fit);
    }

most-kept : (ls : List Line) (n : ℕ) (s last : Known) → Kept n s ls last → Most s → Most last
most-kept [] n s last k m = subst Most k m
most-kept (l ∷ ls) n s last k m = most-kept ls (suc n) (after s l) last k.1 (most-after n s l (keeps-all n s l k.0) m)

pub read-most : (list : List ℕ) (ls : List Line) (s : Known) → reading list ≡ read ls s → Most s
unfolding fresh
read-most list ls s e =
    most-kept ls 0 fresh s (read_kept list ls s e) (record { values-most = omega arith; inputs-most = omega arith; cells-most = omega arith })

pub list-most : {list : List ℕ} (l : ListRead list) → Most l.last
list-most {list} l = read-most list l.lines l.last l.is_read

-- ---- joined lines have no fewer bytes than there are lines

pub joined-few : (ls : List (List ℕ)) → length ls ≤ length (joined ls)
unfolding joined
joined-few [] = omega arith
joined-few (l ∷ ls) = omega (arith, joined-few ls, length-append l (10 ∷ joined ls))
