-- Working a list from a column of inputs, and its true table; clauses 8.3 to 8.6 of docs/FORMAT.md.
use Rattle.std.specs.Prelude.{ℕ, suc, cond, List, [], ◌∷◌, ◌++◌, get_or, drop, ℤ, pos}
use Rattle.meaning.specs.Line.{Line}
use Rattle.meaning.specs.Known.{Known, fresh}
use Rattle.meaning.specs.Gadget.Interface.{Gadget}
use Rattle.meaning.specs.Meaning.{gadget, after}

-- the values and the cells of the true table, or the first line whose statement is false. FORMAT 8.4, 8.5
pub data Worked : Type 0 where
  false-at : (line : ℕ) → Worked
  true-table : (values : List ℤ) (cells : List ℕ) → Worked

-- cells before those of the later lines
unfoldable pub with_cells : List ℕ → Worked → Worked
with_cells cs (false-at n) = false-at n
with_cells cs (true-table vs ds) = true-table vs (cs ++ ds)

-- from line n on, with what is known before it, the values before it and the inputs that are left. FORMAT 8.3, 8.4, 8.5
unfoldable pub work_from : ℕ → Known → List ℤ → List ℤ → List Line → Worked
work_from n s vs xs [] = true-table vs []
work_from n s vs xs (l ∷ ls) =
    let g : Gadget = gadget s l in
    let x : ℤ = get_or xs 0 (pos 0) in
    let rest : Worked = work_from (suc n) (after s l) (vs ++ g.values vs x) (drop g.inputs xs) ls in
    cond (g.statement vs) (with_cells (g.cells vs x) rest) (false-at n)

-- a read list, from a column of inputs. FORMAT 8.3
unfoldable pub work : List Line → List ℤ → Worked
work ls xs = work_from 0 fresh [] xs ls
