-- What each line does, by its word, and what is known after it; clause 9.5 of docs/FORMAT.md.
use Rattle.std.specs.Prelude.{ℕ, suc, ◌+◌, cond, List, [], ◌∷◌, ◌++◌, length, ℤ}
use Rattle.meaning.specs.Word.{Word, size_at, kind_of}
use Rattle.meaning.specs.Line.{Line}
use Rattle.meaning.specs.Known.{Known, Ends}
use Rattle.meaning.specs.Gadget.Interface.{Gadget}

-- what a line does, by its word. FORMAT 3.1
unfoldable pub gadget : Known → Line → Gadget
gadget s l = (kind_of l.word).gadget s l.numbers

-- the field line alone sets p. FORMAT 1.1, 3.5
unfoldable pub prime_after : Word → ℕ → List ℤ → ℕ
prime_after w p ns = cond (kind_of w).is_field (size_at ns 0) p

-- the cells of a line's values: its first ones. FORMAT 7.2
unfoldable pub places_from : ℕ → List Ends → List ℕ
places_from at [] = []
places_from at (e ∷ es) = at ∷ places_from (suc at) es

-- what is known after a line that is not refused. Cells follow one another without gaps. FORMAT 7.1, 9.5
unfoldable pub after : Known → Line → Known
after s l =
    let g : Gadget = gadget s l in
    record {
      p = prime_after l.word s.p l.numbers;
      known = g.narrowed ++ g.made;
      places = s.places ++ places_from s.cells g.made;
      inputs = s.inputs + g.inputs;
      cells = s.cells + g.width;
      rows = s.rows + length g.rows;
    }
