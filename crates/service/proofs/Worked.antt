-- Working a list line by line: the value that a line makes is taken in, and what holds before each line of the walk.
use mathlib.Core.Path.{◌≡◌, refl, sym, ap, ◌∙◌}
use mathlib.Core.Bool.{Bool, true, false, cond}
use mathlib.Core.List.{List, [], ◌∷◌, ◌++◌, append-nil, append_assoc}
use Prim.Native.Nat.{ℕ, suc, ◌+◌, ◌≤◌, ◌<◌}
use native.Mathlib.Omega.{arith}
use native.Mathlib.Nat.{add-zero}
use native.Mathlib.Numerals.{add-one}
use lib.Dec.{T, leb→le}
use lib.IntN.{ℤ, pos}
use lib.ListN.{length, get_or, take, drop, length-append, length-set}
use lib.Seq.{take-suc-set, get_or-drop, drop-drop}
use Rattle.algebra.proofs.Test.{≡-test}
use Rattle.meaning.specs.Number.{in_range}
use Rattle.meaning.specs.Line.{Line}
use Rattle.meaning.specs.Known.{Known, fresh, Within}
use Rattle.meaning.specs.Gadget.Interface.{Gadget}
use Rattle.meaning.specs.Meaning.{gadget, after}
use Rattle.meaning.specs.Refusal.{Result, value, refused_by, value_limit}
use Rattle.meaning.specs.Work.{false-at, true-table, with_cells, work_from, work}
use Rattle.meaning.specs.Work.{Worked as Meant}
use Rattle.meaning.specs.Reply.{filled}
use Rattle.meaning.specs.Kept.{Kept}
use Rattle.meaning.proofs.Kept.{keeps-all}
use Rattle.meaning.proofs.Law.{Law}
use Rattle.meaning.proofs.Induction.{first-law}
use Rattle.meaning.proofs.Working.{inputs-grow}
use Rattle.text.specs.Word.{word_of}
use Rattle.number.specs.declared.whole.Whole.{Whole}
use Rattle.reader.specs.Size.{counted}
use Rattle.reader.specs.declared.counts.Counts.{Counts}
use Rattle.reader.proofs.Steps.{few}
use Rattle.groups.specs.Cells.{worked_meaning}
use Rattle.refusal.specs.declared.refused.Refusal.{Refusal}
use Rattle.refusal.specs.declared.refused.Refused.{Refused}
use Rattle.refusal.specs.Refusal.{number_of}
use Rattle.std.specs.Prelude.{Option, Some, None, Ok, Err}
use Rattle.std.specs.Prelude.{Result as Answered}
use Rattle.table.specs.LineValues.{ValuesGiven, WorkYield}
use Rattle.service.specs.Walk.{Stands, ListRead}
use Rattle.service.specs.Taken.{Took, taken as taken-line}
use Rattle.service.specs.declared.walk.Taken.{Taken}
use Rattle.service.specs.Make.{with_value, WorkGiven, WorkingYield}
use Rattle.service.proofs.ReadList.{same_lines, same-last}
use Rattle.service.proofs.Standing.{stands-first, nothing_left, known-last, line_kept}

-- ---- the value that a line makes

same-values : {xs ys : List ℤ} → ◌≡◌ {A = Result (List ℤ)} (value xs) (value ys) → xs ≡ ys
same-values e = cc

same-number : {n m : ℕ} → ◌≡◌ {A = Result (List ℤ)} (refused_by n) (refused_by m) → n ≡ m
same-number e = cc

not-refused : {xs : List ℤ} {n : ℕ} → ◌≡◌ {A = Result (List ℤ)} (value xs) (refused_by n) → ⊥
not-refused e = let z : ◌≡◌ {A = ℕ} 0 1 = cc in omega arith

-- with those before it, it is among the first values
pub value_taken : (values : List ℤ) (at : ℕ) (r : Option Whole) (ys : List ℤ) → worked_meaning (Ok r) ≡ value ys → at + length ys ≤ length values
    → take (at + length ys) (with_value values at r) ≡ take at values ++ ys
value_taken values at (Some x) ys e h =
    let is : x.0 ∷ [] ≡ ys = same-values e in
    let one : length ys ≡ 1 = sym (ap (λ (q : List ℤ). length q) is) in
    rw (← is, add-one at, take-suc-set values at x.0 (omega arith)) refl
value_taken values at None ys e h = rw (← same-values e, add-zero at) (sym (append-nil (take at values)))

pub values-kept : (values : List ℤ) (at : ℕ) (r : Option Whole) → length (with_value values at r) ≡ length values
values-kept values at (Some x) = length-set values at x.0
values-kept values at None = refl

-- ---- what working a line answers

-- an answer with values is that of a true statement, and a refusal that of a false one, which is refusal 18
module _ (statement : Bool) (ys : List ℤ) where
  true-where-made : (r : Option Whole) → worked_meaning (Ok r) ≡ cond statement (value ys) (refused_by 18) → (statement ≡ true) × (worked_meaning (Ok r) ≡ value ys)
  true-where-made r e = by statement r e
    where
      by : (t : Bool) (x : Option Whole) → worked_meaning (Ok x) ≡ cond t (value ys) (refused_by 18) → (t ≡ true) × (worked_meaning (Ok x) ≡ value ys)
      by true x e = (refl, e)
      by false (Some z) e = absurd (not-refused e)
      by false None e = absurd (not-refused e)

  false-where-refused : (r : Refusal) → worked_meaning (Err r) ≡ cond statement (value ys) (refused_by 18) → (statement ≡ false) × (number_of r ≡ 18)
  false-where-refused r e = by statement e
    where
      by : (t : Bool) → refused_by (number_of r) ≡ cond t (value ys) (refused_by 18) → (t ≡ false) × (number_of r ≡ 18)
      by true e = absurd (not-refused (sym e))
      by false e = (refl, same-number e)

-- ---- cells in front of cells

cells-joined : (cs ds : List ℕ) (w : Meant) → with_cells cs (with_cells ds w) ≡ with_cells (cs ++ ds) w
unfolding with_cells
cells-joined cs ds (false-at n) = refl
cells-joined cs ds (true-table vs es) = ap (true-table vs) (sym (append_assoc cs ds es))

-- ---- the walk

-- the values of the lines before this one stand in the array
pub record WorkingOn (list : List ℕ) (inputs values : List ℤ) (c : Counts) (at n : ℕ) : Type 0 where
  pub given : WorkGiven list inputs
  pub state : Known
  pub left : List Line
  pub stands : Stands list given.listed.last state left c at n
  pub values-long : length values ≡ value_limit
  pub within : Within state.known (take (length state.known) values)
  pub cells : List ℕ
  pub so_far : work given.listed.lines inputs
      ≡ with_cells cells (work_from n state (take (length state.known) values) (drop c.inputs inputs) left)

nothing-before : (w : Meant) → w ≡ with_cells [] w
unfolding with_cells
nothing-before (false-at n) = refl
nothing-before (true-table vs cs) = refl

pub working-first : (list : List ℕ) (inputs values : List ℤ) → length values ≡ value_limit → WorkGiven list inputs
    → WorkingOn list inputs values (counted 0 0 0 0) 0 0
unfolding work fresh
working-first list inputs values k a = record {
  given = a;
  state = fresh;
  left = a.listed.lines;
  stands = stands-first list a.listed.lines a.listed.last a.listed.is_read a.listed.p-most;
  values-long = k;
  within = tt;
  cells = [];
  so_far = nothing-before (work a.listed.lines inputs);
}

module _ {list : List ℕ} {inputs values : List ℤ} {c : Counts} {at n : ℕ} (w : WorkingOn list inputs values c at n) where
  abbrev before : List ℤ
  before = take (length w.state.known) values

  abbrev next : ℤ
  next = get_or inputs c.inputs (pos 0)

  next-is : get_or (drop c.inputs inputs) 0 (pos 0) ≡ next
  next-is = get_or-drop c.inputs inputs 0 (pos 0) ∙ ap (λ (i : ℕ). get_or inputs i (pos 0)) (add-zero c.inputs)

  pub working-end : length list ≤ at → (m : ListRead list) → (u : Unit {0}) → WorkingYield m.lines m.last inputs values (Ok u)
  unfolding WorkingYield work_from with_cells
  working-end h m u = (
    w.cells ++ [],
    ap (λ (ls : List Line). work ls inputs) (sym (same_lines w.given.listed m)) ∙ w.so_far ∙ rw (nothing_left w.stands h)
        (ap (λ (z : Known). true-table (take (length z.known) values) (w.cells ++ [])) (known-last w.stands h ∙ same-last w.given.listed m)),
  )

  -- ---- what a line is worked with

  module _ {numbers : List ℤ} {t : Taken} {after-it : ℕ} (took : Took w.stands numbers t after-it) where
    abbrev pub values-given : ValuesGiven (word_of t.word) (take t.count numbers) (take c.values values)
    values-given = record {
      kept = line_kept took;
      within = rw (← w.stands.counted.values-are) w.within;
    }

    -- what its working answers, said of what is known
    pub worked-so : {x : ℤ} (r : Answered (Option Whole) Refusal) → x ≡ next → WorkYield (word_of t.word) (take t.count numbers) (take c.values values) x r
        → worked_meaning r ≡ cond ((gadget w.state (taken-line numbers t)).statement before) (value ((gadget w.state (taken-line numbers t)).values before next)) (refused_by 18)
    worked-so r is yields = rw (w.stands.counted.values-are, ← is) (yields values-given)

  -- ---- what the line's working then yields

  module _ (l : Line) (rest : List Line) (left_is : w.left ≡ l ∷ rest) where
    abbrev g : Gadget
    g = gadget w.state l

    abbrev Yields : Answered (Option Whole) Refusal → Type 0
    Yields r = worked_meaning r ≡ cond (g.statement before) (value (g.values before next)) (refused_by 18)

    abbrev later : Meant
    later = work_from (suc n) (after w.state l) (before ++ g.values before next) (drop g.inputs (drop c.inputs inputs)) rest

    -- working from this line on
    from-here : work w.given.listed.lines inputs ≡ with_cells w.cells (cond (g.statement before) (with_cells (g.cells before next) later) (false-at n))
    unfolding work_from
    from-here = w.so_far ∙ rw (left_is, next-is) refl

    pub working-false : (r : Refused) → Yields (Err r.refusal) → r.place ≡ n → (m : ListRead list) (final : List ℤ) → WorkingYield m.lines m.last inputs final (Err r)
    unfolding WorkingYield with_cells filled
    working-false r yields place m final t =
        let false-by = false-where-refused (g.statement before) (g.values before next) r.refusal yields in
        let false-here : work m.lines inputs ≡ false-at n =
        ap (λ (ls : List Line). work ls inputs) (sym (same_lines w.given.listed m)) ∙ from-here ∙ rw false-by.0 refl in
        ap (λ (x : Meant). filled x t) false-here ∙ rw (false-by.1, place) refl

    module _ (r : Option Whole) (yields : Yields (Ok r)) (kept : Kept n w.state (l ∷ rest) w.given.listed.last) where
      statement-true : g.statement before ≡ true
      statement-true = (true-where-made (g.statement before) (g.values before next) r yields).0

      holds : T (g.statement before)
      holds = ≡-test (g.statement before) statement-true

      made : worked_meaning (Ok r) ≡ value (g.values before next)
      made = (true-where-made (g.statement before) (g.values before next) r yields).1

      law : Law w.given.listed.last.p w.state g
      law = first-law l rest n w.state w.given.listed.last kept w.stands.sound

      -- there is room for the values of the line
      room : length w.state.known + length (g.values before next) ≤ value_limit
      room = omega (
        arith,
        law.values-count before next,
        leb→le (length w.state.known + length g.made) value_limit (keeps-all n w.state l kept.0).values-fit,
      )

      pub value-inside : (x : Whole) → r ≡ Some x → c.values < length values
      value-inside x is =
          let one : length (g.values before next) ≡ 1 = sym (ap (λ (q : List ℤ). length q) (same-values (sym (ap (λ (o : Option Whole). worked_meaning (Ok o)) is) ∙ made))) in
          omega (arith, room, w.values-long, w.stands.counted.values-are)

      -- the values after the line
      count-after : length (after w.state l).known ≡ length w.state.known + length (g.values before next)
      unfolding after
      count-after = omega (arith, length-append g.narrowed g.made, (few n w.state l (keeps-all n w.state l kept.0)).2, law.values-count before next)

      abbrev values' : List ℤ
      values' = with_value values c.values r

      pub taken : take (length (after w.state l).known) values' ≡ before ++ g.values before next
      taken =
          ap (λ (i : ℕ). take i values') (count-after ∙ ap (λ (i : ℕ). i + length (g.values before next)) w.stands.counted.values-are)
          ∙ value_taken values c.values r (g.values before next) made (omega (arith, room, w.values-long, w.stands.counted.values-are))
          ∙ ap (λ (i : ℕ). take i values ++ g.values before next) (sym w.stands.counted.values-are)

      in-range : 1 ≤ g.inputs → T (in_range w.given.listed.last.p next)
      unfolding after
      in-range i = w.given.column.within c.inputs (omega (
        arith,
        inputs-grow rest (suc n) (after w.state l) w.given.listed.last kept.1,
        w.given.column.count,
        w.stands.counted.inputs_are,
      ))

      pub working-next : {d : Counts} {at' : ℕ} → Stands list w.given.listed.last (after w.state l) rest d at' (n + 1)
          → WorkingOn list inputs values' d at' (n + 1)
      unfolding after
      working-next {d} stands = record {
        given = w.given;
        state = after w.state l;
        left = rest;
        stands = stands;
        values-long = values-kept values c.values r ∙ w.values-long;
        within = rw taken (law.within before next w.within holds in-range);
        cells = w.cells ++ g.cells before next;
        so_far = from-here ∙ rw statement-true
            (cells-joined w.cells (g.cells before next) later ∙ ap (with_cells (w.cells ++ g.cells before next)) same-later);
      }
        where
          inputs-after : c.inputs + g.inputs ≡ d.inputs
          inputs-after = omega (arith, w.stands.counted.inputs_are, stands.counted.inputs_are)

          same-later : later ≡ work_from (n + 1) (after w.state l) (take (length (after w.state l).known) values') (drop d.inputs inputs) rest
          same-later = rw (add-one n, taken, drop-drop g.inputs c.inputs inputs, inputs-after) refl
