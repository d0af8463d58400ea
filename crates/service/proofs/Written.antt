-- Writing the cells of a list line by line, for values that were worked before: what holds before each line of the walk.
use mathlib.Core.Path.{◌≡◌, refl, sym, ap, ap₂, ◌∙◌}
use mathlib.Core.Bool.{cond}
use mathlib.Core.List.{List, [], ◌∷◌, ◌++◌, append-nil, append_assoc}
use Prim.Native.Nat.{ℕ, suc, ◌+◌, ◌-◌, ◌≤◌}
use native.Mathlib.Omega.{arith}
use native.Mathlib.Nat.{add-zero}
use native.Mathlib.Numerals.{add-one}
use lib.Dec.{T}
use lib.IntN.{ℤ, pos}
use lib.ListN.{length, get_or, take, drop, length-append, length-take, length-drop, drop_of_length-le}
use lib.Seq.{take-add, take-take, take_at, drop_at, get_or-drop, drop-drop, length-take-le}
use borrow.Rule.Slice.PartMut.{put_mid}
use Rattle.meaning.specs.Number.{in_range, remainder}
use Rattle.meaning.specs.Word.{Word, field, input, span, sum, relu, which, max, root, kind_of}
use Rattle.meaning.specs.Line.{Line}
use Rattle.meaning.specs.Known.{Known, fresh, Within}
use Rattle.meaning.specs.Gadget.Interface.{Gadget}
use Rattle.meaning.specs.Gadget.Field.{field_line}
use Rattle.meaning.specs.Gadget.Input.{input_line}
use Rattle.meaning.specs.Gadget.Span.{span_line}
use Rattle.meaning.specs.Gadget.Sum.{sum_line}
use Rattle.meaning.specs.Gadget.Relu.{relu_line}
use Rattle.meaning.specs.Gadget.Which.{which_line}
use Rattle.meaning.specs.Gadget.Max.{max_line}
use Rattle.meaning.specs.Gadget.Root.{root_line}
use Rattle.meaning.specs.Meaning.{gadget, after}
use Rattle.meaning.specs.Work.{Worked, false-at, true-table, with_cells, work_from, work}
use Rattle.meaning.specs.Kept.{Kept}
use Rattle.meaning.proofs.Kept.{keeps-all}
use Rattle.meaning.proofs.Law.{Law}
use Rattle.meaning.proofs.Induction.{first-law, cells-grow, values_in, cells_in, split-worked}
use Rattle.meaning.proofs.Working.{inputs-grow}
use Rattle.text.specs.Word.{word_of}
use Rattle.reader.specs.Size.{counted}
use Rattle.reader.specs.declared.counts.Counts.{Counts}
use Rattle.reader.proofs.Steps.{few}
use Rattle.table.specs.LineValues.{CellsGiven}
use Rattle.service.specs.Walk.{Stands}
use Rattle.service.specs.Taken.{taken, Took}
use Rattle.service.specs.declared.walk.Taken.{Taken}
use Rattle.service.specs.Make.{WriteGiven}
use Rattle.service.proofs.ReadList.{same_lines, same-last}
use Rattle.service.proofs.Standing.{stands-first, nothing_left, known-last, line_kept, prime-here, cells-inside, values-counted}
use Rattle.meaning.specs.Refusal.{value_limit}
use Rattle.meaning.proofs.Part.{written_after}

-- ---- working on does not change the values that are there

pub values-extended : (ls : List Line) (n : ℕ) (s : Known) (vs xs ws : List ℤ) (cs : List ℕ) → work_from n s vs xs ls ≡ true-table ws cs
    → (us : List ℤ) × (vs ++ us ≡ ws)
unfolding work_from
values-extended [] n s vs xs ws cs e = ([], append-nil vs ∙ ap values_in e)
values-extended (l ∷ ls) n s vs xs ws cs e =
    let g : Gadget = gadget s l in
    let x : ℤ = get_or xs 0 (pos 0) in
    let parts = split-worked (g.statement vs) n (g.cells vs x) (work_from (suc n) (after s l) (vs ++ g.values vs x) (drop g.inputs xs) ls) ws cs e in
    let later = values-extended ls (suc n) (after s l) (vs ++ g.values vs x) (drop g.inputs xs) ws parts.1.0 parts.1.1 in
    (g.values vs x ++ later.0, sym (append_assoc vs (g.values vs x) later.0) ∙ later.1)

-- ---- the cells of a list follow from its values

-- an input is the value of its line, and no other line looks at the next input
module _ (s : Known) (ns vs : List ℤ) (x y : ℤ) where
  values-as-many : (w : Word) → length (((kind_of w).gadget s ns).values vs x) ≡ length (((kind_of w).gadget s ns).values vs y)
  unfolding kind_of field_line input_line span_line sum_line relu_line which_line max_line root_line
  values-as-many field = refl
  values-as-many input = refl
  values-as-many span = refl
  values-as-many sum = refl
  values-as-many relu = refl
  values-as-many which = refl
  values-as-many max = refl
  values-as-many root = refl

  cells-by-values : (w : Word) → ((kind_of w).gadget s ns).values vs x ≡ ((kind_of w).gadget s ns).values vs y → ((kind_of w).gadget s ns).cells vs x ≡ ((kind_of w).gadget s ns).cells vs y
  unfolding kind_of field_line input_line span_line sum_line relu_line which_line max_line root_line
  cells-by-values field e = refl
  cells-by-values input e = ap (λ (zs : List ℤ). remainder s.p (get_or zs 0 (pos 0)) ∷ []) e
  cells-by-values span e = refl
  cells-by-values sum e = refl
  cells-by-values relu e = refl
  cells-by-values which e = refl
  cells-by-values max e = refl
  cells-by-values root e = refl

-- of two lists that begin alike and are equal, the next parts of one length are equal
next-parts : (vs ps qs us ts ws : List ℤ) → length ps ≡ length qs → (vs ++ ps) ++ us ≡ ws → (vs ++ qs) ++ ts ≡ ws → ps ≡ qs
next-parts vs ps qs us ts ws h e f =
    part ps us
    ∙ ap (λ (q : List ℤ). take (length ps) (drop (length vs) q)) (e ∙ sym f)
    ∙ ap (λ (i : ℕ). take i (drop (length vs) ((vs ++ qs) ++ ts))) h
    ∙ sym (part qs ts)
  where
    part : (cs zs : List ℤ) → cs ≡ take (length cs) (drop (length vs) ((vs ++ cs) ++ zs))
    part cs zs = sym (ap (λ (q : List ℤ). take (length cs) (drop (length vs) q)) (append_assoc vs cs zs)
        ∙ ap (take (length cs)) (drop_at vs (cs ++ zs) (length vs) refl) ∙ take_at cs zs (length cs) refl)

-- one line with the next input x or y, and the later lines, whose cells follow from the values before them
module _ (l : Line) (n : ℕ) (s : Known) (vs ws : List ℤ) (x y : ℤ) (later-x later-y : List ℤ → Worked) (cs ds : List ℕ) where
  abbrev g : Gadget
  g = gadget s l

  abbrev whole : ℤ → (List ℤ → Worked) → Worked
  whole z later = cond (g.statement vs) (with_cells (g.cells vs z) (later (vs ++ g.values vs z))) (false-at n)

  abbrev Extends : (List ℤ → Worked) → Type 0
  Extends later = (ps : List ℤ) (es : List ℕ) → later ps ≡ true-table ws es → (us : List ℤ) × (ps ++ us ≡ ws)

  same_first : Extends later-x → Extends later-y
      → ((ps : List ℤ) (es fs : List ℕ) → later-x ps ≡ true-table ws es → later-y ps ≡ true-table ws fs → es ≡ fs)
      → whole x later-x ≡ true-table ws cs → whole y later-y ≡ true-table ws ds → cs ≡ ds
  unfolding gadget
  same_first extended-x extended-y same e f =
      let a = split-worked (g.statement vs) n (g.cells vs x) (later-x (vs ++ g.values vs x)) ws cs e in
      let b = split-worked (g.statement vs) n (g.cells vs y) (later-y (vs ++ g.values vs y)) ws ds f in
      let u = extended-x (vs ++ g.values vs x) a.1.0 a.1.1 in
      let t = extended-y (vs ++ g.values vs y) b.1.0 b.1.1 in
      let values_same : g.values vs x ≡ g.values vs y =
      next-parts vs (g.values vs x) (g.values vs y) u.0 t.0 ws (values-as-many s l.numbers vs x y l.word) u.1 t.1 in
      let first : g.cells vs x ≡ g.cells vs y = cells-by-values s l.numbers vs x y l.word values_same in
      let rest : a.1.0 ≡ b.1.0 = same (vs ++ g.values vs x) a.1.0 b.1.0 a.1.1
      (ap (λ (ps : List ℤ). later-y (vs ++ ps)) values_same ∙ b.1.1) in
      sym a.1.2 ∙ ap₂ (λ (us ts : List ℕ). us ++ ts) first rest ∙ b.1.2

pub same-cells : (ls : List Line) (n : ℕ) (s : Known) (vs xs ys ws : List ℤ) (cs ds : List ℕ) → work_from n s vs xs ls ≡ true-table ws cs
    → work_from n s vs ys ls ≡ true-table ws ds → cs ≡ ds
unfolding work_from
same-cells [] n s vs xs ys ws cs ds e f = sym (ap cells_in e) ∙ ap cells_in f
same-cells (l ∷ ls) n s vs xs ys ws cs ds e f =
    let later : List ℤ → List ℤ → Worked = λ zs ps. work_from (suc n) (after s l) ps (drop (gadget s l).inputs zs) ls in
    same_first l n s vs ws (get_or xs 0 (pos 0)) (get_or ys 0 (pos 0)) (later xs) (later ys) cs ds
    (λ ps es. values-extended ls (suc n) (after s l) ps (drop (gadget s l).inputs xs) ws es)
    (λ ps es. values-extended ls (suc n) (after s l) ps (drop (gadget s l).inputs ys) ws es)
    (λ ps es fs. same-cells ls (suc n) (after s l) ps (drop (gadget s l).inputs xs) (drop (gadget s l).inputs ys) ws es fs) e f

-- the next values, where the first n + m of an array are those before and these
next-values : (values ys : List ℤ) (n : ℕ) → n ≤ length values → take (n + length ys) values ≡ take n values ++ ys → take (length ys) (drop n values) ≡ ys
next-values values ys n h e =
    sym (drop_at (take n values) (take (length ys) (drop n values)) n (length-take-le n values h))
    ∙ ap (drop n) (sym (take-add n (length ys) values) ∙ e)
    ∙ drop_at (take n values) ys n (length-take-le n values h)

-- ---- the walk

-- the cells of the lines before this one are written
pub record Writing (list : List ℕ) (p : ℕ) (values : List ℤ) (before table : List ℕ) (c : Counts) (at n : ℕ) : Type 0 where
  pub given : WriteGiven list p values before
  pub state : Known
  pub left : List Line
  pub stands : Stands list given.given.listed.last state left c at n
  pub values-long : length values ≡ value_limit
  pub within : Within state.known (take (length state.known) values)
  pub done : List ℕ
  pub done-long : length done ≡ c.cells.0
  pub table_is : table ≡ done ++ drop c.cells.0 before
  pub to-come : List ℕ
  pub left-worked : work_from n state (take (length state.known) values) (drop c.inputs given.inputs) left
      ≡ true-table (take (length given.given.listed.last.known) values) to-come
  pub all-cells : done ++ to-come ≡ given.cells

pub writing-first : (list : List ℕ) (p : ℕ) (values : List ℤ) (before : List ℕ) → length values ≡ value_limit → WriteGiven list p values before → Writing list p values before before (counted 0 0 0 0) 0 0
unfolding work fresh
writing-first list p values before h a = record {
  given = a;
  state = fresh;
  left = a.given.listed.lines;
  stands = stands-first list a.given.listed.lines a.given.listed.last a.given.listed.is_read a.given.listed.p-most;
  values-long = h;
  within = tt;
  done = [];
  done-long = refl;
  table_is = refl;
  to-come = a.cells;
  left-worked = a.worked;
  all-cells = refl;
}

module _ {list : List ℕ} {p : ℕ} {values : List ℤ} {before table : List ℕ} {c : Counts} {at n : ℕ}
    (w : Writing list p values before table c at n) where
  abbrev last : Known
  last = w.given.given.listed.last

  pub table-long : length table ≡ last.cells
  table-long = omega (
    arith,
    ap (λ (q : List ℕ). length q) w.table_is,
    length-append w.done (drop c.cells.0 before),
    length-drop c.cells.0 before,
    w.done-long,
    w.given.long,
    w.stands.counted.cells_are,
    cells-grow w.left n w.state last w.stands.kept,
  )

  -- every cell is written
  pub writing-end : length list ≤ at → (b : WriteGiven list p values before) → table ≡ b.cells
  unfolding work_from work
  writing-end h b =
      let l = w.given.given.listed in
      let ended : true-table (take (length w.state.known) values) [] ≡ true-table (take (length last.known) values) w.to-come =
      ap (work_from n w.state (take (length w.state.known) values) (drop c.inputs w.given.inputs)) (sym (nothing_left w.stands h)) ∙ w.left-worked in
      let all_done : length before ≤ c.cells.0 = omega (arith, w.given.long, ap (λ (z : Known). z.cells) (known-last w.stands h), w.stands.counted.cells_are) in
      let same = same-cells l.lines 0 fresh [] w.given.inputs b.inputs (take (length last.known) values) w.given.cells b.cells w.given.worked
      (ap (λ (ls : List Line). work ls b.inputs) (same_lines l b.given.listed) ∙ b.worked
      ∙ ap (λ (z : Known). true-table (take (length z.known) values) b.cells) (same-last b.given.listed l)) in
      w.table_is ∙ ap (λ (q : List ℕ). w.done ++ q) (drop_of_length-le before all_done ∙ ap cells_in ended) ∙ w.all-cells ∙ same

  -- ---- what the cells of a line are given

  -- the part of the table that is lent
  abbrev pub part : List ℕ
  part = take (length table - c.cells.0) (drop c.cells.0 table)

  module _ {numbers : List ℤ} {t : Taken} {after-it : ℕ} (took : Took w.stands numbers t after-it) where
    pub room-here : (gadget w.state (taken numbers t)).width ≤ length part
    room-here = omega (
      arith,
      cells-inside took,
      table-long,
      w.stands.counted.cells_are,
      length-take (length table - c.cells.0) (drop c.cells.0 table),
      length-drop c.cells.0 table,
    )

    -- how many values the line makes
    pub made-is : t.after.values - c.values ≡ length (gadget w.state (taken numbers t)).made
    made-is = omega (arith, values-counted took)

    abbrev pub cells-given : CellsGiven p (word_of t.word) (take t.count numbers) (take c.values values) (take (t.after.values - c.values) (drop c.values values)) part
    cells-given = record {
      given = record {
        kept = line_kept took;
        within = rw (← w.stands.counted.values-are) w.within;
      };
      prime = λ plain. prime-here took plain ∙ w.given.prime;
      made-long = rw made-is (omega (
        arith,
        length-take (length (gadget w.state (taken numbers t)).made) (drop c.values values),
        length-drop c.values values,
        values-counted took,
        took.next.few.values-most,
        w.values-long,
      ));
      room = room-here;
    }

  -- ---- a line

  module _ (l : Line) (rest : List Line) (left_is : w.left ≡ l ∷ rest) (kept : Kept n w.state (l ∷ rest) last) where
    abbrev here : Gadget
    here = gadget w.state l

    abbrev known : ℕ
    known = length w.state.known

    abbrev known_values : List ℤ
    known_values = take known values

    pub next : ℤ
    next = get_or (drop c.inputs w.given.inputs) 0 (pos 0)

    abbrev all-values : List ℤ
    all-values = take (length last.known) values

    abbrev later : Worked
    later = work_from (suc n) (after w.state l) (known_values ++ here.values known_values next) (drop here.inputs (drop c.inputs w.given.inputs)) rest

    law : Law last.p w.state here
    law = first-law l rest n w.state last kept w.stands.sound

    -- the line's statement is true, and its cells are the next to come
    parted : T (here.statement known_values) × ((es : List ℕ) × (later ≡ true-table all-values es) × (here.cells known_values next ++ es ≡ w.to-come))
    unfolding work_from next
    parted = split-worked (here.statement known_values) n (here.cells known_values next) later all-values w.to-come
        (ap (work_from n w.state known_values (drop c.inputs w.given.inputs)) (sym left_is) ∙ w.left-worked)

    few-known : known ≤ value_limit
    few-known = omega (arith, w.stands.counted.values-are, w.stands.few.values-most)

    known-long : length known_values ≡ known
    known-long = length-take-le known values (omega (arith, few-known, w.values-long))

    -- with the line's own, the values before it are the first of the array
    values-taken : take (known + length (here.values known_values next)) values ≡ known_values ++ here.values known_values next
    values-taken =
        let ys = here.values known_values next in
        let more = values-extended rest (suc n) (after w.state l) (known_values ++ ys) (drop here.inputs (drop c.inputs w.given.inputs)) all-values parted.1.0 parted.1.1 in
        let long : length (known_values ++ ys) ≡ known + length ys = length-append known_values ys ∙ ap (λ (i : ℕ). i + length ys) known-long in
        let enough : known + length ys ≤ length last.known = omega (
          arith,
          ap (λ (q : List ℤ). length q) more.1,
          length-append (known_values ++ ys) more.0,
          long,
          length-take (length last.known) values,
        ) in
        sym (take-take (known + length ys) (length last.known) values enough) ∙ ap (take (known + length ys)) (sym more.1)
        ∙ take_at (known_values ++ ys) more.0 (known + length ys) long

    count-after : length (after w.state l).known ≡ known + length (here.values known_values next)
    unfolding after
    count-after = omega (
      arith,
      length-append here.narrowed here.made,
      (few n w.state l (keeps-all n w.state l kept.0)).2,
      law.values-count known_values next,
    )

    -- the line's own values stand in the array after them
    pub made-stand : here.values (take c.values values) next ≡ take (length here.made) (drop c.values values)
    made-stand =
        ap (λ (i : ℕ). here.values (take i values) next) (sym w.stands.counted.values-are)
        ∙ sym (next-values values (here.values known_values next) known (omega (arith, few-known, w.values-long)) values-taken)
        ∙ ap₂ (λ (i j : ℕ). take i (drop j values)) (law.values-count known_values next) w.stands.counted.values-are

    in-range : 1 ≤ here.inputs → T (in_range last.p next)
    unfolding after next
    in-range i = rw (get_or-drop c.inputs w.given.inputs 0 (pos 0), add-zero c.inputs) (w.given.given.column.within c.inputs (omega (
      arith,
      inputs-grow rest (suc n) (after w.state l) last kept.1,
      w.given.given.column.count,
      w.stands.counted.inputs_are,
    )))

    pub writing-next : {d : Counts} {at' : ℕ} (written : List ℕ)
        → written ≡ here.cells (take c.values values) next ++ drop here.width part
        → Stands list last (after w.state l) rest d at' (n + 1)
        → Writing list p values before (put_mid c.cells.0 (length table - c.cells.0) table written) d at' (n + 1)
    unfolding after
    writing-next {d} written written_is stands = record {
      given = w.given;
      state = after w.state l;
      left = rest;
      stands = stands;
      values-long = w.values-long;
      within = rw after-values (law.within known_values next w.within parted.0 in-range);
      done = w.done ++ here.cells known_values next;
      done-long = omega (arith, length-append w.done (here.cells known_values next), w.done-long, wide, cells-after);
      table_is = written_after c.cells.0 here.width d.cells.0 before table written w.done (here.cells known_values next) w.done-long w.table_is
          (rw w.stands.counted.values-are written_is)
          (sym cells-after);
      to-come = parted.1.0;
      left-worked = rw (add-one n, after-values, ← inputs-after, ← drop-drop here.inputs c.inputs w.given.inputs) parted.1.1;
      all-cells = append_assoc w.done (here.cells known_values next) parted.1.0 ∙ ap (λ (q : List ℕ). w.done ++ q) parted.1.2 ∙ w.all-cells;
    }
      where
        after-values : take (length (here.narrowed ++ here.made)) values ≡ known_values ++ here.values known_values next
        after-values = ap (λ (i : ℕ). take i values) count-after ∙ values-taken

        wide : length (here.cells known_values next) ≡ here.width
        wide = law.cells_count known_values next

        cells-after : c.cells.0 + here.width ≡ d.cells.0
        cells-after = omega (arith, w.stands.counted.cells_are, stands.counted.cells_are)

        inputs-after : c.inputs + here.inputs ≡ d.inputs
        inputs-after = omega (arith, w.stands.counted.inputs_are, stands.counted.inputs_are)
