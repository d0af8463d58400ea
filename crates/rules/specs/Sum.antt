-- What a sum line yields where the rules up to 9 are kept, over the ends that are lent.
use Rattle.std.specs.Prelude.{cond, List, [], ◌∷◌, ℕ}
use Rattle.meaning.specs.Known.{Ends as KnownEnds}
use Rattle.meaning.specs.Gadget.Sum.{Term, scaled, added, ends_in_range}
use Rattle.rules.specs.declared.ends.Ends.{Ends}
use Rattle.rules.specs.Ready.{ends_at}
use Rattle.rules.specs.Yield.{Yield, refuses, makes}

-- the terms that are left, with the ends so far, which lie in the range
unfoldable pub sum_yield : (p : ℕ) (known : List Ends) → KnownEnds → List Term → Yield
sum_yield p known es [] = makes (es ∷ [])
sum_yield p known es (t ∷ ts) =
    let next = added es (scaled t.coefficient (ends_at known t.value)) in
    cond (ends_in_range p next) (sum_yield p known next ts) (refuses 11)
