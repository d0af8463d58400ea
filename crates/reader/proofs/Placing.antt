-- A refusal that gets its place by `map_err` and is passed on by `?`, and an answer that is none. P is what the closure promises.
use mathlib.Core.Path.{◌≡◌, refl, ap, ◌∙◌}
use Rattle.std.specs.Prelude.{ℕ, Result, Ok, Err, MatchResult, IsErrAnd}
use Rattle.refusal.specs.declared.refused.Refusal.{Refusal}
use Rattle.refusal.specs.declared.refused.Refused.{Refused}

-- what is passed on
pub passed_on : {T U E : Type 0} (r : Result T E) {m : Result T Refused} (out : Result U Refused) {x : Refused} (P : E → Refused → Type 0)
    → MatchResult r (λ y. m ≡ Ok y) (λ e. IsErrAnd m (P e)) → m ≡ Err x → IsErrAnd out (λ z. z ≡ x)
    → (e : E) × (r ≡ Err e) × P e x × (out ≡ Err x)
passed_on (Ok y) out P case is given = absurd (cc)
passed_on (Err e) (Ok z) P case is given = absurd given
passed_on (Err e) (Err z) P case is given = (e, refl, rw is at case, ap Err given)

-- told by its refusal and its place
pub refused_as : {U : Type 0} {out : Result U Refused} {x : Refused} {e : Refusal} {n : ℕ} → out ≡ Err x → x.refusal ≡ e → x.place ≡ n
    → out ≡ Err (record { refusal = e; place = n })
refused_as out is at = out ∙ ap Err (λ i. record { refusal = is i; place = at i })

-- what is gone on with
pub gone_on : {T E : Type 0} (r : Result T E) {m : Result T Refused} {y : T} (P : E → Refused → Type 0)
    → MatchResult r (λ z. m ≡ Ok z) (λ e. IsErrAnd m (P e)) → m ≡ Ok y → r ≡ Ok y
gone_on (Ok z) P case is = cc
gone_on (Err e) P case is = absurd (rw is at case)
