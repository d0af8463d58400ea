-- Ring identities over ℤ of any degree, by computation: an expression is turned into a sorted list of terms, each a coefficient times
-- a sorted list of variables, and two expressions with the same list have the same value. Both sides are written as trees:
--     ring2 (λ x y. (x ⊕ y) ⊗ (x ⊕ y)) (λ x y. x ⊗ x ⊕ lit (pos 2) ⊗ x ⊗ y ⊕ y ⊗ y) a b refl
-- proves (a + b)² ≡ a² + 2 a b + b². `ring (a ∷ b ∷ []) e f refl` takes the variables by number, `var 0` and `var 1`.
use mathlib.Core.Path.{◌≡◌, refl, sym, ap, ap₂, ◌∙◌}
use mathlib.Core.Bool.{Bool, false, cond}
use mathlib.Core.List.{List, [], ◌∷◌}
use Prim.Native.Nat.{compare, Ordering, ℕ, ◌*◌}
use native.Mathlib.Omega.{arith}
use lib.IntN.{ℤ, pos, negsuc, neg_ℤ, ◌+ℤ◌, ◌-ℤ◌, ◌*ℤ◌, +ℤ_idl, +ℤ_assoc, *ℤ_comm, zero-*ℤ}
use lib.ListN.{get_or}
use lib.Dec.{T, compare_is_eq, leb, eqb, eqb→eq}
use Rattle.algebra.proofs.Test.{cond_cases}
use Rattle.algebra.proofs.Integer.Difference.{as-difference, push, difference-≡, *ℤ-assoc, *ℤ-+ℤ}

infixl 65 ◌⊕◌ ◌⊖◌
infixl 70 ◌⊗◌
pub data Expression : Type 0 where
  var : ℕ → Expression
  lit : ℤ → Expression
  ◌⊕◌ ◌⊖◌ ◌⊗◌ : Expression → Expression → Expression

-- ---- normal forms

pub data Monomial : Type 0 where
  monomial : ℤ → List ℕ → Monomial

-- the order of two lists of variables; an `elim`'s cases wait, so that only the branch taken is computed
abbrev compare_variables : List ℕ → List ℕ → Ordering
compare_variables [] [] = Ordering.eq
compare_variables [] (j ∷ n) = Ordering.lt
compare_variables (i ∷ m) [] = Ordering.gt
compare_variables (i ∷ m) (j ∷ n) =
    elim (compare i j) [ Ordering.lt ↦ Ordering.lt | Ordering.eq ↦ compare_variables m n | Ordering.gt ↦ Ordering.gt ]

abbrev insert_variable : ℕ → List ℕ → List ℕ
insert_variable i [] = i ∷ []
insert_variable i (j ∷ n) = let rest = j ∷ insert_variable i n in cond (leb i j) (i ∷ j ∷ n) rest

abbrev merge_variables : List ℕ → List ℕ → List ℕ
merge_variables [] n = n
merge_variables (i ∷ m) n = insert_variable i (merge_variables m n)

abbrev insert_term : ℤ → List ℕ → List Monomial → List Monomial
insert_term c m [] = monomial c m ∷ []
insert_term c m (monomial d n ∷ p) = elim (compare_variables m n)
    [ Ordering.lt ↦ monomial c m ∷ monomial d n ∷ p | Ordering.eq ↦ monomial (c +ℤ d) n ∷ p | Ordering.gt ↦ monomial d n ∷ insert_term c m p ]

abbrev add_terms : List Monomial → List Monomial → List Monomial
add_terms [] q = q
add_terms (monomial c m ∷ p) q = insert_term c m (add_terms p q)

abbrev scale_terms : ℤ → List ℕ → List Monomial → List Monomial
scale_terms c m [] = []
scale_terms c m (monomial d n ∷ q) = monomial (c *ℤ d) (merge_variables m n) ∷ scale_terms c m q

abbrev multiply_terms : List Monomial → List Monomial → List Monomial
multiply_terms [] q = []
multiply_terms (monomial c m ∷ p) q = add_terms (scale_terms c m q) (multiply_terms p q)

abbrev is_zero : ℤ → Bool
is_zero (pos n) = eqb n 0
is_zero (negsuc n) = false

abbrev drop_zeros : List Monomial → List Monomial
drop_zeros [] = []
drop_zeros (monomial c m ∷ p) = cond (is_zero c) (drop_zeros p) (monomial c m ∷ drop_zeros p)

abbrev terms : Expression → List Monomial
terms (var i) = monomial (pos 1) (i ∷ []) ∷ []
terms (lit c) = monomial c [] ∷ []
terms (e ⊕ f) = add_terms (terms e) (terms f)
terms (e ⊖ f) = add_terms (terms e) (scale_terms (negsuc 0) [] (terms f))
terms (e ⊗ f) = multiply_terms (terms e) (terms f)

abbrev pub normal : Expression → List Monomial
normal e = drop_zeros (terms e)

-- ---- the few identities that the proofs need

one-* : (a : ℤ) → pos 1 *ℤ a ≡ a
one-* a = rw (as-difference a) (simp push (omega (arith, difference-≡)))

swap-factors : (a b c : ℤ) → a *ℤ (b *ℤ c) ≡ b *ℤ (a *ℤ c)
swap-factors a b c = rw (as-difference a, as-difference b, as-difference c) (simp push (omega (arith, difference-≡)))

swap-summands : (a b c : ℤ) → a +ℤ (b +ℤ c) ≡ b +ℤ (a +ℤ c)
swap-summands a b c = rw (as-difference a, as-difference b, as-difference c) (simp push (omega (arith, difference-≡)))

collect : (c d m p : ℤ) → (c +ℤ d) *ℤ m +ℤ p ≡ c *ℤ m +ℤ (d *ℤ m +ℤ p)
collect c d m p = rw (as-difference c, as-difference d, as-difference m, as-difference p) (simp push (omega (arith, difference-≡)))

four-factors : (c d m n : ℤ) → (c *ℤ d) *ℤ (m *ℤ n) ≡ (c *ℤ m) *ℤ (d *ℤ n)
four-factors c d m n = rw (as-difference c, as-difference d, as-difference m, as-difference n) (simp push (omega (arith, difference-≡)))

+ℤ-*ℤ : (a b c : ℤ) → (a +ℤ b) *ℤ c ≡ a *ℤ c +ℤ b *ℤ c
+ℤ-*ℤ a b c = rw (as-difference a, as-difference b, as-difference c) (simp push (omega (arith, difference-≡)))

minus-one-* : (b : ℤ) → negsuc 0 *ℤ b ≡ neg_ℤ b
minus-one-* (pos n) = let h : 1 * n ≡ n = omega arith in ap (λ (k : ℕ). neg_ℤ (pos k)) h
minus-one-* (negsuc n) = ap pos (omega arith)

subtract : (a b : ℤ) → a +ℤ (negsuc 0 *ℤ pos 1) *ℤ b ≡ a -ℤ b
subtract a b = ap (λ (z : ℤ). a +ℤ z) (minus-one-* b)

constant-term : (a : ℤ) → a *ℤ pos 1 +ℤ pos 0 ≡ a
constant-term a = rw (as-difference a) (simp push (omega (arith, difference-≡)))

variable-term : (a : ℤ) → pos 1 *ℤ (a *ℤ pos 1) +ℤ pos 0 ≡ a
variable-term a = rw (as-difference a) (simp push (omega (arith, difference-≡)))

-- ---- what a passed test says

by_order {ℓ} : {A : Type ℓ} (o : Ordering) (x y z : A) (P : A → Type 0) → P x → (T (compare_is_eq o) → P y) → P z
    → P (elim o [ Ordering.lt ↦ x | Ordering.eq ↦ y | Ordering.gt ↦ z ])
by_order Ordering.lt x y z P f g h = f
by_order Ordering.eq x y z P f g h = g tt
by_order Ordering.gt x y z P f g h = h

same-variables : (m n : List ℕ) → T (compare_is_eq (compare_variables m n)) → m ≡ n
same-variables [] [] t = refl
same-variables [] (j ∷ n) t = absurd t
same-variables (i ∷ m) [] t = absurd t
same-variables (i ∷ m) (j ∷ n) t =
    by_order (compare i j) Ordering.lt (compare_variables m n) Ordering.gt (λ o. T (compare_is_eq o) → i ∷ m ≡ j ∷ n)
    (λ u. absurd u) (λ e u. ap₂ (λ (a : ℕ) (l : List ℕ). a ∷ l) (eqb→eq i j e) (same-variables m n u)) (λ u. absurd u) t

is-zero : (c : ℤ) → T (is_zero c) → c ≡ pos 0
is-zero (pos n) t = ap pos (eqb→eq n 0 t)
is-zero (negsuc n) t = absurd t

-- ---- values: each step to the normal form keeps them

module _ (ρ : List ℤ) where
  abbrev at : ℕ → ℤ
  at i = get_or ρ i (pos 0)

  abbrev pub evaluate : Expression → ℤ
  evaluate (var i) = at i
  evaluate (lit c) = c
  evaluate (e ⊕ f) = evaluate e +ℤ evaluate f
  evaluate (e ⊖ f) = evaluate e -ℤ evaluate f
  evaluate (e ⊗ f) = evaluate e *ℤ evaluate f

  abbrev product : List ℕ → ℤ
  product [] = pos 1
  product (i ∷ m) = at i *ℤ product m

  abbrev total : List Monomial → ℤ
  total [] = pos 0
  total (monomial c m ∷ p) = c *ℤ product m +ℤ total p

  insert_variable-keeps : (i : ℕ) (m : List ℕ) → product (insert_variable i m) ≡ at i *ℤ product m
  insert_variable-keeps i [] = refl
  insert_variable-keeps i (j ∷ n) = cond_cases (λ l. product l ≡ at i *ℤ (at j *ℤ product n)) (leb i j) (i ∷ j ∷ n) (j ∷ insert_variable i n)
      (λ _. refl) (λ _. rw (insert_variable-keeps i n) (swap-factors (at j) (at i) (product n)))

  merge_variables-keeps : (m n : List ℕ) → product (merge_variables m n) ≡ product m *ℤ product n
  merge_variables-keeps [] n = sym (one-* (product n))
  merge_variables-keeps (i ∷ m) n =
      insert_variable-keeps i (merge_variables m n) ∙ rw (merge_variables-keeps m n) (sym (*ℤ-assoc (at i) (product m) (product n)))

  insert_term-keeps : (c : ℤ) (m : List ℕ) (p : List Monomial) → total (insert_term c m p) ≡ c *ℤ product m +ℤ total p
  insert_term-keeps c m [] = refl
  insert_term-keeps c m (monomial d n ∷ p) =
      by_order (compare_variables m n) (monomial c m ∷ monomial d n ∷ p) (monomial (c +ℤ d) n ∷ p) (monomial d n ∷ insert_term c m p)
      (λ l. total l ≡ c *ℤ product m +ℤ (d *ℤ product n +ℤ total p))
      refl
      (λ t. rw (same-variables m n t) (collect c d (product n) (total p)))
      (rw (insert_term-keeps c m p) (swap-summands (d *ℤ product n) (c *ℤ product m) (total p)))

  add_terms-keeps : (p q : List Monomial) → total (add_terms p q) ≡ total p +ℤ total q
  add_terms-keeps [] q = sym (+ℤ_idl (total q))
  add_terms-keeps (monomial c m ∷ p) q =
      insert_term-keeps c m (add_terms p q) ∙ rw (add_terms-keeps p q) (sym (+ℤ_assoc (c *ℤ product m) (total p) (total q)))

  scale_terms-keeps : (c : ℤ) (m : List ℕ) (q : List Monomial) → total (scale_terms c m q) ≡ (c *ℤ product m) *ℤ total q
  scale_terms-keeps c m [] = sym (*ℤ_comm (c *ℤ product m) (pos 0) ∙ zero-*ℤ (c *ℤ product m))
  scale_terms-keeps c m (monomial d n ∷ q) = rw (merge_variables-keeps m n, scale_terms-keeps c m q, four-factors c d (product m) (product n))
      (sym (*ℤ-+ℤ (c *ℤ product m) (d *ℤ product n) (total q)))

  multiply_terms-keeps : (p q : List Monomial) → total (multiply_terms p q) ≡ total p *ℤ total q
  multiply_terms-keeps [] q = sym (zero-*ℤ (total q))
  multiply_terms-keeps (monomial c m ∷ p) q = add_terms-keeps (scale_terms c m q) (multiply_terms p q)
      ∙ rw (scale_terms-keeps c m q, multiply_terms-keeps p q) (sym (+ℤ-*ℤ (c *ℤ product m) (total p) (total q)))

  drop_zeros-keeps : (p : List Monomial) → total (drop_zeros p) ≡ total p
  drop_zeros-keeps [] = refl
  drop_zeros-keeps (monomial c m ∷ p) =
      cond_cases (λ l. total l ≡ c *ℤ product m +ℤ total p) (is_zero c) (drop_zeros p) (monomial c m ∷ drop_zeros p)
      (λ t. rw (drop_zeros-keeps p, is-zero c t, zero-*ℤ (product m)) (sym (+ℤ_idl (total p)))) (λ _. rw (drop_zeros-keeps p) refl)

  terms-keeps : (e : Expression) → total (terms e) ≡ evaluate e
  terms-keeps (var i) = variable-term (at i)
  terms-keeps (lit c) = constant-term c
  terms-keeps (e ⊕ f) = add_terms-keeps (terms e) (terms f) ∙ rw (terms-keeps e, terms-keeps f) refl
  terms-keeps (e ⊖ f) = add_terms-keeps (terms e) (scale_terms (negsuc 0) [] (terms f))
      ∙ rw (scale_terms-keeps (negsuc 0) [] (terms f), terms-keeps e, terms-keeps f) (subtract (evaluate e) (evaluate f))
  terms-keeps (e ⊗ f) = multiply_terms-keeps (terms e) (terms f) ∙ rw (terms-keeps e, terms-keeps f) refl

  pub ring : (e f : Expression) → normal e ≡ normal f → evaluate e ≡ evaluate f
  ring e f h = sym (terms-keeps e) ∙ sym (drop_zeros-keeps (terms e)) ∙ ap total h ∙ drop_zeros-keeps (terms f) ∙ terms-keeps f

-- ---- with names for the variables: `in2 e` is e at the first two, and so on

abbrev pub in2 : (Expression → Expression → Expression) → Expression
in2 e = e (var 0) (var 1)

pub ring2 : (e f : Expression → Expression → Expression) (a b : ℤ)
    → normal (in2 e) ≡ normal (in2 f) → evaluate (a ∷ b ∷ []) (in2 e) ≡ evaluate (a ∷ b ∷ []) (in2 f)
ring2 e f a b h = ring (a ∷ b ∷ []) (in2 e) (in2 f) h

abbrev pub in3 : (Expression → Expression → Expression → Expression) → Expression
in3 e = e (var 0) (var 1) (var 2)

pub ring3 : (e f : Expression → Expression → Expression → Expression) (a b c : ℤ)
    → normal (in3 e) ≡ normal (in3 f) → evaluate (a ∷ b ∷ c ∷ []) (in3 e) ≡ evaluate (a ∷ b ∷ c ∷ []) (in3 f)
ring3 e f a b c h = ring (a ∷ b ∷ c ∷ []) (in3 e) (in3 f) h

abbrev pub in4 : (Expression → Expression → Expression → Expression → Expression) → Expression
in4 e = e (var 0) (var 1) (var 2) (var 3)

pub ring4 : (e f : Expression → Expression → Expression → Expression → Expression) (a b c d : ℤ)
    → normal (in4 e) ≡ normal (in4 f) → evaluate (a ∷ b ∷ c ∷ d ∷ []) (in4 e) ≡ evaluate (a ∷ b ∷ c ∷ d ∷ []) (in4 f)
ring4 e f a b c d h = ring (a ∷ b ∷ c ∷ d ∷ []) (in4 e) (in4 f) h

abbrev pub in5 : (Expression → Expression → Expression → Expression → Expression → Expression) → Expression
in5 e = e (var 0) (var 1) (var 2) (var 3) (var 4)

pub ring5 : (e f : Expression → Expression → Expression → Expression → Expression → Expression) (a b c d x : ℤ)
    → normal (in5 e) ≡ normal (in5 f) → evaluate (a ∷ b ∷ c ∷ d ∷ x ∷ []) (in5 e) ≡ evaluate (a ∷ b ∷ c ∷ d ∷ x ∷ []) (in5 f)
ring5 e f a b c d x h = ring (a ∷ b ∷ c ∷ d ∷ x ∷ []) (in5 e) (in5 f) h
