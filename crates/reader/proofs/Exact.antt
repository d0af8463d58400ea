-- Reading is exact, for a reply: the claim over the definitions, said of what the code answers.
use mathlib.Core.Path.{◌≡◌, refl, sym, ap, ap₂, ◌∙◌, subst}
use mathlib.Core.List.{List}
use Prim.Native.Nat.{ℕ}
use lib.ListN.{length}
use Rattle.meaning.specs.Line.{Line}
use Rattle.meaning.specs.Known.{Known}
use Rattle.meaning.specs.Refusal.{Reading, refused, read, on_reading, reading}
use Rattle.meaning.specs.Reply.{Answer, reply, counts, refusal, read_reply}
use Rattle.meaning.proofs.Reading.{reads-exactly}
use Rattle.reader.specs.Read.{survey_of, survey_meaning, answer_meaning, reply_of, Exact}
use Rattle.std.specs.Prelude.{Result, Ok, Err}
use Rattle.refusal.specs.declared.refused.Refused.{Refused}
use Rattle.refusal.specs.Refusal.{refused_reply}
use Rattle.std.specs.Result.{IsErrAnd}
use Rattle.reader.specs.declared.reading.Surveyed.{Surveyed}
use Rattle.reader.specs.declared.reading.Summary.{Summary}

-- ---- the reply to what was found

-- what is replied of a reading
unfoldable replied_to : Reading → Answer
replied_to r = on_reading r (λ n at. refusal (reply n at)) (λ ls s. counts s.p (length s.known) s.cells s.rows)

survey-replied : (r : Reading) → reply_of (survey_of r) ≡ replied_to r
unfolding reply_of survey_of replied_to on_reading
survey-replied (refused n i) = refl
survey-replied (read ls s) = refl

module _ (text : List ℕ) (x : Result Surveyed Refused) (yields : survey_meaning x ≡ survey_of (reading text)) where
  found-replied : reply_of (survey_meaning x) ≡ read_reply text
  unfolding read_reply replied_to
  found-replied = ap reply_of yields ∙ survey-replied (reading text)

  pub refused-replied : {broken : Refused} → x ≡ Err broken → refusal (refused_reply broken) ≡ read_reply text
  unfolding reply_of
  refused-replied is = ap (λ (y : Result Surveyed Refused). reply_of (survey_meaning y)) (sym is) ∙ found-replied

  pub counts-replied : {found : Surveyed} → x ≡ Ok found → counts found.p found.counts.values found.counts.cells.0 found.counts.rows ≡ read_reply text
  unfolding reply_of
  counts-replied is = ap (λ (y : Result Surveyed Refused). reply_of (survey_meaning y)) (sym is) ∙ found-replied

-- a refusal that is passed on
pub passed-on : (r : Result Summary Refused) (broken : Refused) → IsErrAnd r (λ x. x ≡ broken) → answer_meaning r ≡ refusal (refused_reply broken)
passed-on (Ok s) broken h = absurd h
passed-on (Err x) broken h = rw h refl

-- ---- a reply and the claim

abbrev IsCounts : Answer → Type 0
IsCounts (counts p v c w) = Unit {0}
IsCounts (refusal r) = ⊥

abbrev number_of : Answer → ℕ
number_of (counts p v c w) = 0
number_of (refusal r) = r.number

abbrev place_of : Answer → ℕ
place_of (counts p v c w) = 0
place_of (refusal r) = r.place

module _ (q : Reading) where
  abbrev IsCounted : Type 0
  IsCounted = (p : ℕ) × (values : ℕ) × (cells : ℕ) × (rows : ℕ) × (replied_to q ≡ counts p values cells rows)

counts-read : (q : Reading) → IsCounted q → (ls : List Line) × (s : Known) × (q ≡ read ls s)
unfolding replied_to on_reading
counts-read (refused n i) c = absurd (subst IsCounts (sym c.4) tt)
counts-read (read ls s) c = (ls, s, refl)

read-counts : (q : Reading) (ls : List Line) (s : Known) → q ≡ read ls s → IsCounted q
unfolding replied_to on_reading
read-counts q ls s e = (s.p, length s.known, s.cells, s.rows, ap replied_to e)

refusal-refused : (q : Reading) (n i : ℕ) → replied_to q ≡ refusal (reply n i) → q ≡ refused n i
unfolding replied_to on_reading
refusal-refused (refused m j) n i e = ap₂ refused (ap number_of e) (ap place_of e)
refusal-refused (read ls s) n i e = absurd (subst IsCounts e tt)

refused-refusal : (q : Reading) (n i : ℕ) → q ≡ refused n i → replied_to q ≡ refusal (reply n i)
unfolding replied_to on_reading
refused-refusal q n i e = ap replied_to e

exact-reply : (text : List ℕ) → Exact text (read_reply text)
unfolding read_reply replied_to
exact-reply text =
    let q = reading text in
    let claim = reads-exactly text in (
      (λ c. claim.0.0 (counts-read q c), λ h. let r = claim.0.1 h in read-counts q r.0 r.1 r.2),
      λ n i. (λ e. (claim.1 n i).0 (refusal-refused q n i e), λ f. refused-refusal q n i ((claim.1 n i).1 f)),
    )

pub reads-exactly-as-replied : (text : List ℕ) (a : Answer) → a ≡ read_reply text → Exact text a
reads-exactly-as-replied text a e = subst (λ (b : Answer). Exact text b) (sym e) (exact-reply text)
