-- Proof that checks leave the texts of their list: a text that fits is put before the rest of the buffer, and one that does not is not put.
use Rattle.std.specs.Prelude.{Bool, true, false, ◌≡◌, refl, List, [], ◌∷◌, ◌++◌, map, ℕ, leb, ℤ, length, drop}
use Rattle.std.proofs.lemmas.Bool.{false≢true}
use Rattle.std.proofs.Common.{ap, subst, ◌∙◌}
use Rattle.basis.specs.Pick.{pick}
use Rattle.basis.specs.Refusals.{Answer, gives, refuses}
use Rattle.rdh.specs.declared.rdh_cru.RdhCru.{RdhCru}
use Rattle.text.specs.Written.{overwritten}
use Rattle.validators.specs.declared.RdhCruSanityValidator.{RdhCruSanityValidator}
use Rattle.validators.specs.Verdict.{Checks, Judged, answered, text_of}
use Rattle.validators.specs.Verdicts.{Reply, replies, reply}
use Rattle.validators.specs.VerdictTextsClaims.{AllGave, Gave, Made, TextsLeft, call_of}

-- whether an answer is a refusal
abbrev is_refused : Answer Judged → Bool
is_refused (gives judged) = false
is_refused (refuses number values) = true

-- what a reply says of a buffer
record Fills (r : Reply) (l m : List ℕ) : Type 0 where
  buffer : m ≡ r.text ++ drop (length r.text) l
  nothing : (values : List ℤ) → r.verdict ≡ refuses 7 values → m ≡ l

fills : (v : RdhCruSanityValidator) (h : RdhCru) (l : List ℕ) → Fills (reply v (record { header = h; room = length l })) l (overwritten (text_of v h) l)
unfolding reply answered overwritten
fills v h l = by_fit (leb (length (text_of v h)) (length l)) _ _
  where
    by_fit : (b : Bool) (judged : Judged) (values : List ℤ)
        → Fills (record { verdict = pick b (gives judged) (refuses 7 values); text = pick b (text_of v h) [] }) l
        (pick b (text_of v h ++ drop (length (text_of v h)) l) l)
    by_fit true judged values = record { buffer = refl; nothing = λ other e. absurd (false≢true (ap is_refused e)) }
    by_fit false judged values = record { buffer = refl; nothing = λ other e. refl }

gave : (v : RdhCruSanityValidator) (m : Made) → Checks v m.header m.lent m.check m.leaves → Gave (reply v (call_of m)) m
unfolding reply
gave v m c =
    let f = fills v m.header m.lent in
    record { verdict = c.verdict; buffer = c.leaves ∙ f.buffer; nothing = λ values e. c.leaves ∙ f.nothing values e }

pub texts_left : TextsLeft
unfolding replies
texts_left v [] made = tt
texts_left v (m ∷ ms) (c, others) = (
  gave v m c,
  subst (λ (w : RdhCruSanityValidator). AllGave (replies w (map call_of ms)) ms) c.validator (texts_left m.check.validator ms others),
)
