-- Laws of C's structs for a header and for the reply of a text: nothing is lost on the way.
use Rattle.std.specs.Prelude.{ℕ, List, [], ◌∷◌, ◌≡◌, refl, leb, pos, length, Result}
use Rattle.std.proofs.Common.{ap, ◌∙◌}
use Rattle.basis.specs.PickLaws.{by_test}
use Rattle.basis.specs.Refusals.{Answer, gives, refuses}
use Rattle.rdh.specs.declared.rdh_cru.RdhCru.{RdhCru}
use Rattle.text.specs.Written.{Writes, answer, overwritten, written}
use Rattle.text.specs.declared.TooShort.{TooShort}
use Rattle.doors_header_structs.specs.Plain.{header_of, plain_header, plain_written, written_of}
use Rattle.doors_header_structs.specs.declared.plain.PlainHeader.{PlainHeader}
use Rattle.doors_header_structs.specs.declared.plain.PlainText.{PlainText}

-- a header comes back as it went
pub header_again : (h : RdhCru) → header_of (plain_header h) ≡ h
header_again h = refl

-- and so does C's struct
pub plain-header_again : (n : PlainHeader) → plain_header (header_of n) ≡ n
plain-header_again n = refl

-- the reply of a text tells its answer
pub written_again : (t l : List ℕ) → written_of (plain_written (written t l)) ≡ written t l
unfolding written
written_again t l =
    by_test (λ (a : Answer ℕ). written_of (plain_written a) ≡ a) (leb (length t) (length l)) (gives (length t))
    (refuses 7 (pos (length t) ∷ [])) (λ _. refl) (λ _. refl)

-- what a function that writes a text answers, C is told, and the buffer is as that function leaves it
pub told : {t l m : List ℕ} {r : Result ℕ TooShort} {n : PlainText} → n ≡ plain_written (answer r) → Writes t l r m
    → (n ≡ plain_written (written t l)) × (m ≡ overwritten t l)
told e w = (e ∙ ap plain_written w.reply, w.leaves)
