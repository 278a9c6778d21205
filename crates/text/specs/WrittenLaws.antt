-- Laws of whole texts: measured where the longest one would not fit, then refused, or put where there is room.
use Rattle.std.specs.Prelude.{ℕ, ◌≤◌, ◌<◌, ◌+◌, ◌≡◌, List, [], ◌∷◌, ◌++◌, pos, length, drop, Ok, Err}
use Rattle.std.proofs.Common.{ap, sym, ◌∙◌, le_trans, arith, le-leb}
use Rattle.std.proofs.lemmas.Bool.{lt-leb}
use Rattle.std.proofs.lemmas.List.Edits.{sets-eq}
use Rattle.basis.specs.PickLaws.{on, off}
use Rattle.basis.specs.Refusals.Answer.{gives, refuses}
use Rattle.text.specs.Put.{Put, last_place}
use Rattle.text.specs.PutLaws.{measured}
use Rattle.text.specs.Written.{Needed, Writes, written, overwritten}

-- room for the longest text is room for any
pub holds_longest : {t : List ℕ} {longest room : ℕ} → length t ≤ longest → longest ≤ room → Needed t room 0
holds_longest short wide = record { fits = λ enough. le_trans short wide; exact = λ below. omega arith }

-- any other room is held against the text's own length
pub by_measure : {t m : List ℕ} {need : ℕ} (room : ℕ) → Put [] 0 t m need → length t ≤ last_place → Needed t room need
by_measure room p small =
    let is = measured p small in
    record { fits = λ enough. omega arith; exact = λ below. is }

-- a text that is longer than the buffer is refused with its length, and nothing is written
pub too_short : {t : List ℕ} {need : ℕ} (l : List ℕ) → Needed t (length l) need → length l < need → Writes t l (Err (record { needed = need })) l
unfolding written overwritten
too_short {t} {need} l needed short =
    let is = needed.exact short in
    let longer : length l < length t = omega arith in
    record {
      reply = ap (λ (n : ℕ). refuses 7 (pos n ∷ [])) is ∙ sym (off _ _ (lt-leb (length t) (length l) longer));
      leaves = sym (off _ _ (lt-leb (length t) (length l) longer));
    }

-- one that fits stands at the buffer's start, and what is behind it is as it was
pub fitting : {t l m : List ℕ} {j : ℕ} → length t ≤ length l → Put l 0 t m j → Writes t l (Ok j) m
unfolding written overwritten
fitting {t} {l} {m} {j} fits p =
    let is : j ≡ length t = omega (arith, p.next, p.room) in
    let whole : 0 + length t ≤ length l = omega arith in
    let from : 0 + length t ≡ length t = omega arith in
    record {
      reply = ap gives is ∙ sym (on _ _ (le-leb (length t) (length l) fits));
      leaves =
          p.stored ∙ sets-eq t l 0 whole ∙ ap (λ (n : ℕ). t ++ drop n l) from
          ∙ sym (on _ _ (le-leb (length t) (length l) fits));
    }
