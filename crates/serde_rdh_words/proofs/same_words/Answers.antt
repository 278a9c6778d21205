-- Words that are all equal have the same bytes, and a word that differs is a difference in the bytes.
use Rattle.std.specs.Int.{w64}
use Rattle.std.proofs.Common.{◌≡◌, ◌∙◌, sym, ap, arith, rules, ℕ, length, get_or, Fits}
use Rattle.std.proofs.lemmas.Slice.Eq.{bytes_eq-Decides}
use Rattle.serde_rdh_words.specs.WordBytes.{word_bytes}
use Rattle.serde_rdh_words.proofs.WordLaws.{same-words}
use Rattle.serde_rdh_words.proofs.same_words.Goals as goal

pub returns : goal.returns
returns c =
    let a = c.args.a in
    let b = c.args.b in
    let long : length a ≡ 8 = search rules in
    let long-too : length b ≡ 8 = search rules in
    let fit : (j : ℕ) → Fits w64 (get_or a j 0) = λ j. search rules in
    let fit-too : (j : ℕ) → Fits w64 (get_or b j 0) = λ j. search rules in
    let test = bytes_eq-Decides a b in (
      λ t. ap word_bytes (test.0 (sym c.eq.ensures ∙ t)),
      λ e. c.eq.ensures ∙ test.1 (same-words a b (omega arith) (λ j _. (fit j).fits) (λ j _. (fit-too j).fits) e),
    )
