-- Words that hold the header are written exactly where 64 bytes are lent.
use Rattle.std.proofs.Common.{◌≡◌, ◌≤◌, ◌↔◌, ◌∙◌, refl, sym, ap, arith, lt-ltb, le-ltb, List, ℕ, ◌++◌, length, drop, ltb, Result, Ok, Err, IsOk}
use Rattle.std.proofs.lemmas.Bool.{false≢true}
use Rattle.basis.specs.Pick.{pick}
use Rattle.basis.specs.PickLaws.{on, off}
use Rattle.rdh.specs.declared.rdh_cru.RdhCru.{RdhCru}
use Rattle.rdh.specs.declared.rdh_cru.TooFewBytes.{TooFewBytes}
use Rattle.serde_rdh_words.specs.WordBytes.{words_into}
use Rattle.serde_rdh.specs.Layout.{encode, encoded_into}
use Rattle.serde_rdh.specs.Refusals.{encode_answer}
use Rattle.serde_rdh.specs.Words.{Words}
use Rattle.serde_rdh.proofs.to_byte_slice.Goals as goal

answered : (r : Result Unit TooFewBytes) (l : List ℕ) → (IsOk r ↔ (64 ≤ length l)) → encode_answer r ≡ encode l
unfolding encode
answered (Ok done) l fit = sym (off _ _ (le-ltb (length l) 64 (fit.0 refl)))
answered (Err few) l fit =
    let short : ¬ (64 ≤ length l) = λ enough. false≢true (fit.1 enough) in
    sym (on _ _ (lt-ltb (length l) 64 (omega arith)))

-- what the words leave in a buffer, the header leaves
left_there : (h : RdhCru) (ws l : List ℕ) → Words h ws → words_into ws l ≡ encoded_into h l
unfolding encoded_into words_into
left_there h ws l same = ap (λ (s : List ℕ). pick (ltb (length l) 64) l (s ++ drop 64 l)) same.bytes

pub returns-clause-answer : goal.returns-clause-answer
returns-clause-answer c = answered c.write_words.result c.args.out.now c.write_words.ensures.fit

pub returns-clause-left : goal.returns-clause-left
returns-clause-left c = c.write_words.ensures.left ∙ left_there _ _ c.args.out.now c.words.ensures
