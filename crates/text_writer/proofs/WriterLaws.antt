-- Laws of a writer: what is written one after the other stands in a row.
use Rattle.std.specs.Prelude.{ℕ, ◌<◌, ◌^◌, ◌≡◌, refl, List, [], ◌++◌, length}
use Rattle.std.proofs.Common.{ap, ◌∙◌, arith}
use Rattle.std.proofs.lemmas.List.Edits.{sets}
use Rattle.std.proofs.Math.Seq.{length-sets}
use denote.Ref.{MutBor, at_last}
use Rattle.text.specs.Put.{Put}
use Rattle.text.specs.PutLaws.{and_then, put_nothing, same_length}
use Rattle.text_writer.specs.declared.TextWriter.{TextWriter}
use Rattle.text_writer.specs.Writer.{begun, extended}

-- what a writer puts that is extended by a text
pub puts : (w : TextWriter) (t : List ℕ) → length w.buf.now < 2 ^ 64 → Put w.buf.now w.count t (extended w t).buf.now (extended w t).count
puts w t room = record { room = room; stored = refl; next = refl }

-- a writer that has put a text is extended by it
pub extends : (w : TextWriter) {t m : List ℕ} {j : ℕ} → Put w.buf.now w.count t m j → record { buf = at_last w.buf m; count = j } ≡ extended w t
extends w {t} {m} {j} p =
    ap (λ (l : List ℕ). record { buf = at_last w.buf l; count = j }) p.stored
    ∙ ap (λ (n : ℕ). record { buf = at_last w.buf (sets w.buf.now w.count t); count = n }) p.next

-- one text, then another: both in a row
pub extended_append : (w : TextWriter) (t u : List ℕ) → length w.buf.now < 2 ^ 64 → extended (extended w t) u ≡ extended w (t ++ u)
extended_append w t u room =
    extends w (and_then (puts w t room) (puts (extended w t) u (omega (arith, room, length-sets w.buf.now w.count t))))

-- a writer that was extended by one text, then by another
pub extended_then : (v w : TextWriter) {x : TextWriter} (t u : List ℕ) → length v.buf.now < 2 ^ 64 → w ≡ extended v t → x ≡ extended w u
    → x ≡ extended v (t ++ u)
extended_then v w t u room e f = f ∙ ap (λ (y : TextWriter). extended y u) e ∙ extended_append v t u room

-- The writer `w` holds the borrow `x`, and has written the text `t` behind the first `n` bytes.
pub record Wrote (x : MutBor (List ℕ)) (n : ℕ) (t : List ℕ) (w : TextWriter) : Type 0 where
  pub same_name : w.buf.ghost_name ≡ x.ghost_name
  pub put : Put x.now n t w.buf.now w.count

pub begins : {w : TextWriter} (x : MutBor (List ℕ)) (n : ℕ) → length x.now < 2 ^ 64 → n < 2 ^ 64 → w ≡ begun x n → Wrote x n [] w
begins x n room fits e =
    record {
      same_name = ap (λ (h : TextWriter). h.buf.ghost_name) e;
      put = record {
        room = room;
        stored = ap (λ (h : TextWriter). h.buf.now) e;
        next = ap (λ (h : TextWriter). h.count) e ∙ (put_nothing x.now n room fits).next;
      };
    }

pub goes_on : {x : MutBor (List ℕ)} {n : ℕ} {t : List ℕ} {w w' : TextWriter} (u : List ℕ) → Wrote x n t w → w' ≡ extended w u
    → Wrote x n (t ++ u) w'
goes_on u p e =
    record {
      same_name = ap (λ (h : TextWriter). h.buf.ghost_name) e ∙ p.same_name;
      put =
          and_then p.put
          (record {
            room = omega (arith, p.put.room, same_length p.put);
            stored = ap (λ (h : TextWriter). h.buf.now) e;
            next = ap (λ (h : TextWriter). h.count) e;
          });
    }
