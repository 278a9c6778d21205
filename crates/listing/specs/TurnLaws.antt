-- A law of the listing's turns.
use Rattle.std.specs.Prelude.{ℕ, ◌+◌, ◌≤◌, ◌≡◌, List, [], ◌∷◌, length}
use Rattle.std.proofs.Common.{ap, ◌∙◌, arith}
use Rattle.std.proofs.Math.Seq.{length-sets}
use Rattle.text_writer.specs.declared.TextWriter.{TextWriter}
use Rattle.listing_lines.specs.Lines.{room}
use Rattle.listing_load.specs.LoadLines.{written}

-- The lines of a load end within the buffer.
pub record Within (u x : TextWriter) : Type 0 where
  pub count : x.count ≤ length x.buf.now
  pub same_length : length x.buf.now ≡ length u.buf.now

pub put_within : (u x : TextWriter) (t : List ℕ) → x ≡ written u t → length t ≤ room → u.count + room ≤ length u.buf.now → Within u x
put_within u x [] is short there =
    record {
      count = omega (arith, ap (λ (y : TextWriter). y.count) is, ap (λ (y : TextWriter). length y.buf.now) is);
      same_length = ap (λ (y : TextWriter). length y.buf.now) is;
    }
put_within u x (b ∷ t) is short there =
    let size : length x.buf.now ≡ length u.buf.now =
    ap (λ (y : TextWriter). length y.buf.now) is ∙ length-sets u.buf.now u.count (b ∷ t) in
    record { count = omega (arith, ap (λ (y : TextWriter). y.count) is, size); same_length = size }
