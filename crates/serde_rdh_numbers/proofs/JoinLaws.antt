-- A number that is joined from two parts has the bytes of both.
use mathlib.Core.Path.{◌≡◌, ap, ◌∙◌}
use Prim.Native.Nat.{ℕ, ◌+◌, ◌*◌, ◌<◌, ◌^◌}
use Rattle.basis.specs.Bytes.{bytes_of}
use Rattle.basis.specs.BytesLaws.{bytes_of_join}
use Rattle.serde_rdh_numbers.specs.Joined.{Joined}

pub joined : (width low high r : ℕ) → low < 256 ^ width → r ≡ low + 256 ^ width * high → Joined width low high r
joined width low high r fits e =
    record { number = e; bytes = ap (bytes_of (width + width)) e ∙ bytes_of_join width width low high fits }
