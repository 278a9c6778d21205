-- Numbers of several bytes, lowest byte first (B1), by their halves.
use Rattle.std.specs.Prelude.{◌≡◌, ◌++◌, ℕ, ◌+◌, ◌*◌, ◌^◌}
use Rattle.basis.specs.Bytes.{bytes_of}

-- A number that is joined from two of `width` bytes each: their values, and their bytes.
pub record Joined (width low high r : ℕ) : Type 0 where
  pub number : r ≡ low + 256 ^ width * high
  pub bytes : bytes_of (width + width) r ≡ bytes_of width low ++ bytes_of width high
