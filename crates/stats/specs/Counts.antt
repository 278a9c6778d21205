-- The counts of a scan (K1, K2).
use Rattle.std.specs.Prelude.{ℕ, ◌+◌, ◌-◌, ◌%◌, ◌^◌, true, false, List, [], ◌∷◌, ◌==◌}
use Rattle.basis.specs.Pick.{pick}
use Rattle.stats.specs.declared.Count.{Count}

-- The largest 32-bit number, at which a count is reported and starts again (K2).
abbrev pub full_count : ℕ
full_count = 2 ^ 32 - 1

-- A count that grows: modulo 2^32, and where that is 2^32 - 1, 0 with a mark (K2). One rule for the three: seen and filtered grow by 1,
-- payload by the payload's size.
unfoldable pub added : ℕ → ℕ → Count
added count n =
    pick ((count + n) % 2 ^ 32 == full_count)
    (record { value = 0; carry = true })
    (record { value = (count + n) % 2 ^ 32; carry = false })

-- A count after several additions, how many of them were marked, and their sum.
unfoldable pub added_all : ℕ → List ℕ → ℕ
added_all count [] = count
added_all count (n ∷ ns) = added_all (added count n).value ns

unfoldable pub marks_of : ℕ → List ℕ → ℕ
marks_of count [] = 0
marks_of count (n ∷ ns) = pick (added count n).carry 1 0 + marks_of (added count n).value ns

unfoldable pub total : List ℕ → ℕ
total [] = 0
total (n ∷ ns) = n + total ns
