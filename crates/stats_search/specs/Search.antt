-- What is listed, and what is listed twice (K3).
use Rattle.std.specs.Prelude.{ℕ, Bool, false, ◌||◌, List, [], ◌∷◌, eqb}
use Rattle.std.specs.List.{list_any}

-- Whether a number is listed.
unfoldable pub member : ℕ → List ℕ → Bool
member x l = list_any (eqb x) l

-- Whether any number is listed twice.
unfoldable pub twice : List ℕ → Bool
twice [] = false
twice (y ∷ ys) = member y ys || twice ys
