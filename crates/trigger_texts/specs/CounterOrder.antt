-- Texts of counters, one behind the other.
use Rattle.std.specs.Prelude.{ℕ, List, [], ◌∷◌, ◌++◌}
use Rattle.trigger_stats.specs.Counters.{Counter}

-- The texts of some counters, in the order in which the counters are listed.
unfoldable pub texts_in_order : (Counter → List ℕ) → List Counter → List ℕ
texts_in_order text [] = []
texts_in_order text (k ∷ ks) = text k ++ texts_in_order text ks
