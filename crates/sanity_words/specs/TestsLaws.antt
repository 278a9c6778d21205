-- Laws of lists of tests.
use Rattle.std.specs.Prelude.{Bool, ◌||◌, ◌≡◌, refl, List, [], ◌∷◌, ◌++◌}
use Rattle.std.proofs.Math.Bool.{or_assoc, or-false}
use Rattle.std.proofs.Common.{ap, sym, ◌∙◌}
use Rattle.sanity.specs.Tests.{Test, any_fails}

pub any_of_2 : (a b : Test) → any_fails (a ∷ b ∷ []) ≡ (a.fails || b.fails)
unfolding any_fails
any_of_2 a b = simp or-false

pub any_of_3 : (a b c : Test) → any_fails (a ∷ b ∷ c ∷ []) ≡ (a.fails || b.fails || c.fails)
unfolding any_fails
any_of_3 a b c = simp (or_assoc, or-false)

pub any_of_6 : (a b c d e f : Test)
    → any_fails (a ∷ b ∷ c ∷ d ∷ e ∷ f ∷ []) ≡ (a.fails || b.fails || c.fails || d.fails || e.fails || f.fails)
unfolding any_fails
any_of_6 a b c d e f = simp (or_assoc, or-false)

-- any of two lists fails where any of the one or any of the other does
pub any_of_both : (ts us : List Test) → any_fails (ts ++ us) ≡ (any_fails ts || any_fails us)
unfolding any_fails
any_of_both [] us = refl
any_of_both (t ∷ ts) us = ap (λ (b : Bool). t.fails || b) (any_of_both ts us) ∙ sym (or_assoc t.fails (any_fails ts) (any_fails us))

pub any_of_5_lists : (a b c d e : List Test)
    → any_fails (a ++ b ++ c ++ d ++ e) ≡ (any_fails a || any_fails b || any_fails c || any_fails d || any_fails e)
any_of_5_lists a b c d e = simp any_of_both
