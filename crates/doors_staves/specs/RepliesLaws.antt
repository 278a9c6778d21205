-- Laws of the reply to a name: it tells its answer.
use Rattle.std.specs.Prelude.{ℕ, List, ◌≡◌, refl}
use Rattle.its_names.specs.StaveNames.{named_fee}
use Rattle.its_names.specs.StaveNameLaws.{by_answer}
use Rattle.doors_staves.specs.Replies.{named_of, plain_named}

-- whichever of the two it is, the answer comes back
pub named_again : (name : List ℕ) → named_of (plain_named (named_fee name)) ≡ named_fee name
named_again name = by_answer (λ a. named_of (plain_named a) ≡ a) name (λ layer stave is. refl) refl
