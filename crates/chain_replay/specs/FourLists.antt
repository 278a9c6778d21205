-- A list of calls over one recording, said by four lists: whether each is a load, the first place and the size of its window, and whether
-- the window is to be the last.
use Rattle.std.specs.Prelude.{ℕ, Bool, true, false, List, [], ◌∷◌, get_or}
use Rattle.chain.specs.Calls.{Call}
use Rattle.chain_replay_calls.specs.OneCall.{call_at}
use Rattle.chain_replay_calls.specs.declared.Asked.{Asked}
use Rattle.chain_replay_calls.specs.declared.CallKind.{CallKind}
use Rattle.chain_replay_calls.specs.declared.CallKind.TheVariants.{Examination, Load}

abbrev pub kind_if : (load : Bool) → CallKind
kind_if true = Load
kind_if false = Examination

abbrev pub asked_as : (load : Bool) → (first size : ℕ) → (last : Bool) → Asked
asked_as load first size last = record { kind = kind_if load; first = first; size = size; last = last }

-- As many calls as all four lists say.
unfoldable pub calls_of_lists : List ℕ → List Bool → (firsts sizes : List ℕ) → List Bool → List Call
calls_of_lists recording [] firsts sizes lasts = []
calls_of_lists recording (b ∷ bs) [] sizes lasts = []
calls_of_lists recording (b ∷ bs) (f ∷ fs) [] lasts = []
calls_of_lists recording (b ∷ bs) (f ∷ fs) (n ∷ ns) [] = []
calls_of_lists recording (b ∷ bs) (f ∷ fs) (n ∷ ns) (l ∷ ls) = call_at recording (asked_as b f n l) ∷ calls_of_lists recording bs fs ns ls

abbrev pub asked_in : List Bool → (firsts sizes : List ℕ) → List Bool → ℕ → Asked
asked_in kinds firsts sizes lasts i = asked_as (get_or kinds i false) (get_or firsts i 0) (get_or sizes i 0) (get_or lasts i false)
