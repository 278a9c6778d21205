-- The statement that a load tells the marks of all its examinations (L1, L2).
use Rattle.std.specs.Prelude.{ℕ, Bool, false, List, ◌≡◌, drop}
use Rattle.basis.specs.Refusals.{gives}
use Rattle.scan_cdp.specs.Answers.{passed}
use Rattle.scan_cdp.specs.Loads.{Loaded, loaded}
use Rattle.scan_cdp.specs.Steps.{Entry, unchanged}
use Rattle.scan_cdp.specs.declared.Marks.{Marks}
use Rattle.scan_cdp.specs.declared.Part.{Part}
use Rattle.scan_cdp.specs.declared.Settings.{Settings}
use Rattle.scan_cdp.specs.declared.State.{State}
use Rattle.scan_laws.specs.LoadReplies.{all_marks, any, examinations, is_initial, last_of}

-- What a load replies is what the last examination of its call replies and leaves, with the marks of all of them; and of these only the
-- first can have the initial mark, so that none is lost.
pub record TellsAll (s : State) (fee_ids : List ℕ) (r : Loaded Part) (es : List (Entry Part)) : Type 0 where
  pub answer : r.answer ≡ (last_of (unchanged s fee_ids (gives passed)) es).answer
  pub state : r.state ≡ (last_of (unchanged s fee_ids (gives passed)) es).state
  pub fee-ids : r.fee_ids ≡ (last_of (unchanged s fee_ids (gives passed)) es).fee_ids
  pub marks : r.marks ≡ all_marks es
  pub one_initial : any (λ (m : Marks). is_initial m.initial) (drop 1 es) ≡ false

abbrev pub LoadsTellAll : Type 0
LoadsTellAll =
    (set : Settings) (s : State) (fee_ids w : List ℕ) (first : ℕ) (last : Bool)
    → TellsAll s fee_ids (loaded set s fee_ids w first last) (examinations set s fee_ids w first last)
