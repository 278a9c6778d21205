-- What follows of the listing of many packets: it stops only where room is lacking or no packet is answered, and calls join.
use Prim.Native.Nat.{ℕ, zero, suc, ◌+◌, ◌≤◌, ◌<◌}
use Rattle.std.proofs.Common.{suc-add, sym, ◌∙◌}
use Rattle.std.specs.Prelude.{Bool, false, ◌≡◌, ltb}
use Rattle.std.proofs.Math.Bool.{true}
use Rattle.std.proofs.lemmas.Bool.{false≢true}
use Rattle.std.proofs.Math.Path.{refl, ap}
use mathlib.Core.List.{List, [], ◌++◌, append_assoc, append-nil}
use native.Mathlib.Omega.{arith}
use borrow.Author.Tests.{ltb-true}
use Rattle.std.proofs.Math.ListN.{length, length-append}
use Rattle.basis.specs.Pick.{pick}
use Rattle.basis.specs.PickLaws.{by_test, off, on}
use Rattle.validators.specs.declared.RdhCruSanityValidator.{RdhCruSanityValidator}
use Rattle.scan_cdp.specs.Loads.{Loaded, is_passed, loaded}
use Rattle.scan_cdp.specs.declared.Part.{Part}
use Rattle.scan_cdp.specs.declared.Settings.{Settings}
use Rattle.scan_cdp.specs.declared.State.{State}
use Rattle.scan_laws.proofs.RunLaws.{loaded-answers}
use Rattle.listing_lines.specs.Lines.{room}
use Rattle.listing_load.specs.LoadLines.{lines_of, unsound_in, validator_of}
use Rattle.listing_batch.specs.Batches.{Batched, Stopped, answered, batched, batched_from, unsound_with, full, is_packet, stopped, buffer_too_short}
use Rattle.listing_batch.specs.BatchLaws.{packet_there}
use Rattle.listing_batch.specs.Listings.{Listing, listed_into}

abbrev pub is_full : Stopped → Bool
is_full full = true
is_full (buffer_too_short needed) = false
is_full (answered a) = false

-- What can stop a listing: if it is a load's answer, it has no packet, and no header that is passed.
abbrev pub Known : Stopped → Type 0
Known full = Unit
Known (buffer_too_short needed) = Unit
Known (answered a) = (is_packet a ≡ false) × (is_passed a ≡ false)

module _ (set : Settings) (w : List ℕ) (first : ℕ) (last : Bool) where
  -- ---- where it stops

  short_from : (n size : ℕ) (v : RdhCruSanityValidator) (s : State) (fee_ids text : List ℕ) (bad : ℕ) → size < length text + n
      → is_full (batched_from n set v s fee_ids text bad w first last size).stop ≡ true
      → size < length (batched_from n set v s fee_ids text bad w first last size).text + room
  unfolding batched_from
  short_from zero size v s fee_ids text bad h = λ e. omega arith
  short_from (suc n) size v s fee_ids text bad h =
      let l = loaded set s fee_ids w first last in
      by_test (λ (b : Batched). is_full b.stop ≡ true → size < length b.text + room) (ltb size (length text + room)) _ _
      (λ short e. ltb-true size (length text + room) short)
      (λ roomy.
      by_test (λ (b : Batched). is_full b.stop ≡ true → size < length b.text + room) (is_packet l.answer) _ _
      (λ goes.
      short_from n size _ l.state l.fee_ids _ _
      (omega (arith, packet_there v l.answer l goes, length-append text (lines_of v l.answer l), h)))
      (λ stops e. absurd (false≢true e)))

  -- It stops for room only where the room of a load is lacking: the turns that the definition counts do not run out.
  pub full_is_short : (size : ℕ) (v : RdhCruSanityValidator) (s : State) (fee_ids : List ℕ)
      → is_full (batched set v s fee_ids w first last size).stop ≡ true
      → size < length (batched set v s fee_ids w first last size).text + room
  unfolding batched
  full_is_short size v s fee_ids = short_from (suc size) size v s fee_ids [] 0 (omega arith)

  -- Where a buffer is not refused and the call stops for room, there are lines: so the calls come to an end.
  pub full_has_lines : (size : ℕ) (v : RdhCruSanityValidator) (s : State) (fee_ids : List ℕ) → room ≤ size
      → is_full (batched set v s fee_ids w first last size).stop ≡ true → 1 ≤ length (batched set v s fee_ids w first last size).text
  full_has_lines size v s fee_ids long stops = omega (arith, full_is_short size v s fee_ids stops, long)

  known_from : (n size : ℕ) (v : RdhCruSanityValidator) (s : State) (fee_ids text : List ℕ) (bad : ℕ)
      → Known (batched_from n set v s fee_ids text bad w first last size).stop
  unfolding batched_from
  known_from zero size v s fee_ids text bad = tt
  known_from (suc n) size v s fee_ids text bad =
      let l = loaded set s fee_ids w first last in
      by_test (λ (b : Batched). Known b.stop) (ltb size (length text + room)) _ _
      (λ short. tt)
      (λ roomy.
      by_test (λ (b : Batched). Known b.stop) (is_packet l.answer) _ _
      (λ goes. known_from n size _ l.state l.fee_ids _ _)
      (λ stops. (stops, loaded-answers set s fee_ids w first last)))

  -- Neither a packet nor a header that is passed ends it.
  pub listed_known : (out : List ℕ) (v : RdhCruSanityValidator) (s : State) (fee_ids : List ℕ)
      → Known (listed_into out set v s fee_ids w first last).stop
  unfolding listed_into batched
  listed_known out v s fee_ids =
      by_test (λ (o : Listing). Known o.stop) (ltb (length out) room) _ _
      (λ short. tt)
      (λ roomy. known_from (suc (length out)) (length out) v s fee_ids [] 0)

  -- ---- calls join

  -- The loads with no bound on their lines; at most n of them.
  unfoldable pub all_from : ℕ → RdhCruSanityValidator → State → (fee_ids text : List ℕ) → (unsound : ℕ) → Batched
  all_from zero v s fee_ids text bad = stopped full v s fee_ids text bad
  all_from (suc n) v s fee_ids text bad =
      let l = loaded set s fee_ids w first last in
      let after = validator_of v l.answer in
      let more = text ++ lines_of v l.answer l in
      let worse = unsound_with bad (unsound_in v l.answer) in
      pick (is_packet l.answer) (all_from n after l.state l.fee_ids more worse)
      (stopped (answered l.answer) after l.state l.fee_ids more worse)

  -- With m loads more, if it stopped for room.
  abbrev continued : ℕ → Batched → Batched
  continued m b = pick (is_full b.stop) (all_from m b.validator b.state b.fee_ids b.text b.unsound) b

  -- A batch made so many of the loads, and left the others.
  record Made (v : RdhCruSanityValidator) (s : State) (fee_ids text : List ℕ) (bad : ℕ) (b : Batched) : Type 0 where
    pub loads : ℕ
    pub rest : (m : ℕ) → all_from (loads + m) v s fee_ids text bad ≡ continued m b

  none_made : (v : RdhCruSanityValidator) (s : State) (fee_ids text : List ℕ) (bad : ℕ)
      → Made v s fee_ids text bad (stopped full v s fee_ids text bad)
  none_made v s fee_ids text bad =
      record {
        loads = 0;
        rest = λ m. let start : 0 + m ≡ m = omega arith in ap (λ (k : ℕ). all_from k v s fee_ids text bad) start;
      }

  module _ (v : RdhCruSanityValidator) (s : State) (fee_ids text : List ℕ) (bad : ℕ) where
    abbrev l : Loaded Part
    l = loaded set s fee_ids w first last

    abbrev after : RdhCruSanityValidator
    after = validator_of v l.answer

    abbrev more : List ℕ
    more = text ++ lines_of v l.answer l

    abbrev worse : ℕ
    worse = unsound_with bad (unsound_in v l.answer)

    one_load : (b : Batched) → is_packet l.answer ≡ true → Made after l.state l.fee_ids more worse b → Made v s fee_ids text bad b
    unfolding all_from
    one_load b goes ih =
        record {
          loads = suc ih.loads;
          rest = λ m. ap (λ (k : ℕ). all_from k v s fee_ids text bad) (suc-add ih.loads m) ∙ on _ _ goes ∙ ih.rest m;
        }

    last_load : is_packet l.answer ≡ false
        → Made v s fee_ids text bad (stopped (answered l.answer) after l.state l.fee_ids more worse)
    unfolding all_from
    last_load stops =
        record {
          loads = 1;
          rest = λ m. ap (λ (k : ℕ). all_from k v s fee_ids text bad) (suc-add 0 m) ∙ off _ _ stops;
        }

  made : (n size : ℕ) (v : RdhCruSanityValidator) (s : State) (fee_ids text : List ℕ) (bad : ℕ)
      → Made v s fee_ids text bad (batched_from n set v s fee_ids text bad w first last size)
  unfolding batched_from
  made zero size v s fee_ids text bad = none_made v s fee_ids text bad
  made (suc n) size v s fee_ids text bad =
      let l = loaded set s fee_ids w first last in
      by_test (λ (b : Batched). Made v s fee_ids text bad b) (ltb size (length text + room)) _ _
      (λ short. none_made v s fee_ids text bad)
      (λ roomy.
      by_test (λ (b : Batched). Made v s fee_ids text bad b) (is_packet l.answer) _ _
      (λ goes. one_load v s fee_ids text bad _ goes (made n size _ l.state l.fee_ids _ _))
      (λ stops. last_load v s fee_ids text bad stops))

  -- The same with a text before it, and so many more packets that are not sound.
  abbrev pub behind : List ℕ → ℕ → Batched → Batched
  behind t k b = stopped b.stop b.validator b.state b.fee_ids (t ++ b.text) (k + b.unsound)

  behind-pick : (c : Bool) (t : List ℕ) (k : ℕ) (x y x' y' : Batched) → x ≡ behind t k x' → y ≡ behind t k y'
      → pick c x y ≡ behind t k (pick c x' y')
  behind-pick true t k x y x' y' p q = p
  behind-pick false t k x y x' y' p q = q

  all-behind : (n : ℕ) (v : RdhCruSanityValidator) (s : State) (fee_ids t u : List ℕ) (k j : ℕ)
      → all_from n v s fee_ids (t ++ u) (k + j) ≡ behind t k (all_from n v s fee_ids u j)
  unfolding all_from
  all-behind zero v s fee_ids t u k j = refl
  all-behind (suc n) v s fee_ids t u k j =
      let l = loaded set s fee_ids w first last in
      let after = validator_of v l.answer in
      let lines = lines_of v l.answer l in
      let bad = unsound_in v l.answer in
      let joined : (t ++ u) ++ lines ≡ t ++ (u ++ lines) = append_assoc t u lines in
      let summed : unsound_with (k + j) bad ≡ k + unsound_with j bad = omega arith in
      behind-pick (is_packet l.answer) t k _ _ _ _
      ((λ i. all_from n after l.state l.fee_ids (joined i) (summed i))
      ∙ all-behind n after l.state l.fee_ids t (u ++ lines) k (unsound_with j bad))
      (λ i. stopped (answered l.answer) after l.state l.fee_ids (joined i) (summed i))

  -- Calls join: where one stops for room, what the loads give from its state on, behind its text and its count, is what they give from its
  -- start on.
  pub record Joins (v : RdhCruSanityValidator) (s : State) (fee_ids : List ℕ) (b : Batched) : Type 0 where
    pub loads : ℕ
    pub rest : (m : ℕ)
        → all_from (loads + m) v s fee_ids [] 0 ≡ behind b.text b.unsound (all_from m b.validator b.state b.fee_ids [] 0)

  pub calls_join : (size : ℕ) (v : RdhCruSanityValidator) (s : State) (fee_ids : List ℕ)
      → is_full (batched set v s fee_ids w first last size).stop ≡ true → Joins v s fee_ids (batched set v s fee_ids w first last size)
  unfolding batched
  calls_join size v s fee_ids stops =
      let b = batched_from (suc size) set v s fee_ids [] 0 w first last size in
      let x = made (suc size) size v s fee_ids [] 0 in
      let none : b.unsound ≡ b.unsound + 0 = omega arith in
      record {
        loads = x.loads;
        rest =
            λ m. x.rest m ∙ on _ _ stops
            ∙ (λ i. all_from m b.validator b.state b.fee_ids (sym (append-nil b.text) i) (none i))
            ∙ all-behind m b.validator b.state b.fee_ids b.text [] b.unsound 0;
      }
