-- Laws of what a buffer holds: when bytes move to its front, and when it is read on.
use Rattle.std.specs.Prelude.{ℕ, suc, ◌+◌, ◌-◌, ◌≤◌, ◌<◌, min, ◌≡◌, refl, List, ◌++◌, Bool, true, false, length, get_or, set, take, drop}
use Rattle.std.specs.Prelude.{Result, Ok, Err}
use Rattle.std.proofs.Common.{ap, sym, subst, ◌∙◌, true≢false, length-append, length-take, length-drop, get_or-drop, take-take}
use native.Mathlib.Omega.{arith}
use Rattle.std.proofs.Math.Seq.{paste, paste-suc}
use Rattle.std.proofs.lemmas.List.Edits.{length-paste, drop-paste}
use Rattle.std.proofs.lemmas.List.{take-append-le}
use Rattle.listing_window.specs.declared.Held.{Held}
use Rattle.listing_window.specs.Held.{Fails, Kept, Lacks, Reads, ReadsOn, distance, held_from, held_in, nothing_from, slid}

-- a buffer keeps its length
pub length-slid : (l : List ℕ) (d i : ℕ) → d + i ≤ length l → length (paste l 0 (drop d l) i) ≡ length l
length-slid l d i h = length-paste l 0 (drop d l) i (omega arith) (omega (arith, length-drop d l))

module _ (l : List ℕ) (h : Held) (place : ℕ) where
  -- what is held stands in the buffer
  pub held_within : (held_from l h place).length ≤ length (slid l h place)
  unfolding held_from slid
  held_within = omega (arith, length-slid l (distance l h place) (held_in l h - distance l h place) (omega arith))

  -- where it starts before the place, nothing is held
  pub held_none : (held_from l h place).first.0 < place → (held_from l h place).length ≡ 0
  unfolding held_from
  held_none before = omega arith

-- a longer front that is the same has the same shorter front
shorter_front : (l m : List ℕ) (n k : ℕ) → n ≤ k → take k l ≡ take k m → take n l ≡ take n m
shorter_front l m n k less same =
    sym (take-take n k l less) ∙ ap (λ (r : List ℕ). take n r) same ∙ take-take n k m less

-- reading up to the place, then behind what is held
module _ {h : Held} {m : List ℕ} {place size : ℕ} {g : Held} {l : List ℕ} (up_to : Reads h m place 0 g l) where
  module _ {e : Held} {k : List ℕ} (behind : Reads g l g.first.0 size e k) where
    starts_there : e.first.0 ≡ g.first.0
    starts_there = omega (arith, behind.onward, behind.up_to)

    all-kept : Kept h m e k
    all-kept =
        record {
          more = omega (arith, up_to.kept.more, behind.kept.more);
          within = behind.kept.within;
          same = shorter_front k l h.length g.length up_to.kept.more behind.kept.same ∙ up_to.kept.same;
        }

    -- an end that was met before the place stays
    none_there : (b : Bool) → g.last ≡ b → e.first.0 < place → e.length ≡ 0
    none_there true ended before =
        ap (λ (x : Held). x.length) (behind.unread_ended ended).0 ∙ up_to.none_before (omega (arith, starts_there))
    none_there false unended before = absurd (omega (arith, starts_there, (up_to.goes_on unended).1))

    ends_there : (b : Bool) → g.last ≡ b → e.last ≡ true → h.last ≡ false → Lacks e place size k × (e.length < length k)
    ends_there true ended last going_on =
        let stayed = behind.unread_ended ended in
        let first = ap (λ (x : Held). x.first.0) stayed.0 in
        let size = ap (λ (x : Held). x.length) stayed.0 in
        let short = up_to.ends ended going_on in
        (omega (arith, short.0, first, size), omega (arith, short.1, size, ap length stayed.1))
    ends_there false unended last going_on =
        let short = behind.ends last unended in
        (omega (arith, short.0, starts_there, (up_to.goes_on unended).1), short.1)

    pub read_on : Reads h m place size e k
    read_on =
        record {
          kept = all-kept;
          onward = omega (arith, starts_there, up_to.onward);
          up_to = omega (arith, starts_there, up_to.up_to);
          none_before = none_there g.last refl;
          goes_on =
              λ unended.
              let there = behind.goes_on unended in
              let before = up_to.goes_on there.0 in
              (before.0, starts_there ∙ before.1, there.2);
          ends = ends_there g.last refl;
          unread_ended =
              λ ended.
              let first = up_to.unread_ended ended in
              let then = behind.unread_ended (ap (λ (x : Held). x.last) first.0 ∙ ended) in
              (then.0 ∙ first.0, then.1 ∙ first.1);
          unread_enough =
              λ there enough.
              let first = up_to.unread_enough there (omega arith) in
              let then = behind.unread_enough (omega arith) (omega (arith, ap (λ (x : Held). x.length) first.0)) in
              (then.0 ∙ first.0, then.1 ∙ first.1);
        }

  -- a read behind what is held fails
  pub failed_behind : {k : List ℕ} → Fails g l g.first.0 size k → Fails h m place size k
  failed_behind {k} fails =
      record {
        going_on = (up_to.goes_on fails.going_on).0;
        lacking = omega (arith, fails.lacking, up_to.kept.more);
        same = shorter_front k l h.length g.length up_to.kept.more fails.same ∙ up_to.kept.same;
      }

-- what is read behind what was reached
pub all_read : {E : Type 0} {h : Held} {m : List ℕ} {place : ℕ} {g : Held} {l : List ℕ} → Reads h m place 0 g l → (size : ℕ) (k : List ℕ)
    → (r : Result Held E) → ReadsOn g l g.first.0 size k r → ReadsOn h m place size k r
all_read up_to size k (Err e) behind = failed_behind up_to behind
all_read up_to size k (Ok e) behind = read_on up_to behind

-- the byte that moves next is still the one that was there
next_byte : (l : List ℕ) (d i : ℕ) → d + i < length l → get_or (paste l 0 (drop d l) i) (d + i) 0 ≡ get_or (drop d l) i 0
next_byte l d i h =
    let m = paste l 0 (drop d l) i in
    let turned : d + i ≡ (0 + i) + d = omega arith in
    let back : (0 + i) + d ≡ d + i = omega arith in
    ap (λ (k : ℕ). get_or m k 0) turned
    ∙ sym (get_or-drop (0 + i) m d 0)
    ∙ ap (λ (r : List ℕ). get_or r d 0) (drop-paste l 0 (drop d l) i (omega arith) (omega (arith, length-drop d l)))
    ∙ get_or-drop (0 + i) l d 0
    ∙ ap (λ (k : ℕ). get_or l k 0) back
    ∙ sym (get_or-drop d l i 0)

-- one byte more moves to the front
pub one_moves : (l : List ℕ) (d i : ℕ) → d + i < length l
    → set (paste l 0 (drop d l) i) i (get_or (paste l 0 (drop d l) i) (d + i) 0) ≡ paste l 0 (drop d l) (i + 1)
one_moves l d i h =
    let m = paste l 0 (drop d l) i in
    let here : i ≡ 0 + i = omega arith in
    let more : suc i ≡ i + 1 = omega arith in
    ap (λ (b : ℕ). set m i b) (next_byte l d i h)
    ∙ ap (λ (k : ℕ). set m k (get_or (drop d l) i 0)) here
    ∙ paste-suc l 0 (drop d l) i 0 (omega arith) (omega (arith, length-drop d l))
    ∙ ap (λ (k : ℕ). paste l 0 (drop d l) k) more

-- what is read into a part of a buffer leaves its length, and what is in front of the part
pub length_read : (l ys : List ℕ) (a k : ℕ) → length ys ≡ length (take k (drop a l))
    → length (take a l ++ (ys ++ drop k (drop a l))) ≡ length l
length_read l ys a k same =
    omega (
      arith,
      length-append (take a l) (ys ++ drop k (drop a l)),
      length-append ys (drop k (drop a l)),
      length-take a l,
      length-take k (drop a l),
      length-drop k (drop a l),
      length-drop a l,
      same,
    )

pub read_front : (l rest : List ℕ) (n a : ℕ) → n ≤ a → a ≤ length l → take n (take a l ++ rest) ≡ take n l
read_front l rest n a before within =
    take-append-le n (take a l) rest (omega (arith, length-take a l)) ∙ take-take n a l before

-- that nothing is held, said in one piece
pub nothing_held : (h : Held) → h.last ≡ false → h.length ≡ 0 → nothing_from h.first ≡ h
nothing_held h unended none = λ i. record { first = h.first; length = sym none i; last = sym unended i }

-- reading up to a place that is ahead: nothing is held before it
module _ (h : Held) (m l : List ℕ) (place : ℕ) (unended : h.last ≡ false) (before : h.first.0 < place) (none : h.length ≡ 0) where
  same_front : take h.length l ≡ take h.length m
  same_front = ap (λ (n : ℕ). take n l) none ∙ sym (ap (λ (n : ℕ). take n m) none)

  nothing-kept : (first : ℕ) (last : Bool) → Kept h m (record { first = record { 0 = first }; length = 0; last = last }) l
  nothing-kept first last = record { more = omega (arith, none); within = omega arith; same = same_front }

  not-ended : {A : Type 0} → h.last ≡ true → A
  not-ended ended = absurd (true≢false (sym ended ∙ unended))

  pub place_reached : Reads h m place 0 (record { first = record { 0 = place }; length = 0; last = false }) l
  place_reached =
      record {
        kept = nothing-kept place false;
        onward = omega arith;
        up_to = omega arith;
        none_before = λ short. absurd (omega arith);
        goes_on = λ _. (unended, omega arith, omega arith);
        ends = λ ended. absurd (true≢false (sym ended));
        unread_ended = not-ended;
        unread_enough = λ there. absurd (omega arith);
      }

  pub ended_before : (first : ℕ) → h.first.0 ≤ first → first < place → 0 < length l
      → Reads h m place 0 (record { first = record { 0 = first }; length = 0; last = true }) l
  ended_before first onward short room =
      record {
        kept = nothing-kept first true;
        onward = onward;
        up_to = omega arith;
        none_before = λ _. refl;
        goes_on = λ goes. absurd (true≢false goes);
        ends = λ _ _. (omega arith, room);
        unread_ended = not-ended;
        unread_enough = λ there. absurd (omega arith);
      }

  pub failed_ahead : Fails h m place 0 l
  failed_ahead = record { going_on = unended; lacking = omega (arith, none); same = same_front }

-- reading behind what is held
module _ (h : Held) (m l : List ℕ) (size : ℕ) (unended : h.last ≡ false) (same : take h.length l ≡ take h.length m) where
  pub ended-behind : (n : ℕ) → h.length ≤ n → n < min size (length l)
      → Reads h m h.first.0 size (record { first = h.first; length = n; last = true }) l
  ended-behind n more short =
      record {
        kept = record { more = more; within = omega arith; same = same };
        onward = omega arith;
        up_to = omega arith;
        none_before = λ before. absurd (omega arith);
        goes_on = λ goes. absurd (true≢false goes);
        ends = λ _ _. (omega arith, omega arith);
        unread_ended = λ ended. absurd (true≢false (sym ended ∙ unended));
        unread_enough = λ _ enough. absurd (omega arith);
      }

  pub filled : (n : ℕ) → h.length ≤ n → n ≤ length l → min size (length l) ≤ n
      → (min size (length l) ≤ h.length → (n ≡ h.length) × (l ≡ m))
      → Reads h m h.first.0 size (record { first = h.first; length = n; last = false }) l
  filled n more within enough unread =
      record {
        kept = record { more = more; within = within; same = same };
        onward = omega arith;
        up_to = omega arith;
        none_before = λ before. absurd (omega arith);
        goes_on = λ _. (unended, omega arith, enough);
        ends = λ ended. absurd (true≢false (sym ended));
        unread_ended = λ ended. absurd (true≢false (sym ended ∙ unended));
        unread_enough =
            λ _ held. ((λ i. record { first = h.first; length = (unread held).0 i; last = sym unended i }), (unread held).1);
      }

  pub failed_fill : h.length < min size (length l) → Fails h m h.first.0 size l
  failed_fill short = record { going_on = unended; lacking = omega arith; same = same }

-- where there is nothing to read, all stays
pub still_ended : (h : Held) (m : List ℕ) (place size : ℕ) → h.last ≡ true → h.length ≤ length m → (h.first.0 < place → h.length ≡ 0)
    → Reads h m place size h m
still_ended h m place size ended within none_before =
    record {
      kept = record { more = omega arith; within = within; same = refl };
      onward = omega arith;
      up_to = omega arith;
      none_before = none_before;
      goes_on = λ unended. absurd (true≢false (sym ended ∙ unended));
      ends = λ _ unended. absurd (true≢false (sym ended ∙ unended));
      unread_ended = λ _. (refl, refl);
      unread_enough = λ _ _. (refl, refl);
    }

pub still_there : (h : Held) (m : List ℕ) (place : ℕ) → h.last ≡ false → h.length ≤ length m → place ≤ h.first.0 → Reads h m place 0 h m
still_there h m place unended within there =
    record {
      kept = record { more = omega arith; within = within; same = refl };
      onward = omega arith;
      up_to = omega arith;
      none_before = λ before. absurd (omega arith);
      goes_on = λ _. (unended, omega arith, omega arith);
      ends = λ ended. absurd (true≢false (sym ended ∙ unended));
      unread_ended = λ _. (refl, refl);
      unread_enough = λ _ _. (refl, refl);
    }

-- a read up to the place fails
pub failed_before : {h : Held} {m l : List ℕ} {place : ℕ} (size : ℕ) → Fails h m place 0 l → Fails h m place size l
failed_before size fails = record { going_on = fails.going_on; lacking = omega (arith, fails.lacking); same = fails.same }

-- what was reached, said of the definitions
pub reached : {E : Type 0} (h : Held) (m : List ℕ) (place : ℕ) (kept : Held) (front l : List ℕ) (r s : Result Held E)
    → kept ≡ held_from m h place → front ≡ slid m h place → r ≡ s → ReadsOn kept front place 0 l r
    → ReadsOn (held_from m h place) (slid m h place) place 0 l s
reached {E} h m place kept front l r s e f w p =
    subst (λ (t : Result Held E). ReadsOn (held_from m h place) (slid m h place) place 0 l t) w
    (subst (λ (b : List ℕ). ReadsOn (held_from m h place) b place 0 l r) f (subst (λ (k : Held). ReadsOn k front place 0 l r) e p))

-- what is held then stands in the buffer
pub shown_within : {E : Type 0} (h : Held) (m : List ℕ) (place size : ℕ) (l : List ℕ) {r : Result Held E} {g : Held} → r ≡ Ok g
    → ReadsOn h m place size l r → g.length ≤ length l
shown_within {E} h m place size l is reads = (subst (λ (s : Result Held E). ReadsOn h m place size l s) is reads).kept.within
