-- What a buffer holds of an input, and how it moves on: the window that a scan is lent.
use Rattle.std.specs.Prelude.{ℕ, ◌+◌, ◌-◌, ◌≤◌, ◌<◌, min, max, true, false, ◌≡◌, List, length, take, drop, Result, Ok, Err}
use Rattle.std.proofs.Math.Seq.{paste}
use Rattle.scan_cdp.specs.declared.BytePlace.{BytePlace}
use Rattle.listing_window.specs.declared.Held.{Held}

-- Nothing is held where the input goes on from a byte place.
abbrev pub nothing_from : BytePlace → Held
nothing_from first = record { first = first; length = 0; last = false }

-- Nothing was read yet: what is held starts at byte place 0 (W1).
abbrev pub nothing : Held
nothing = nothing_from (record { 0 = 0 })

-- How many bytes the buffer `l` holds.
abbrev pub held_in : List ℕ → Held → ℕ
held_in l h = min h.length (length l)

-- How far the bytes move to the front, so that those from a byte place on are kept: by what stands before the place.
abbrev pub distance : List ℕ → Held → ℕ → ℕ
distance l h place = min (place - h.first.0) (held_in l h)

-- The bytes from a byte place on, moved to the front of the buffer.
unfoldable pub slid : List ℕ → Held → ℕ → List ℕ
slid l h place = paste l 0 (drop (distance l h place) l) (held_in l h - distance l h place)

-- What is held then. Where the place is behind all bytes, none is kept, and what is held starts behind them.
unfoldable pub held_from : List ℕ → Held → ℕ → Held
held_from l h place =
    record {
      first = record { 0 = h.first.0 + distance l h place };
      length = held_in l h - distance l h place;
      last = h.last;
    }

-- What reading on keeps. Of the bytes that are read nothing can be said, but where they are put: `h` was held in the buffer `m`, and `g` is
-- held in `l` afterwards, with all that was held still in front.
pub record Kept (h : Held) (m : List ℕ) (g : Held) (l : List ℕ) : Type 0 where
  pub more : h.length ≤ g.length
  pub within : g.length ≤ length l
  pub same : take h.length l ≡ take h.length m

-- What is held ends before the bytes that are wanted from a place on, or before as many of them as the buffer has room for.
abbrev pub Lacks : Held → (place size : ℕ) → (buffer : List ℕ) → Type 0
Lacks h place size l = h.first.0 + h.length < max place h.first.0 + min size (length l)

-- Reading on from `h`, held in the buffer `m`, until `size` bytes are held from a place on, or as many as the buffer has room for: `g` is held
-- in `l` then.
pub record Reads (h : Held) (m : List ℕ) (place size : ℕ) (g : Held) (l : List ℕ) : Type 0 where
  pub kept : Kept h m g l
  -- it starts where it started, at the place, or between the two with nothing held
  pub onward : h.first.0 ≤ g.first.0
  pub up_to : g.first.0 ≤ max place h.first.0
  pub none_before : g.first.0 < place → g.length ≡ 0
  -- where the input goes on, all that was wanted is held
  pub goes_on : g.last ≡ false → (h.last ≡ false) × (g.first.0 ≡ max place h.first.0) × (min size (length l) ≤ g.length)
  -- an end that was not known is met only before what was wanted, and where the buffer has room to read into
  pub ends : g.last ≡ true → h.last ≡ false → Lacks g place size l × (g.length < length l)
  -- behind a known end, and where enough is held, nothing is read
  pub unread_ended : h.last ≡ true → (g ≡ h) × (l ≡ m)
  pub unread_enough : place ≤ h.first.0 → min size (length l) ≤ h.length → (g ≡ h) × (l ≡ m)

-- A read that fails: there was something to read, and what was held stands in the buffer still.
pub record Fails (h : Held) (m : List ℕ) (place size : ℕ) (l : List ℕ) : Type 0 where
  pub going_on : h.last ≡ false
  pub lacking : Lacks h place size l
  pub same : take h.length l ≡ take h.length m

abbrev pub ReadsOn : {E : Type 0} → Held → List ℕ → (place size : ℕ) → List ℕ → Result Held E → Type 0
ReadsOn h m place size l (Err e) = Fails h m place size l
ReadsOn h m place size l (Ok g) = Reads h m place size g l

-- The contract of reading on: the bytes from the place on move to the front, and reading goes on behind them. `r` is the reply, and `l` what
-- is left in the buffer.
abbrev pub Shows : {E : Type 0} → Held → List ℕ → (place size : ℕ) → List ℕ → Result Held E → Type 0
Shows h m place size = ReadsOn (held_from m h place) (slid m h place) place size
