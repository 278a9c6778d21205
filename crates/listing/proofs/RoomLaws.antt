-- What is held, and what room there is, by the reply that says that there is any.
use Rattle.std.specs.Prelude.{ℕ, ◌+◌, ◌≤◌, ◌≡◌, List, length, Result, Ok, Err, OnOk}
use Rattle.std.proofs.Common.{subst}
use Rattle.text_writer.specs.declared.TextWriter.{TextWriter}
use Rattle.listing_lines.specs.Lines.{room}
use Rattle.listing_window.specs.declared.Held.{Held}

-- What reading on answers with stands in the window's buffer.
abbrev pub HeldIn : {E : Type 0} → List ℕ → Result Held E → Type 0
HeldIn l (Ok h) = h.length ≤ length l
HeldIn l (Err e) = Unit {0}

-- The output's buffer has room.
abbrev pub RoomIn : {T E : Type 0} → TextWriter → Result T E → Type 0
RoomIn w r = OnOk r (w.count + room ≤ length w.buf.now)

-- what is held, where something is
pub held_there : {E : Type 0} (l : List ℕ) {h : Held} {r : Result Held E} → r ≡ Ok h → HeldIn l r → h.length ≤ length l
held_there {E} l e p = subst (λ (r : Result Held E). HeldIn l r) e p

-- the room, where there is some
pub room_there : {T E : Type 0} (w : TextWriter) {x : T} {r : Result T E} → r ≡ Ok x → RoomIn w r → w.count + room ≤ length w.buf.now
room_there {T} {E} w e p = subst (λ (r : Result T E). RoomIn w r) e p
