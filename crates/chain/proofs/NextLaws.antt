-- What the next entry tells, by its answer: of the header where a scan stands, of the packet, and of position and open load after it.
use Rattle.std.specs.Prelude.{ℕ, ◌+◌, true, false, ◌≡◌, refl, List, length, drop, Option, Some, None}
use Rattle.basis.specs.Refusals.{Answer, gives, refuses}
use Rattle.rdh.specs.declared.rdh_cru.RdhCru.{RdhCru}
use Rattle.scan_cdp.specs.Answers.{Found, handed, passed, wants}
use Rattle.scan_cdp.specs.Outcomes.{is_match, offset}
use Rattle.scan_cdp.specs.Steps.{Entry, ended, entry_of, load_after, outcome_in, payload_of, position_after, progress_after}
use Rattle.scan_cdp.specs.declared.Settings.{Settings}
use Rattle.scan_laws.proofs.OutcomeLaws.{known_here}
use Rattle.scan_laws.proofs.RowLaws.{answer_cases}
use Rattle.scan_laws.proofs.StepLaws.{step_cases}
use Rattle.chain.specs.Chain.{Kept, left, next, place_of}
use Rattle.chain.specs.OwnPositions.{start_of_load, open_at, position_of}
use Rattle.chain.specs.OwnPositionsClaims.{AtHeader}
use Rattle.chain.specs.PacketLists.{Packet}
use Rattle.chain.specs.Walk.{header_at}
use Rattle.scan_cdp.specs.declared.Position.{Position}

-- A header that is passed: the filter does not take it, the position moves by its offset, and its load stays open.
pub record PassedBy (set : Settings) (k : Kept) (h : RdhCru) (position : ℕ) (load : Option Position) : Type 0 where
  pub other : is_match set h ≡ false
  pub moved : position ≡ (position_of k).0 + offset h
  pub opened : load ≡ Some (start_of_load k)

-- A packet: it has that header, which the filter takes, and its two positions; and it closes the load.
pub record HandedBy (set : Settings) (k : Kept) (h : RdhCru) (p : Packet) (load : Option Position) : Type 0 where
  pub header : p.header ≡ h
  pub taken : is_match set h ≡ true
  pub at-header : AtHeader k p
  pub closed : load ≡ None

-- By the answer, with the position and the open load after it. It is never a want; a refused one is not asked.
abbrev pub Tells : Settings → Kept → RdhCru → (position : ℕ) → Option Position → Answer (Found (List ℕ)) → Type 0
Tells set k h position load (gives passed) = PassedBy set k h position load
Tells set k h position load (gives (handed p)) = HandedBy set k h p load
Tells set k h position load (gives (wants place size)) = ⊥
Tells set k h position load (refuses number values) = Unit {0}

abbrev pub EntryTells : Settings → Kept → RdhCru → Entry (List ℕ) → Type 0
EntryTells set k h e = Tells set k h (position_of (left e)).0 (open_at (left e)) e.answer

pub next_tells : (recording : List ℕ) (set : Settings) (k : Kept) → EntryTells set k (header_at recording k) (next recording set k)
unfolding ended entry_of progress_after
next_tells recording set k =
    let p = k.state.progress in
    let rest = drop (place_of k) recording in
    let h = header_at recording k in
    let outcome = outcome_in set p k.fee_ids h in
    step_cases set k.state k.fee_ids rest (length recording) (EntryTells set k h)
    (λ six. tt) (λ usable short. tt) (λ usable whole.
    answer_cases set outcome h (start_of_load k) p.position
    (λ t a.
    Tells set k h (position_after t h p.position.0) (load_after t p.load p.position) (a (payload_of set.skip_payload outcome h rest)))
    (known_here set k.state k.fee_ids h)
    (λ number values r kept. tt)
    (λ other. record { other = other.other; moved = refl; opened = refl })
    (λ taken. record { header = refl; taken = taken.taken; at-header = record { position = refl; own = refl }; closed = refl }))
