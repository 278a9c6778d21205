-- Laws of a single call: what holds it back, and what ends the chain.
use Rattle.std.specs.Prelude.{ℕ, Bool, true, false, not, ◌||◌, ◌&&◌, ◌≡◌, refl, List, [], eqb, ltb, length, drop, Err}
use Rattle.std.proofs.lemmas.Bool.{false≢true}
use Rattle.std.proofs.Common.{true≢false, ap}
use Rattle.basis.specs.PickLaws.{by_test}
use Rattle.basis.specs.Refusals.{Answer, gives, refuses}
use Rattle.scan_cdp.specs.Answers.{Found, handed, load_answer, number_of, passed, wants}
use Rattle.scan_cdp.specs.Loads.{is_passed}
use Rattle.scan_cdp.specs.Steps.{Entry, ended, unchanged, unusable, entry_at}
use Rattle.scan_cdp.specs.Windows.{outside, shown}
use Rattle.scan_cdp.specs.declared.Part.{Part}
use Rattle.scan_cdp.specs.declared.Refusal.{Refusal}
use Rattle.scan_cdp.specs.declared.Refusal.TheVariants.{End, FeeIdsFull, MemorySize, OffsetToNext, Unusable}
use Rattle.scan_cdp.specs.declared.Settings.{Settings}
use Rattle.scan_laws.specs.RefusalRowsClaims.{in_table}
use Rattle.scan_laws.proofs.RowLaws.{header-number}
use Rattle.scan_laws.specs.Runs.{is_refusal, one_to_four}
use Rattle.scan_laws.proofs.StepLaws.{entry_cases, step_cases}
use Rattle.chain.specs.Calls.{Hold, Window, ends_by, ends_chain, examination, free, held, held_back, needed, read_from}
use Rattle.chain.specs.Chain.{Kept, is_refused, next, place_of}

-- ---- what holds a call back

-- A call is free, or held back by a 6 of the window, which state and list do not meet, or by a want: what holds in these cases holds always.
pub held_cases : (set : Settings) (k : Kept) (w : Window) (e : Entry (List ℕ)) (P : Hold → Type 0)
    → P free
    → (unusable k.state k.fee_ids ≡ false → P (held (refuses 6 [])))
    → ((size : ℕ) → P (held (gives (wants k.state.progress.place size))))
    → P (held_back set k w e)
unfolding held_back
held_cases set k w e P is_free six wanted =
    let place = k.state.progress.place in
    let size = length (shown place.0 w.first w.bytes) in
    let need = needed set.skip_payload e.answer in
    by_test P (unusable k.state k.fee_ids) _ _ (λ own. is_free) (λ usable.
    by_test P (outside place.0 w.first (length w.bytes)) _ _ (λ out. six usable) (λ inside.
    by_test P w.last _ _ (λ last. is_free) (λ more.
    by_test P (ltb size 64) _ _ (λ short. wanted 64) (λ long.
    by_test P (ltb size need) _ _ (λ lacks. wanted need) (λ enough. is_free)))))

-- What holds a call back is no passed header and does not end the chain.
abbrev pub HeldFine : Kept → Hold → Type 0
HeldFine k free = Unit {0}
HeldFine k (held a) = (is_passed a ≡ false) × (ends_chain (examination (unchanged k.state k.fee_ids a)) ≡ false)

pub held_fine : (set : Settings) (k : Kept) (w : Window) (e : Entry (List ℕ)) → HeldFine k (held_back set k w e)
held_fine set k w e = held_cases set k w e (HeldFine k) tt (λ usable. (refl, usable)) (λ size. (refl, refl))

-- ---- what ends the chain

-- Every refused entry of the chain ends it: a 6 among them is met by state and list alone, which it leaves as they were.
pub entry_ends : (recording : List ℕ) (set : Settings) (k : Kept)
    → ends_chain (examination (next recording set k)) ≡ is_refused (next recording set k).answer
unfolding ended
entry_ends recording set k =
    let rest = drop (place_of k) recording in
    let e = entry_at set k.state k.fee_ids rest (length recording) in
    step_cases set k.state k.fee_ids rest (length recording) (λ x. ends_chain (examination x) ≡ is_refused x.answer)
    (λ six. six)
    (λ usable short. refl)
    (λ usable whole.
    entry_cases set k.state k.fee_ids rest (length recording)
    (λ a. ends_chain (examination (record { answer = a; marks = e.marks; state = e.state; fee_ids = e.fee_ids })) ≡ is_refused a)
    (λ number values r.
    ap (λ (b : Bool). b || (eqb number 6 && unusable e.state e.fee_ids)) (header-number number r))
    (λ other. refl) (λ p same taken. refl))

-- Reading the payload's bytes does not change whether an answer ends the chain.
pub ends_read : (w : List ℕ) (a : Answer (Found Part)) (six : Bool) → ends_by a six ≡ ends_by (read_from w a) six
ends_read w (gives passed) six = refl
ends_read w (gives (handed p)) six = refl
ends_read w (gives (wants place size)) six = refl
ends_read w (refuses number values) six = refl

-- What is not refused does not end it.
pub given_goes_on : (a : Answer (Found Part)) (six : Bool) → is_refused a ≡ false → ends_by a six ≡ false
given_goes_on (gives found) six given = refl
given_goes_on (refuses number values) six given = absurd (true≢false given)

-- What is refused, with a number of the table, ends it where a 6 is met by state and list.
pub refused_ends : (a : Answer (Found Part)) (six : Bool) → in_table a ≡ true → (is_refusal 6 a ≡ true → six ≡ true) → is_refused a ≡ true
    → ends_by a six ≡ true
refused_ends (gives found) six known due refused = absurd (false≢true refused)
refused_ends (refuses number values) six known due refused = by_number (one_to_four number) (eqb number 6) known due
  where
    by_number : (low is-6 : Bool) → (low || is-6) ≡ true → (is-6 ≡ true → six ≡ true) → (low || (is-6 && six)) ≡ true
    by_number true is-6 known due = refl
    by_number false true known due = due refl
    by_number false false known due = known

-- Of the refusals only 6 can leave the chain open.
pub ends_but_6 : (why : Refusal) (six : Bool)
    → (not (eqb (number_of why) (number_of Unusable)) || six) ≡ ends_by (load_answer (Err why)) six
ends_but_6 End six = refl
ends_but_6 (OffsetToNext distance position) six = refl
ends_but_6 MemorySize six = refl
ends_but_6 FeeIdsFull six = refl
ends_but_6 Unusable six = refl
