-- The statement on bytes added at a recording's end (D3.5, D3.6).
use Rattle.std.specs.Prelude.{ℕ, ◌+◌, ◌≤◌, true, false, ◌≡◌, List, [], ◌∷◌, ◌++◌, length, take, drop}
use Rattle.basis.specs.Refusals.{gives, refuses}
use Rattle.rdh.specs.declared.rdh_cru.RdhCru.{RdhCru}
use Rattle.scan_cdp.specs.Answers.{Handed, handed, handed_as}
use Rattle.scan_cdp.specs.Outcomes.{payload_size}
use Rattle.scan_cdp.specs.Steps.{Entry, limit, with_place}
use Rattle.scan_cdp.specs.declared.Settings.{Settings}
use Rattle.scan_cdp.specs.declared.State.{State}
use Rattle.scan_laws.specs.Elsewhere.{with_cut}
use Rattle.scan_laws.specs.Runs.{is_refusal}
use Rattle.chain.specs.Chain.{Kept, chain, left, place_of}

-- The state but for its byte place, which for a payload that was cut is the shorter recording's end.
abbrev pub except_place : State → State
except_place = with_place 0

-- What is handed out, with no payload: its header and both of its positions stay.
abbrev pub emptied : Handed (List ℕ) → Handed (List ℕ)
emptied = handed_as {Q = List ℕ} (λ (payload : List ℕ). [])

-- The bytes behind the header at the byte place that are its payload.
abbrev pub payload_at : List ℕ → Kept → RdhCru → List ℕ
payload_at recording k h = take (payload_size h) (drop (place_of k + 64) recording)

-- A payload that a recording has whole: as many bytes as its header says, and those that stand behind that header.
pub record Whole (recording : List ℕ) (k : Kept) (packet : Handed (List ℕ)) : Type 0 where
  pub size : length packet.payload ≡ payload_size packet.header
  pub bytes : packet.payload ≡ payload_at recording k packet.header

-- An entry of the shorter recording whose payload was cut, and the entry at the same header of the longer one, before which the scan kept k
-- with both: the packet but for its payload, the marks but for E100, the state but for its byte place, and the FEE ids are the same (D3.6).
-- The payload is whole now, or cut again.
pub record WasCut (longer : List ℕ) (k : Kept) (e e' : Entry (List ℕ)) : Type 0 where
  pub packet : Handed (List ℕ)
  pub empty : e.answer ≡ gives (handed (emptied packet))
  pub filled : e'.answer ≡ gives (handed packet)
  pub whole : e'.marks.payload_cut ≡ false → Whole longer k packet
  pub still_cut : e'.marks.payload_cut ≡ true → packet.payload ≡ []
  pub marks : e.marks ≡ with_cut true e'.marks
  pub state : except_place e.state ≡ except_place e'.state
  pub fee-ids : e.fee_ids ≡ e'.fee_ids

-- A 6 that both chains have: it returns nothing, and marks, state but for its byte place, and FEE ids are the same.
pub record BothSix (last last' : Entry (List ℕ)) : Type 0 where
  pub shorter : last.answer ≡ refuses 6 []
  pub longer : last'.answer ≡ refuses 6 []
  pub marks : last.marks ≡ last'.marks
  pub state : except_place last.state ≡ except_place last'.state
  pub fee-ids : last.fee_ids ≡ last'.fee_ids

-- How the shorter chain closes behind a payload that was cut: with refusal 1, which is apart, or with a 6 that the longer one has too.
pub data Closes : Entry (List ℕ) → List (Entry (List ℕ)) → Type 0 where
  with_1 : (last : Entry (List ℕ)) (es' : List (Entry (List ℕ))) → is_refusal 1 last.answer ≡ true → Closes last es'
  with_6 : (last last' : Entry (List ℕ)) → BothSix last last' → Closes last (last' ∷ [])

-- From what the scan kept on, the longer recording's chain begins with the entries of the shorter one's, but for a closing refusal 1 and a
-- last payload that was cut.
pub data Begins (longer : List ℕ) : Kept → List (Entry (List ℕ)) → List (Entry (List ℕ)) → Type 0 where
  same_end : (k : Kept) → Begins longer k [] []
  same : (k : Kept) (e : Entry (List ℕ)) (es es' : List (Entry (List ℕ))) → Begins longer (left e) es es' → Begins longer k (e ∷ es) (e ∷ es')
  closing : (k : Kept) (e : Entry (List ℕ)) (es' : List (Entry (List ℕ))) → is_refusal 1 e.answer ≡ true → Begins longer k (e ∷ []) es'
  was_cut : (k : Kept) (e e' last : Entry (List ℕ)) (es' : List (Entry (List ℕ)))
      → WasCut longer k e e' → Closes last es' → Begins longer k (e ∷ last ∷ []) (e' ∷ es')

-- For any recording and any bytes that are added at its end, 2^60 in all at most, with the same settings, starting state and FEE list.
abbrev pub AddedBytes : Type 0
AddedBytes =
    (recording added : List ℕ) (set : Settings) (start : Kept) → length (recording ++ added) ≤ limit
    → Begins (recording ++ added) start (chain recording set start) (chain (recording ++ added) set start)
