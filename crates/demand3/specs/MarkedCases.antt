-- The starred cases (E1 to E7) as one list of inputs and expected replies (D3.8).
use Rattle.std.specs.Prelude.{ℕ, Bool, true, false, List, [], ◌∷◌, ◌++◌, pos, negsuc, replicate, None}
use Rattle.basis.specs.Bytes.{bytes_of}
use Rattle.basis.specs.Refusals.{Answer, gives, refuses}
use Rattle.serde_rdh.specs.Layout.{decoded}
use Rattle.scan_cdp.specs.Answers.{Found, handed}
use Rattle.scan_cdp.specs.declared.Settings.{Settings}
use Rattle.text.specs.Ascii.{ascii}

-- The header of the listing's example (P6), with a FEE id, an offset, a bunch counter and a trigger type of the case's own.
unfoldable pub sample : (fee_id offset bc trigger : ℕ) → List ℕ
sample fee_id offset bc trigger =
    7 ∷ 64 ∷ bytes_of 2 fee_id ++ (0 ∷ 32 ∷ 0 ∷ 0 ∷ [])
    ++ bytes_of 2 offset ++ bytes_of 2 64 ++ (2 ∷ 0 ∷ 1 ∷ 0 ∷ [])
    ++ bytes_of 4 bc ++ bytes_of 4 16
    ++ (2 ∷ replicate 7 0)
    ++ bytes_of 4 trigger ++ replicate 28 0

-- No filter, payload read, statistics on; one FEE place.
abbrev pub plain : Settings
plain =
    record {
      filter = record { filter_link = None; filter_fee = None; filter_its_stave = None };
      skip_payload = false;
      stats = true;
    }

-- An input, and its reply by the rules.
pub data Case : Type 0 where
  -- a header with this offset at the start of a recording: what the scan answers
  offset : (n : ℕ) → Answer (Found (List ℕ)) → Case
  -- a header with this FEE id, bunch counter and trigger type: whether it is sound, on a validator that has settled nothing, without ITS
  soundness : (fee_id bc trigger : ℕ) → Bool → Case
  -- a FEE id: its layer and stave
  fee-id : (n layer stave : ℕ) → Case
  -- a stave filter and a FEE id: whether it is taken
  stave_filter : (setting fee_id : ℕ) → Bool → Case
  -- a stave name: what its call answers
  name : (text : List ℕ) → Answer ℕ → Case

-- A packet with no payload, whose load started at a position, with its own position.
abbrev pub given_at : (position own fee_id n : ℕ) → Answer (Found (List ℕ))
given_at position own fee_id n =
    gives (handed (record {
      header = decoded (sample fee_id n 0 0x4813);
      payload = [];
      position = record { 0 = position };
      own = record { 0 = own };
    }))

abbrev given : ℕ → Answer (Found (List ℕ))
given = given_at 0 0 0x502A

unfoldable pub marked : List Case
marked =
    -- E1: the offset, with the value that refusal 2 returns
    offset 63 (refuses 2 (negsuc 0 ∷ pos 0 ∷ []))
    ∷ offset 64 (given 64)
    ∷ offset 10064 (given 10064)
    ∷ offset 10065 (refuses 2 (pos 10001 ∷ pos 0 ∷ []))
    -- E2 and E3: BC, then trigger type
    ∷ soundness 0x502A 0xdeb 0x4813 true
    ∷ soundness 0x502A 0xdec 0x4813 false
    ∷ soundness 0x502A 0 0 false
    ∷ soundness 0x502A 0 0x4813 true
    ∷ soundness 0x502A 0 0x8000 false
    -- E4 and E5: layer and stave of a FEE id, and stave 48
    ∷ fee-id 0x502A 5 42
    ∷ soundness 0x6030 0 0x4813 false
    -- E6 and E7: a stave filter, and a name
    ∷ stave_filter 0x502A 0x522A true
    ∷ name (ascii "L9_70") (refuses 8 [])
    ∷ []
