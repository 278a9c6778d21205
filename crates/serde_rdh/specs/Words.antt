-- A header as the code goes through it: eight words of eight bytes. No public contract cites this file.
use Rattle.std.specs.Prelude.{◌≡◌, List, ℕ}
use Rattle.rdh.specs.declared.rdh_cru.RdhCru.{RdhCru}
use Rattle.serde_rdh_words.specs.WordBytes.{word_bytes}
use Rattle.serde_rdh.specs.Layout.{encoded, InRange}

-- The words hold the header's bytes; and the header is one whose numbers fit them.
pub record Words (h : RdhCru) (ws : List ℕ) : Type 0 where
  pub bytes : word_bytes ws ≡ encoded h
  pub fits : InRange h
