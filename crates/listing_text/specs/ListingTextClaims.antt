-- The statements that loads through windows put the listing of the recording (P).
use Rattle.std.specs.Prelude.{ℕ, true, false, ◌≡◌, List, [], ◌∷◌, ◌++◌, length}
use Rattle.validators.specs.declared.RdhCruSanityValidator.{RdhCruSanityValidator}
use Rattle.scan_cdp.specs.Windows.{outside}
use Rattle.scan_cdp.specs.declared.Settings.{Settings}
use Rattle.chain.specs.Calls.{Window, WindowOf}
use Rattle.chain.specs.Chain.{Kept, place_of}
use Rattle.chain.specs.OwnPositionsClaims.{EachPacket}
use Rattle.listing_start.specs.Start.{list_settings}
use Rattle.listing_text.specs.ListingText.{are_refused, kept_after, listing_text, load_on, loads_text, program_start, text_to_come}

-- Windows that loads can be made through: each is the recording's (C6), starts at the byte place or before it, and ends within 2^60 (R6).
abbrev pub Through : List ℕ → Settings → Kept → List Window → Type 0
Through recording set k [] = Unit {0}
Through recording set k (w ∷ ws) =
    WindowOf recording w
    × (outside (place_of k) w.first (length w.bytes) ≡ false)
    × Through recording set (kept_after (load_on set k w)) ws

-- Whatever windows the loads have, their lines and those to come are the listing.
abbrev pub LoadsFollow : Type 0
LoadsFollow =
    (recording : List ℕ) (set : Settings) (v : RdhCruSanityValidator) (k : Kept) (ws : List Window) → Through recording set k ws
    → loads_text set v k ws ++ text_to_come recording set v k ws ≡ listing_text recording set v k

-- So loads up to a refusal put the whole of it, and nothing else.
abbrev pub LoadsList : Type 0
LoadsList =
    (recording : List ℕ) (set : Settings) (v : RdhCruSanityValidator) (k : Kept) (ws : List Window) → Through recording set k ws
    → are_refused set k ws ≡ true → loads_text set v k ws ≡ listing_text recording set v k

-- The program has no filter, so that the own position, which a line has, is the start of the packet's load too (S12).
abbrev pub LinesAtStarts : Type 0
LinesAtStarts = (recording : List ℕ) → EachPacket (λ p. p.own ≡ p.position) recording list_settings program_start
