-- The text of the trigger list: a title and a line for each counter, as the Rust's `Display` has them (G3).
use Rattle.std.specs.Prelude.{ℕ, List, ◌++◌}
use Prim.Native.String.{String}
use Rattle.text.specs.Ascii.{ascii}
use Rattle.text_numbers.specs.Numerals.{decimal, right}
use Rattle.trigger_stats.specs.Counters.{Counter, count, counters}
use Rattle.trigger_stats.specs.Counters.{orbit, hb, hbr, hc, pht, pp, cal, sot, eot, soc, eoc, tf, fe-rst, rt, rs}
use Rattle.trigger_stats.specs.Counters.{lhc-gap1, lhc-gap2, tpc-sync, tpc-rst, tof}
use Rattle.trigger_texts.specs.CounterOrder.{texts_in_order}

-- What `Display` writes in front of each count.
unfoldable pub label : Counter → String
label orbit = "  Orbit:    "
label hb = "  HB:       "
label hbr = "  HBr:      "
label hc = "  HC:       "
label pht = "  PhT:      "
label pp = "  PP:       "
label cal = "  CAL:      "
label sot = "  SOT:      "
label eot = "  EOT:      "
label soc = "  SOC:      "
label eoc = "  EOC:      "
label tf = "  TF:       "
label fe-rst = "  FE_rst:   "
label rt = "  RT:       "
label rs = "  RS:       "
label lhc-gap1 = "  LHC_gap1: "
label lhc-gap2 = "  LHC_gap2: "
label tpc-sync = "  TPC_sync: "
label tpc-rst = "  TPC_rst:  "
label tof = "  TOF:      "

-- A line of the list, `"  Orbit:    {:>6}"` with a line feed: a label, the count in at least six places, to the right.
unfoldable pub line_of : List ℕ → ℕ → List ℕ
line_of text n = text ++ right 6 (decimal n) ++ ascii "\n"

-- A counter's line.
unfoldable pub line : List ℕ → Counter → List ℕ
line s k = line_of (ascii (label k)) (count k s)

unfoldable pub list_text : List ℕ → List ℕ
list_text s = ascii "Trigger statistics:\n" ++ texts_in_order (line s) counters
