-- The text of a comparison of two statistics: a line for each count that differs, in the order of the fields (G4).
use Rattle.std.specs.Prelude.{ℕ, List, [], ◌∷◌, ◌++◌, eqb}
use Prim.Native.String.{String}
use Rattle.basis.specs.Pick.{pick}
use Rattle.text.specs.Ascii.{ascii}
use Rattle.text_numbers.specs.Numerals.{decimal}
use Rattle.trigger_stats.specs.Counters.{Counter, count, counters}
use Rattle.trigger_stats.specs.Counters.{orbit, hb, hbr, hc, pht, pp, cal, sot, eot, soc, eoc, tf, fe-rst, rt, rs}
use Rattle.trigger_stats.specs.Counters.{lhc-gap1, lhc-gap2, tpc-sync, tpc-rst, tof}
use Rattle.trigger_texts.specs.CounterOrder.{texts_in_order}

-- A field's name, as the macro's `stringify!` writes it.
unfoldable pub name : Counter → String
name orbit = "orbit"
name hb = "hb"
name hbr = "hbr"
name hc = "hc"
name pht = "pht"
name pp = "pp"
name cal = "cal"
name sot = "sot"
name eot = "eot"
name soc = "soc"
name eoc = "eoc"
name tf = "tf"
name fe-rst = "fe_rst"
name rt = "rt"
name rs = "rs"
name lhc-gap1 = "lhc_gap1"
name lhc-gap2 = "lhc_gap2"
name tpc-sync = "tpc_sync"
name tpc-rst = "tpc_rst"
name tof = "tof"

-- The macro's line, `"{field_name} mismatch! expected: {other_val:?}, got: {this_val:?}"`, and a line feed.
unfoldable pub mismatch_of : List ℕ → ℕ → ℕ → List ℕ
mismatch_of field expected got =
    field ++ ascii " mismatch! expected: " ++ decimal expected ++ ascii ", got: " ++ decimal got ++ ascii "\n"

-- A counter's line in the comparison of `self` with `other`: the other's count is expected (G4).
unfoldable pub mismatch : List ℕ → List ℕ → Counter → List ℕ
mismatch self other k = mismatch_of (ascii (name k)) (count k other) (count k self)

-- Of some counters, those whose counts differ, in the same order.
unfoldable pub differing : List ℕ → List ℕ → List Counter → List Counter
differing self other [] = []
differing self other (k ∷ ks) =
    pick (eqb (count k self) (count k other)) (differing self other ks) (k ∷ differing self other ks)

-- The text of a comparison: the lines of the counters that differ, in the order of the fields (G4).
unfoldable pub mismatch_text : List ℕ → List ℕ → List ℕ
mismatch_text self other = texts_in_order (mismatch self other) (differing self other counters)
