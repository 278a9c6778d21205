-- Each turn is one load and its lines; the loads from there on give what all of them give.
use Rattle.std.proofs.Common.{ℕ, Bool, List, ap, refl, rules, sym, subst, ◌∙◌, arith}
use Rattle.validators.specs.declared.RdhCruSanityValidator.{RdhCruSanityValidator}
use Rattle.text_writer.specs.declared.TextWriter.{TextWriter}
use Rattle.scan_cdp.specs.Loads.{loaded}
use Rattle.scan_cdp.specs.Scans.{SameScan, state_of}
use Rattle.scan_cdp.specs.declared.Scan.{Scan}
use Rattle.scan_cdp.specs.declared.Settings.{Settings}
use Rattle.listing_load.specs.LoadLines.{Lists}
use Rattle.listing_load.specs.declared.Listed.{Listed}
use Rattle.listing_batch.specs.BatchLaws.{at_within, list_begins, list_ends, list_full, list_goes_on, list_moves, same_buffer, same_size, still_lent}
use Rattle.listing_batch.proofs.put_loads.Goals as goal

-- A load on a scan that goes on as the same one is a load with the settings at the start.
lists_as : {s₀ s : Scan} (w : List ℕ) (first : ℕ) (last : Bool) {v : RdhCruSanityValidator} {x : TextWriter} {r : Listed} {scan : Scan}
    {after : RdhCruSanityValidator} {y : TextWriter} → SameScan s₀ s
    → Lists (loaded s.set (state_of s) s.fee_ids.now w first last) v x r scan after y
    → Lists (loaded s₀.set (state_of s) s.fee_ids.now w first last) v x r scan after y
lists_as {s₀} {s} w first last {v} {x} {r} {scan} {after} {y} same lists =
    subst (λ (set : Settings). Lists (loaded set (state_of s) s.fee_ids.now w first last) v x r scan after y) same.set lists

pub loop-w-init : goal.loop-w-init
loop-w-init c =
    let args = c.args in
    let s = args.scan.now in
    let window = args.window in
    let begun = c.new-w.ensures in (
      record { set = refl; links = refl; triggers = refl; fee_ids = refl; links_length = refl; fee_ids_length = refl },
      list_begins s.set args.validator.now (state_of s) s.fee_ids.now window.bytes.now window.first.0 window.last args.out.now c.new-w.result
          (ap (λ (x : TextWriter). x.count) begun) (ap (λ (x : TextWriter). x.buf.now) begun) (search rules),
    )

pub overflow_sub-w : goal.overflow_sub-w
overflow_sub-w c = at_within c.loop-w.invariant.1

pub returns-then-not-is_packet-clause-listed : goal.returns-then-not-is_packet-clause-listed
returns-then-not-is_packet-clause-listed c =
    let (same, turn) = c.loop-w.invariant in
    let lists = lists_as _ _ _ same c.list_cdp-listed.ensures.lists in
    let stops = sym c.is_packet.ensures ∙ c.if-not-is_packet.true in
    let lent = still_lent turn lists c.from-unsound.ensures c.loop-w-test.true in
    let begun = ap (λ (x : TextWriter). x.buf.ghost_name) c.new-w.ensures in
    list_ends turn lists c.from-unsound.ensures c.loop-w-test.true stops c.count.ensures.0 (search (rules, lent, begun, c.count.ensures))

pub loop-w-smaller : goal.loop-w-smaller
loop-w-smaller c =
    let (same, turn) = c.loop-w.invariant in
    let lists = lists_as _ _ _ same c.list_cdp-listed.ensures.lists in
    let goes = sym c.is_packet.ensures ∙ c.if-not-is_packet.false in
    let moves = list_moves turn lists c.from-unsound.ensures c.loop-w-test.true goes in
    let next = list_goes_on turn lists c.from-unsound.ensures c.loop-w-test.true goes in
    omega (arith, moves, c.loop-w-test.true, same_size turn, same_size next)

pub loop-w-preserved : goal.loop-w-preserved
loop-w-preserved c =
    let (same, turn) = c.loop-w.invariant in
    let still = c.list_cdp-listed.ensures.same in
    let lists = lists_as _ _ _ same c.list_cdp-listed.ensures.lists in
    let goes = sym c.is_packet.ensures ∙ c.if-not-is_packet.false in (
      record {
        set = cc;
        links = cc;
        triggers = cc;
        fee_ids = cc;
        links_length = still.links_length ∙ same.links_length;
        fee_ids_length = still.fee_ids_length ∙ same.fee_ids_length;
      },
      list_goes_on turn lists c.from-unsound.ensures c.loop-w-test.true goes,
    )

pub returns-clause-listed : goal.returns-clause-listed
returns-clause-listed c =
    let (same, turn) = c.loop-w.invariant in
    let lent = same_buffer turn in
    let begun = ap (λ (x : TextWriter). x.buf.ghost_name) c.new-w.ensures in
    list_full turn c.loop-w.scan refl refl c.loop-w-test.false c.count-2.ensures.0 (search (rules, lent, begun, c.count-2.ensures))
