-- Laws of what a load adds to the listing.
use Rattle.std.specs.Prelude.{ℕ, ◌+◌, ◌<◌, ◌≤◌, min, ◌≡◌, refl, false, List, [], ◌∷◌, length, Ok, Err, Result}
use Rattle.std.proofs.Common.{ap, sym, ◌∙◌, arith, length-append}
use Rattle.text.specs.Put.{last_place}
use Rattle.text_writer.specs.Writer.{extended}
use Rattle.text_writer.specs.declared.TextWriter.{TextWriter}
use Rattle.rdh.specs.declared.rdh_cru.RdhCru.{RdhCru}
use Rattle.scan_cdp.specs.declared.Counts.{Counts}
use Rattle.validators.specs.declared.RdhCruSanityValidator.{RdhCruSanityValidator}
use Rattle.scan_cdp.specs.Answers.{load_answer, number_of}
use Rattle.scan_cdp.specs.Loads.{Loaded}
use Rattle.scan_cdp.specs.declared.LoadCdp.{LoadCdp}
use Rattle.scan_cdp.specs.declared.LoadCdp.TheVariants as Loads
use Rattle.scan_cdp.specs.declared.Packet.{Packet}
use Rattle.scan_cdp.specs.declared.Part.{Part}
use Rattle.scan_cdp.specs.declared.Refusal.{Refusal}
use Rattle.scan_cdp.specs.declared.Scan.{Scan}
use Rattle.input_scanner.specs.Replies.{load_of}
use Rattle.listing_lines.specs.Lines.{count_line, last_lines, line_at, room}
use Rattle.listing_lines.specs.LineLaws.{short_last}
use Rattle.listing_packet.specs.Packets.{Packs, packet_lines}
use Rattle.listing_load.specs.LoadLines.{Lists, lines_of, unsound_in, validator_of, written}
use Rattle.listing_load.specs.declared.Listed.{Listed}

-- a writer that has not come to its last place is extended, be it by nothing
pub written_extends : (w : TextWriter) (t : List ℕ) → w.count ≤ last_place → written w t ≡ extended w t
written_extends w [] there =
    let same : w.count ≡ min (w.count + 0) last_place = omega arith in ap (λ (n : ℕ). record { buf = w.buf; count = n }) same
written_extends w (b ∷ t) there = refl

pub written_some : (w : TextWriter) (t : List ℕ) → 0 < length t → extended w t ≡ written w t
written_some w [] some = absurd (omega arith)
written_some w (b ∷ t) some = refl

-- a packet has a line, which has its end
pub line_there : (v : RdhCruSanityValidator) (position : ℕ) (h : RdhCru) → 0 < length (packet_lines v position h)
unfolding packet_lines line_at
line_there v position h = simp length-append (omega arith)

-- and so have the last lines
last_there : (counts : Counts) (number : ℕ) → 0 < length (last_lines counts number)
unfolding last_lines count_line
last_there counts number = simp length-append (omega arith)

-- a call that answers by the load's own answer
pub lists : {l : Loaded Part} {v : RdhCruSanityValidator} {w : TextWriter} {r : Listed} {scan : Scan} {after : RdhCruSanityValidator}
    {x : TextWriter} (a : Result LoadCdp Refusal) → load_of r.load scan ≡ l → r.load.answer ≡ a → after ≡ validator_of v (load_answer a)
    → r.unsound ≡ unsound_in v (load_answer a) → x ≡ written w (lines_of v (load_answer a) (load_of r.load scan))
    → length (lines_of v (load_answer a) (load_of r.load scan)) ≤ room → Lists l v w r scan after x
lists {l} {v} {w} {r} {scan} {after} {x} a load is validator unsound lines short =
    let answer : load_answer a ≡ l.answer = sym (ap load_answer is) ∙ ap (λ (m : Loaded Part). m.answer) load in
    let same : lines_of v (load_answer a) (load_of r.load scan) ≡ lines_of v l.answer l =
    (λ i. lines_of v (answer i) (load i)) in
    record {
      load = load;
      validator = validator ∙ ap (validator_of v) answer;
      unsound = unsound ∙ ap (unsound_in v) answer;
      lines = lines ∙ ap (written w) same;
      short = omega (arith, ap length same, short);
    }

-- one that answers with a packet: it has written the packet's lines with a position, which is the packet's own (S12, P2)
pub lists_packet : {l : Loaded Part} {v : RdhCruSanityValidator} {w : TextWriter} {r : Listed} {scan : Scan} {after : RdhCruSanityValidator}
    {x : TextWriter} (packet : Packet) (position : ℕ) → load_of r.load scan ≡ l → r.load.answer ≡ Ok (Loads.Packet packet)
    → Packs v position packet.rdh w after r.unsound x → position ≡ packet.own.0 → Lists l v w r scan after x
lists_packet {v = v} {w = w} {r = r} {scan = scan} packet position load is packs own =
    let lines : packet_lines v position packet.rdh ≡ packet_lines v packet.own.0 packet.rdh =
    ap (λ (n : ℕ). packet_lines v n packet.rdh) own in
    lists (Ok (Loads.Packet packet)) load is packs.validator packs.unsound
    (packs.lines ∙ ap (extended w) lines ∙ written_some w _ (line_there v packet.own.0 packet.rdh))
    (omega (arith, ap length lines, packs.short))

-- one that is refused: it has written the last lines
pub lists_refusal : {l : Loaded Part} {v : RdhCruSanityValidator} {w : TextWriter} {r : Listed} {scan : Scan} {after : RdhCruSanityValidator}
    {x : TextWriter} (why : Refusal) → load_of r.load scan ≡ l → r.load.answer ≡ Err why → after ≡ v → r.unsound ≡ false
    → x ≡ extended w (last_lines scan.progress.counts (number_of why)) → Lists l v w r scan after x
lists_refusal {w = w} {scan = scan} why load is validator unsound lines =
    lists (Err why) load is validator unsound (lines ∙ written_some w _ (last_there scan.progress.counts (number_of why))) (short_last _ _)
