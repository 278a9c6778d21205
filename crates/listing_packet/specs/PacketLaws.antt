-- Laws of the lines of a packet: how long they can be.
use Rattle.std.specs.Prelude.{ℕ, ◌<◌, ◌≤◌, ◌^◌, ◌++◌, ◌≡◌, Bool, true, false, List, [], length}
use Rattle.std.proofs.Common.{ap, arith, sym, ◌∙◌, append-nil, length-append}
use Rattle.basis.specs.Pick.{pick}
use Rattle.rdh.specs.declared.rdh_cru.RdhCru.{RdhCru}
use Rattle.text_writer.proofs.WriterLaws.{extended_then}
use Rattle.text_writer.specs.Writer.{extended}
use Rattle.text_writer.specs.declared.TextWriter.{TextWriter}
use Rattle.rdh_row.specs.Row.{row_text}
use Rattle.validators.specs.Verdict.{sound_to, text_of}
use Rattle.validators.specs.declared.RdhCruSanityValidator.{RdhCruSanityValidator}
use Rattle.listing_lines.specs.Lines.{line_at, room}
use Rattle.listing_lines.specs.LineLaws.{length-line}
use Rattle.listing_packet.specs.Packets.{packet_lines, verdict_line}

length_verdict_line : (b : Bool) (t : List ℕ) → length (pick b [] t) ≤ length t
length_verdict_line true t = omega arith
length_verdict_line false t = omega arith

-- the lines of a packet whose row has 114 bytes at most, and whose text 512
pub short_packet : (v : RdhCruSanityValidator) (position : ℕ) (h : RdhCru) → length (row_text h) ≤ 114 → length (text_of v h) ≤ 512
    → length (packet_lines v position h) ≤ room
unfolding packet_lines verdict_line
short_packet v position h row text =
    omega (
      arith,
      length-append (line_at position (row_text h)) (pick (sound_to v h) [] (line_at position (text_of v h))),
      length-line position (row_text h),
      length-line position (text_of v h),
      length_verdict_line (sound_to v h) (line_at position (text_of v h)),
    )

-- a row's line written, and then a verdict's, if the header is not sound
pub packet_written : (v : RdhCruSanityValidator) (position : ℕ) (h : RdhCru) (w u : TextWriter) {x : TextWriter} → length w.buf.now < 2 ^ 64
    → u ≡ extended w (line_at position (row_text h)) → x ≡ pick (sound_to v h) u (extended u (line_at position (text_of v h)))
    → x ≡ extended w (packet_lines v position h)
unfolding packet_lines verdict_line
packet_written v position h w u {x} room row verdict = go (sound_to v h) verdict
  where
    go : (b : Bool) → x ≡ pick b u (extended u (line_at position (text_of v h)))
        → x ≡ extended w (line_at position (row_text h) ++ pick b [] (line_at position (text_of v h)))
    go true is = is ∙ row ∙ ap (extended w) (sym (append-nil (line_at position (row_text h))))
    go false is = extended_then w u _ _ room row is
