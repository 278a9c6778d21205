-- Laws of the loop: what holds at each turn, and that the loads from there on give what all of them give.
use Rattle.std.specs.Prelude.{ℕ, zero, suc, ◌+◌, ◌-◌, ◌^◌, ◌≤◌, ◌<◌, Bool, true, false, ◌≡◌, refl, List, [], ◌++◌}
use Rattle.std.proofs.lemmas.Bool.{false≢true}
use Rattle.std.proofs.Math.Path.{ap}
use Rattle.std.proofs.Common.{sym, subst, ◌∙◌, arith, le-ltb, lt-ltb, length-append}
use Rattle.std.proofs.Math.ListN.{length}
use Rattle.std.proofs.Math.Seq.{length-sets}
use Rattle.std.proofs.lemmas.List.Edits.{sets}
use mir.Val.{bool_byte}
use Rattle.basis.specs.Pick.{pick}
use Rattle.basis.specs.PickLaws.{off, on}
use Rattle.basis.specs.Refusals.{Answer, gives, refuses}
use Rattle.text.specs.Put.{Put}
use Rattle.text_writer.specs.Writer.{extended}
use Rattle.text_writer.specs.declared.TextWriter.{TextWriter}
use Rattle.text_writer.proofs.WriterLaws.{extended_append}
use Rattle.validators.specs.declared.RdhCruSanityValidator.{RdhCruSanityValidator}
use Rattle.scan_cdp.specs.Answers.{Found, handed, passed, wants}
use Rattle.scan_cdp.specs.Loads.{Loaded, loaded}
use Rattle.scan_cdp.specs.Scans.{state_of}
use Rattle.scan_cdp.specs.declared.Part.{Part}
use Rattle.scan_cdp.specs.declared.Scan.{Scan}
use Rattle.scan_cdp.specs.declared.Settings.{Settings}
use Rattle.scan_cdp.specs.declared.State.{State}
use Rattle.input_scanner.specs.Replies.{load_of}
use Rattle.listing_lines.specs.Lines.{room}
use Rattle.listing_load.specs.LoadLines.{Lists, lines_of, unsound_in, validator_of, written}
use Rattle.listing_load.specs.LoadLinesLaws.{line_there, written_extends}
use Rattle.listing_load.specs.declared.Listed.{Listed}
use Rattle.listing_batch.specs.Batches.{Batched, Batches, answered, batched, batched_from, unsound_with, is_packet, stop_of, stopped}
use Rattle.listing_batch.specs.declared.Stop.{Stop}
use Rattle.listing_batch.specs.declared.Stop.TheVariants as Why

-- a packet has a line
pub packet_there : (v : RdhCruSanityValidator) (a : Answer (Found Part)) (l : Loaded Part) → is_packet a ≡ true → 1 ≤ length (lines_of v a l)
packet_there v (gives passed) l e = absurd (false≢true e)
packet_there v (gives (handed p)) l e = omega (arith, line_there v p.own.0 p.header)
packet_there v (gives (wants place size)) l e = absurd (false≢true e)
packet_there v (refuses number values) l e = absurd (false≢true e)

-- what the code adds for a packet that is not sound
pub as_number : (unsound : Bool) → bool_byte unsound ≡ pick unsound 1 0
as_number true = refl
as_number false = refl

one_at_most : (unsound : Bool) → bool_byte unsound ≤ 1
one_at_most true = omega arith
one_at_most false = omega arith

-- a reply with what the loads leave
batches : (b : Batched) (out : List ℕ) (why : Stop) (scan : Scan) (after : RdhCruSanityValidator) (at bad : ℕ) (left text : List ℕ)
    → b ≡ stopped (stop_of why) after (state_of scan) scan.fee_ids.now text bad → at ≡ length text → left ≡ sets out 0 text
    → length text ≤ length out → Batches b out (record { stop = why; length = at; unsound = bad }) scan after left
batches b out why scan after at bad left text is next stored within =
    let there = ap (λ (x : Batched). x.text) (sym is) in
    record {
      stop = ap (λ (x : Batched). x.stop) (sym is);
      state = ap (λ (x : Batched). x.state) (sym is);
      fee-ids = ap (λ (x : Batched). x.fee_ids) (sym is);
      validator = ap (λ (x : Batched). x.validator) (sym is);
      unsound = ap (λ (x : Batched). x.unsound) (sym is);
      bytes = next ∙ ap length there;
      stored = stored ∙ ap (λ (t : List ℕ). sets out 0 t) there;
      fits = subst (λ (t : List ℕ). length t ≤ length out) there within;
    }

module _ (set : Settings) (v₀ : RdhCruSanityValidator) (s₀ : State) (fee_ids₀ w : List ℕ) (first : ℕ) (last : Bool) (out₀ : List ℕ) where
  abbrev pub whole : Batched
  whole = batched set v₀ s₀ fee_ids₀ w first last (length out₀)

  -- A turn of the loop, for a writer that began as `x₀`: it has written the lines so far, and the loads from here on give what all give, with
  -- enough of them to come.
  pub record ListTurn (x₀ : TextWriter) (v : RdhCruSanityValidator) (s : State) (fee_ids : List ℕ) (x : TextWriter) (bad : ℕ) : Type 0 where
    pub turns : ℕ
    pub text : List ℕ
    pub same : whole ≡ batched_from (suc turns) set v s fee_ids text bad w first last (length out₀)
    pub to_come_lem : length out₀ < length text + suc turns
    pub start : x₀.count ≡ 0
    pub lent : x₀.buf.now ≡ out₀
    pub room : length out₀ < 2 ^ 64
    pub lines : x ≡ extended x₀ text
    pub within : length text ≤ length out₀
    pub few : bad ≤ length text

  pub list_begins : (x₀ : TextWriter) → x₀.count ≡ 0 → x₀.buf.now ≡ out₀ → length out₀ < 2 ^ 64 → ListTurn x₀ v₀ s₀ fee_ids₀ x₀ 0
  unfolding batched
  list_begins x₀ start lent room =
      record {
        turns = length out₀;
        text = [];
        same = refl;
        to_come_lem = omega arith;
        start = start;
        lent = lent;
        room = room;
        lines = written_extends x₀ [] (omega (arith, start));
        within = omega arith;
        few = omega arith;
      }

module _ {set : Settings} {v₀ : RdhCruSanityValidator} {s₀ : State} {fee_ids₀ w : List ℕ} {first : ℕ} {last : Bool} {out₀ : List ℕ}
    {x₀ : TextWriter} {v : RdhCruSanityValidator} {s : State} {fee_ids : List ℕ} {x : TextWriter} {bad : ℕ}
    (here : ListTurn set v₀ s₀ fee_ids₀ w first last out₀ x₀ v s fee_ids x bad) where
  abbrev all : Batched
  all = whole set v₀ s₀ fee_ids₀ w first last out₀

  -- a text that fits stands at the buffer's start, and is counted
  stored_by : (y : TextWriter) (t : List ℕ) → y ≡ extended x₀ t → y.buf.now ≡ sets out₀ 0 t
  stored_by y t is =
      ap (λ (z : TextWriter). z.buf.now) is
      ∙ ap (λ (n : ℕ). sets x₀.buf.now n t) here.start
      ∙ ap (λ (l : List ℕ). sets l 0 t) here.lent

  next_by : (y : TextWriter) (t : List ℕ) → y ≡ extended x₀ t → length t ≤ length out₀ → y.count ≡ length t
  next_by y t is within = omega (arith, ap (λ (z : TextWriter). z.count) is, here.start, here.room, within)

  next : x.count ≡ length here.text
  next = next_by x here.text here.lines here.within

  -- the writer still has the buffer that it began with
  pub same_buffer : x.buf.ghost_name ≡ x₀.buf.ghost_name
  same_buffer = ap (λ (z : TextWriter). z.buf.ghost_name) here.lines

  -- the buffer is as long as at the start
  pub same_size : length x.buf.now ≡ length out₀
  same_size = ap length (stored_by x here.text here.lines) ∙ length-sets out₀ 0 here.text

  pub at_within : x.count ≤ length x.buf.now
  at_within = omega (arith, next, here.within, same_size)

  -- with no room there is no further load
  pub list_full : {at : ℕ} {left : List ℕ} (scan : Scan) → state_of scan ≡ s → scan.fee_ids.now ≡ fee_ids → length x.buf.now - x.count < room
      → at ≡ x.count → left ≡ x.buf.now → Batches all out₀ (record { stop = Why.Full; length = at; unsound = bad }) scan v left
  unfolding batched_from
  list_full {at} {left} scan state ids short count kept =
      batches all out₀ Why.Full scan v at bad left here.text
      (here.same ∙ on _ _ (lt-ltb (length out₀) (length here.text + room) (omega (arith, short, at_within, next, same_size)))
      ∙ (λ i. stopped (stop_of Why.Full) v (sym state i) (sym ids i) here.text bad))
      (count ∙ next) (kept ∙ stored_by x here.text here.lines) here.within

  module _ {r : Listed} {scan : Scan} {after : RdhCruSanityValidator} {y : TextWriter} {k : ℕ}
      (lists : Lists (loaded set s fee_ids w first last) v x r scan after y)
      (told : k ≡ bool_byte r.unsound)
      (test : room ≤ length x.buf.now - x.count) where
    roomy : x.count + room ≤ length x.buf.now
    roomy = omega (arith, test, at_within)

    abbrev got : Loaded Part
    got = load_of r.load scan

    abbrev more : List ℕ
    more = here.text ++ lines_of v got.answer got

    abbrev worse : ℕ
    worse = bad + k

    validator_there : validator_of v got.answer ≡ after
    validator_there = sym (lists.validator ∙ ap (λ (l : Loaded Part). validator_of v l.answer) (sym lists.load))

    unsound_there : pick (unsound_in v got.answer) 1 0 ≡ k
    unsound_there =
        ap (λ (b : Bool). pick b 1 0) (sym (lists.unsound ∙ ap (λ (l : Loaded Part). unsound_in v l.answer) (sym lists.load)))
        ∙ sym (told ∙ as_number r.unsound)

    -- the loads after this one
    turned : batched_from (suc here.turns) set v s fee_ids here.text bad w first last (length out₀)
        ≡ pick (is_packet got.answer)
        (batched_from here.turns set after (state_of scan) scan.fee_ids.now more worse w first last (length out₀))
        (stopped (answered got.answer) after (state_of scan) scan.fee_ids.now more worse)
    unfolding batched_from
    turned =
        off _ _ (le-ltb (length out₀) (length here.text + room) (omega (arith, roomy, next, same_size)))
        ∙ ap (λ (l : Loaded Part).
        pick (is_packet l.answer)
        (batched_from here.turns set (validator_of v l.answer) l.state l.fee_ids (here.text ++ lines_of v l.answer l)
        (unsound_with bad (unsound_in v l.answer)) w first last (length out₀))
        (stopped (answered l.answer) (validator_of v l.answer) l.state l.fee_ids (here.text ++ lines_of v l.answer l)
        (unsound_with bad (unsound_in v l.answer))))
        (sym lists.load)
        ∙ (λ i.
        pick (is_packet got.answer)
        (batched_from here.turns set (validator_there i) (state_of scan) scan.fee_ids.now more (bad + unsound_there i) w first last (length out₀))
        (stopped (answered got.answer) (validator_there i) (state_of scan) scan.fee_ids.now more (bad + unsound_there i)))

    lines_short : length (lines_of v got.answer got) ≤ room
    lines_short = omega (arith, ap (λ (l : Loaded Part). length (lines_of v l.answer l)) lists.load, lists.short)

    length_more : length more ≡ length here.text + length (lines_of v got.answer got)
    length_more = length-append here.text (lines_of v got.answer got)

    more_within : length more ≤ length out₀
    more_within = omega (arith, lines_short, next, length_more, roomy, same_size)

    lines_there : y ≡ extended x₀ more
    lines_there =
        lists.lines
        ∙ ap (λ (l : Loaded Part). written x (lines_of v l.answer l)) (sym lists.load)
        ∙ written_extends x (lines_of v got.answer got) (omega (arith, next, here.within, here.room))
        ∙ ap (λ (z : TextWriter). extended z (lines_of v got.answer got)) here.lines
        ∙ extended_append x₀ here.text (lines_of v got.answer got) (omega (arith, ap length here.lent, here.room))

    pub still_lent : y.buf.ghost_name ≡ x₀.buf.ghost_name
    still_lent = ap (λ (z : TextWriter). z.buf.ghost_name) lines_there

    next_there : y.count ≡ length more
    next_there = next_by y more lines_there more_within

    -- there are fewer packets than bytes
    pub count_fits : bad + k < 2 ^ 64
    count_fits = omega (arith, here.few, next, roomy, same_size, here.room, one_at_most r.unsound, told)

    -- an answer with no packet ends it
    pub list_ends : {at : ℕ} {left : List ℕ} → is_packet got.answer ≡ false → at ≡ y.count → left ≡ y.buf.now
        → Batches all out₀ (record { stop = Why.Answered r.load.answer; length = at; unsound = worse }) scan after left
    list_ends {at} {left} stops count kept =
        batches all out₀ (Why.Answered r.load.answer) scan after at worse left more
        (here.same ∙ turned ∙ off _ _ stops) (count ∙ next_there) (kept ∙ stored_by y more lines_there) more_within

    -- a packet leads to the next turn, behind its lines
    pub list_moves : is_packet got.answer ≡ true → x.count < y.count
    list_moves goes =
        omega (arith, packet_there v got.answer got goes, next_there, next, length_more)

    pub list_goes_on : is_packet got.answer ≡ true
        → ListTurn set v₀ s₀ fee_ids₀ w first last out₀ x₀ after (state_of scan) scan.fee_ids.now y worse
    list_goes_on goes = further here.turns refl (here.same ∙ turned ∙ on _ _ goes)
      where
        further : (n : ℕ) → n ≡ here.turns
            → all ≡ batched_from n set after (state_of scan) scan.fee_ids.now more worse w first last (length out₀)
            → ListTurn set v₀ s₀ fee_ids₀ w first last out₀ x₀ after (state_of scan) scan.fee_ids.now y worse
        further zero is same =
            absurd (omega (arith, is, here.to_come_lem, list_moves goes, next_there, next, more_within))
        further (suc n) is same =
            record {
              turns = n;
              text = more;
              same = same;
              to_come_lem = omega (arith, is, here.to_come_lem, list_moves goes, next_there, next);
              start = here.start;
              lent = here.lent;
              room = here.room;
              lines = lines_there;
              within = more_within;
              few = omega (arith, here.few, list_moves goes, next_there, next, one_at_most r.unsound, told);
            }

    -- the lines are put behind those that are there, and all of them stand at the buffer's start
    lines_put : Put x.buf.now x.count (lines_of v got.answer got) y.buf.now y.count
    lines_put =
        let put : y ≡ extended x (lines_of v got.answer got) =
        lists.lines
        ∙ ap (λ (l : Loaded Part). written x (lines_of v l.answer l)) (sym lists.load)
        ∙ written_extends x (lines_of v got.answer got) (omega (arith, next, here.within, here.room)) in
        record {
          room = omega (arith, same_size, here.room);
          stored = ap (λ (z : TextWriter). z.buf.now) put;
          next = ap (λ (z : TextWriter). z.count) put;
        }

    stored_there : y.buf.now ≡ sets out₀ 0 more
    stored_there = stored_by y more lines_there
