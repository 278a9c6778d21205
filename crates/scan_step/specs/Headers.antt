-- What is replied for a header in a window, whatever the bytes behind it are. No public contract cites this.
use Rattle.std.specs.Prelude.{◌≡◌, ℕ, ◌+◌, ◌^◌, ◌<◌, ◌≤◌, Bool, List, length}
use denote.MutBor.{at_last}
use Rattle.rdh.specs.declared.rdh_cru.RdhCru.{RdhCru}
use Rattle.outcome.specs.declared.Judged.{Judged}
use Rattle.scan_cdp.specs.Answers.{examined_answer}
use Rattle.scan_cdp.specs.Outcomes.{header_fee_id, header_trigger_type}
use Rattle.scan_cdp.specs.Scans.{state_of}
use Rattle.scan_cdp.specs.Steps.{Entry, answer_in, entry_of, is_first, limit, marks_of, outcome_in, payload_of, places_listed, progress_after, start_of, triggers_after, used_listed}
use Rattle.scan_cdp.specs.Windows.{placed, reply_for}
use Rattle.scan_cdp.specs.declared.Part.{Part}
use Rattle.scan_cdp.specs.declared.Progress.{Progress}
use Rattle.scan_cdp.specs.declared.Scan.{Scan}
use Rattle.scan_replies.specs.declared.Examination.{Examination}
use Rattle.scan_step.specs.declared.Header.{Header}

-- A header's bytes start at `start` in a window, with so many bytes from there on.
pub record HeaderHere (p : Progress) (h : Header) : Type 0 where
  pub place : p.place.0 ≤ limit
  pub position : p.position.0 ≤ limit
  pub inside : h.start + h.left < 2 ^ 63
  pub whole : 64 ≤ h.left

-- The scan once step 2 has listed the link and the FEE id of a header, and counted its trigger word, if that is due.
abbrev pub listed : Bool → RdhCru → Scan → Scan
listed due h s =
    let p = s.progress in
    record {
      set = s.set;
      progress = record {
        place = p.place;
        position = p.position;
        load = p.load;
        counts = p.counts;
        links_used = used_listed due h.link_id p.links_used s.links.now;
        fee_ids_used = used_listed due (header_fee_id h) p.fee_ids_used s.fee_ids.now;
      };
      links = at_last s.links (places_listed due h.link_id p.links_used s.links.now);
      triggers = at_last s.triggers (triggers_after due (header_trigger_type h) s.triggers.now);
      fee_ids = at_last s.fee_ids (places_listed due (header_fee_id h) p.fee_ids_used s.fee_ids.now);
    }

-- A header with its outcome in a scan.
abbrev pub judged_in : Scan → RdhCru → Judged
judged_in s h =
    record { set = s.set; rdh = h; first = is_first s.progress.load; outcome = outcome_in s.set s.progress s.fee_ids.now h }

-- The reply for a header that has its outcome, and the scan behind it, which has listed it.
pub record Stepped (s : Scan) (j : Judged) (h : Header) (r : Examination) (after : Scan) : Type 0 where
  pub answer : (rest : List ℕ) → length rest ≡ h.left
      → examined_answer r.answer
      ≡ placed (h.start + 64)
      (answer_in j.outcome j.rdh (payload_of j.set.skip_payload j.outcome j.rdh rest) (start_of s.progress.load s.progress.position)
      s.progress.position)
  pub marks : r.marks ≡ marks_of j.set j.outcome s.progress j.rdh h.left
  pub left : after
      ≡ record s {
        progress =
            progress_after j.set j.outcome s.progress j.rdh h.left (s.progress.place.0 + h.left) s.progress.links_used s.progress.fee_ids_used;
      }

-- The reply for a header whose outcome is not known yet: that of an examination whose step finds it.
abbrev pub RepliesFor : Scan → Header → (last : Bool) → Entry Part → Type 0
RepliesFor s h last e =
    (rest : List ℕ) → length rest ≡ h.left
    → e
    ≡ reply_for last (state_of s) s.fee_ids.now h.rdh (h.start + 64)
    (entry_of s.set (outcome_in s.set s.progress s.fee_ids.now h.rdh) (state_of s) s.fee_ids.now h.rdh rest (s.progress.place.0 + h.left))
