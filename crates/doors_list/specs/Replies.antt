-- The reply of a listing, as a struct that C has too.
use Rattle.std.specs.Prelude.{ℕ, pos}
use Rattle.validators.specs.declared.RdhCruSanityValidator.{RdhCruSanityValidator}
use Rattle.scan_cdp.specs.declared.Progress.{Progress}
use Rattle.listing_batch.specs.Batches.{Stopped, answered, full, buffer_too_short}
use Rattle.doors_scan_structs.specs.Plain.{plain_state}
use Rattle.doors_scan_reply.specs.Replies.{answer_with, plain_answer, refused_with}
use Rattle.doors_scan_reply.specs.declared.PlainAnswer.{PlainAnswer}
use Rattle.doors_verdict.specs.Plain.{plain_validator}
use Rattle.doors_list.specs.declared.PlainListed.{PlainListed}

-- The kind of an answer that only a listing has.
abbrev pub kind_full : ℕ
kind_full = 4

-- C's struct for why a listing stopped: a kind with nothing else where room may be lacking; refusal 7, whose length stands beside the answer;
-- or the load's answer.
abbrev pub plain_stop : Stopped → PlainAnswer
plain_stop full = answer_with kind_full 0 0 0 0 0 0 0 (pos 0)
plain_stop (buffer_too_short needed) = refused_with 7 (pos 0) 0
plain_stop (answered a) = plain_answer a

-- C's struct for a reply.
abbrev pub listed_with : Stopped → Progress → RdhCruSanityValidator → (length unsound : ℕ) → PlainListed
listed_with why p v length unsound =
    record { answer = plain_stop why; state = plain_state p; validator = plain_validator v; length = length; unsound = unsound }
