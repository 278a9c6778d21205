-- The part that is lent is the window that is asked for, and what is told on it is the reply.
use Rattle.std.proofs.Common.{ap, sym, refl, ◌∙◌, [], ◌∷◌, Bool}
use Rattle.chain.specs.Calls.{Window, reply_to}
use Rattle.chain_replay_calls.specs.OneCall.{call_on, ends_told, keeps, stand_by, told_on}
use Rattle.chain_replay_calls.proofs.OneCallLaws.{lent_asked, stands_told}
use Rattle.chain_replay_calls.proofs.call.Goals as goal

pub returns-clause-stands : goal.returns-clause-stands
returns-clause-stands c =
    let args = c.args in
    let told = c.make-told.result in
    let k = keeps c.make-told.new.scan in
    let ends = c.ends_chain.ensures ∙ ap (λ (six : Bool). ends_told told six) c.unusable-six.ensures in
    (λ i. record { reply = told_on (sym c.payload-bytes.ensures i) k told ∷ []; kept = k; ends = ends i })
    ∙ stands_told _ k told _ c.make-told.ensures.tells
    ∙ ap (λ (w : Window). stand_by (reply_to args.scan.now.set (keeps args.scan.now) (call_on args.asked.kind w)))
    (lent_asked args.recording.now args.asked _ _ _ (refl, refl) c.payload-bytes.ensures c.reaches.ensures)
