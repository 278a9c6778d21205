-- What is sound, a text that fits and one that does not are the three cases of what a check answers and leaves.
use mathlib.Core.Bool.{not}
use mathlib.Core.Path.{ap}
use Rattle.validators.proofs.JudgesLaws.{by_sound, by_too_short, by_unsound}
use Rattle.validators.proofs.RdhCruSanityValidator.check.Goals as goal

pub returns-then-not-fails : goal.returns-then-not-fails
returns-then-not-fails g c =
    by_sound c.args.self c.header_id-id.ensures (g.C.Checked.sound c.args.checked) (g.C.Checked.failures c.args.checked)
    c.criteria-criteria.ensures c.fails.ensures (ap not c.if-not-fails.true) c.settled_by-settled.ensures

pub returns-in-Ok : goal.returns-in-Ok
returns-in-Ok g c =
    by_unsound c.args.self c.header_id-id.ensures (g.C.Checked.sound c.args.checked) (g.C.Checked.failures c.args.checked)
    c.criteria-criteria.ensures c.fails.ensures (ap not c.if-not-fails.false) c.in-Ok.ensures c.settled_by-settled.ensures

pub returns-in-Err : goal.returns-in-Err
returns-in-Err g c =
    by_too_short c.args.self c.header_id-id.ensures (g.C.Checked.sound c.args.checked) (g.C.Checked.failures c.args.checked)
    c.criteria-criteria.ensures c.fails.ensures (ap not c.if-not-fails.false) c.in-Err.ensures
