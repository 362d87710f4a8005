use Rattle.std.proofs.Common.{Some, sym, ap, ◌∙◌}
use Rattle.std.specs.Map.{keys_of}
use Rattle.mq_seq.specs.Steps.{act_in, looks_past}
use Rattle.mq_seq.proofs.StepLemmas.{seek_found, seek_next}
use Rattle.mq_seq.proofs.self_order.first_looking.Goals as goal

pub returns-then-branch : goal.returns-then-branch
returns-then-branch c =
    ap Some c.in_ok-copy.ensures
    ∙ seek_found (looks_past (act_in c.args.act.now c.args.grid.now.input) (keys_of c.args.grid.now.track.cells) c.args.targets.now) c.args.targets.now c.targets.target-index c.target-item.result c.targets-test.true
    c.target-item.is (sym c.in_ok-looks_past.ensures ∙ c.if-branch.true) c.targets.invariant

pub targets-preserved : goal.targets-preserved
targets-preserved c =
    seek_next (looks_past (act_in c.args.act.now c.args.grid.now.input) (keys_of c.args.grid.now.track.cells) c.args.targets.now) c.args.targets.now c.targets.target-index c.target-item.result c.targets-test.true
    c.target-item.is (sym c.in_ok-looks_past.ensures ∙ c.if-branch.false) c.targets.invariant
