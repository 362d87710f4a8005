use Rattle.std.proofs.Common.{◌≡◌, true, List, ap, sym, subst, ◌∙◌}
use Rattle.std.specs.Map.{keys_of}
use Rattle.std.proofs.lemmas.Result.{err_from_is_err_and}
use Rattle.mq_dim_index.specs.Places.{is_there}
use Rattle.mq_ir.specs.Keys.{Tuple}
use Rattle.mq_seq.specs.Steps.{act_in, target_done}
use Rattle.mq_ir.specs.StepLaws.{turn_exit, turn_next}
use Rattle.mq_seq.proofs.assigning.assign_all.Goals as goal

pub place_near-at-requires : goal.place_near-at-requires
place_near-at-requires c =
    let target = c.target-item.result in
    ap (λ (keys : List Tuple). is_there keys target) c.targets.invariant.same_keys
    ∙ subst (λ (t : Tuple). is_there (keys_of c.args.grid.track.cells) t ≡ true) (sym c.target-item.is) (c.requires c.targets.target-index target c.targets-test.true)

pub returns-in_err-grid-clause-exact : goal.returns-in_err-grid-clause-exact
returns-in_err-grid-clause-exact c =
    let p = err_from_is_err_and c.from_residual.result c.from_residual.ensures.1 in
    rw (p.1, p.2)
    (turn_exit (target_done (act_in c.args.act.now)) c.args.grid c.args.targets.now c.targets.target-index c.targets.grid c.target-item.result c.in_err-grid.field-0.0 c.targets-test.true c.target-item.is
    c.targets.invariant.turned c.in_err-grid.ensures.exact)

pub targets-preserved : goal.targets-preserved
targets-preserved c = record {
  turned =
      turn_next (target_done (act_in c.args.act.now)) c.args.grid c.args.targets.now c.targets.target-index c.targets.grid c.target-item.result c.in_ok-grid.grid c.targets-test.true c.target-item.is
      c.in_ok-grid.ensures.exact c.targets.invariant.turned;
  same_width = c.in_ok-grid.ensures.width ∙ c.targets.invariant.same_width;
  same_keys = c.in_ok-grid.ensures.same_keys ∙ c.targets.invariant.same_keys;
}
