use Rattle.std.proofs.Common.{◌≡◌, ◌+◌, ◌-◌, ◌<◌, length, ap, arith, ◌∙◌}
use Rattle.mq_ir.specs.Keys.{Tuple}
use Rattle.mq_dim_index.specs.Places.{with_key}
use Rattle.mq_auto_shape.proofs.FreshLemmas.{key_lacking}
use Rattle.mq_auto_shape.proofs.GrowthLemmas.{cells_next, cells_start, put_there}
use Rattle.mq_auto_shape.proofs.growth.with_keys.Goals as goal

pub placing-init : goal.placing-init
placing-init c = record {
  within = omega arith;
  set = cells_start c.args.keys.now c.args.index (length c.args.keys.now) (omega arith) c.keys.ensures.ascending;
}

pub placing-preserved : goal.placing-preserved
placing-preserved c =
    let xs = c.args.keys.now in
    let n = c.placing.at - 1 in
    let x = c.index-keys-at.result in
    let e : n + 1 ≡ c.placing.at = omega (arith, c.placing-test.true) in
    let lt : n < length xs = omega (arith, c.placing-test.true, c.placing.invariant.within) in
    record {
      within = omega (arith, lt);
      set =
          cells_next xs c.args.index c.placing.index c.insert.new.self n c.placing.at x e lt c.index-keys-at.is c.placing.invariant.set
          (c.in_ok-insert.ensures.ok ∙ ap (λ (key : Tuple). with_key c.placing.index key) c.in_ok-copy.ensures
          ∙ put_there c.placing.index x (key_lacking xs c.args.index c.placing.index n c.placing.at x e lt c.index-keys-at.is c.requires c.placing.invariant.set));
    }
