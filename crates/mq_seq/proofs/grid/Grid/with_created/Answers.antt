use Rattle.std.proofs.Common.{◌≡◌, false, ap, sym, subst, ◌∙◌}
use Rattle.std.specs.Map.{keys_of}
use Rattle.mq_dim_index.specs.Places.{is_there}
use Rattle.mq_ir.specs.Keys.{Tuple}
use Rattle.mq_seq.specs.Marks.{IsFresh}
use Rattle.mq_seq.specs.Steps.{State}
use Rattle.mq_seq.proofs.CreatedLemmas.{created_all, created_one, fresh_next, fresh_none, lacking_cell}
use Rattle.mq_seq.proofs.StepLemmas.{fold_end, fold_next, fold_start}
use Rattle.mq_seq.proofs.grid.Grid.with_created.Goals as goal

pub with_one-requires-clause-fresh : goal.with_one-requires-clause-fresh
with_one-requires-clause-fresh c =
    let key = c.key-item.result in
    c.created.invariant.fresh key (subst (λ (k : Tuple). is_there (keys_of c.args.self.track.cells) k ≡ false) (sym c.key-item.is) (c.requires.new c.created.key-index key c.created-test.true))

pub created-init : goal.created-init
created-init c = record {
  folded = fold_start created_one c.args.self c.args.created.now;
  fresh = λ key t. fresh_none c.args.self.count c.args.self.track.cells key (lacking_cell c.args.self.track.cells key t);
  same_width = λ i. c.args.self.width;
}

pub created-preserved : goal.created-preserved
created-preserved c =
    let now = c.created.grid in
    let is = c.in_ok-grid.ensures in
    record {
      folded =
          fold_next created_one c.args.self c.args.created.now c.created.key-index now c.key-item.result c.in_ok-grid.grid c.created-test.true c.key-item.is is c.created.invariant.folded;
      fresh = λ key t. subst (λ (s : State). IsFresh s.count s.track.cells key) (sym is) (fresh_next now.count now.track.cells c.key-item.result key (c.created.invariant.fresh key t));
      same_width = ap (λ (s : State). s.width) is ∙ c.created.invariant.same_width;
    }

pub returns : goal.returns
returns c =
    fold_end created_one c.args.self c.args.created.now c.created.key-index c.created.grid c.created-test.false c.created.invariant.folded ∙ created_all c.args.self c.args.created.now
