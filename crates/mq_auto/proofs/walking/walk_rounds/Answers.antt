use Rattle.std.proofs.Common.{◌<◌, ℕ, List, length, refl, sym, subst, ◌∙◌, add-one, arith}
use Rattle.std.specs.List.{All}
use Rattle.mq_ir.specs.Unfolding.{model_of}
use Rattle.mq_auto_shape.specs.Found.{AreRoundsOf}
use Rattle.mq_auto.specs.Walks.{AreFoundAt, AreRightWithin}
use Rattle.mq_auto.proofs.WalkLemmas.{right_end, right_round, right_start, round_there}
use Rattle.mq_auto.proofs.walking.walk_rounds.Goals as goal

pub rounds-init : goal.rounds-init
rounds-init g c = record {
  right = λ input from none. right_start (model_of c.args.m.now) c.args.found.now.shape input (g.C.Cells.results c.args.cells.now) none;
  same = refl;
  within = omega arith;
}

pub walk_round-requires : goal.walk_round-requires
walk_round-requires g c =
    let model = model_of c.args.m.now in
    let s = c.args.found.now.shape in
    let are = subst (AreRoundsOf model s) (sym c.as_slice-rounds.ensures) c.requires.levelled.rounds in
    record {
      finder = c.requires.finder;
      work = record { base = c.requires.levelled.indexed.base; cells = c.requires.levelled.indexed.cells; refs = c.requires.refs };
      own = c.requires.levelled.own;
      ruled = c.requires.levelled.ruled;
      there =
          subst (λ (round : List ℕ). All (λ place. place < length s.assigned) round) (sym c.as_slice.ensures)
          (round_there model s c.as_slice-rounds.result.now c.rounds.round-index c.round-item.result are c.rounds-test.true c.round-item.is);
    }

pub rounds-preserved : goal.rounds-preserved
rounds-preserved g c =
    let model = model_of c.args.m.now in
    let s = c.args.found.now.shape in
    let rounds = c.as_slice-rounds.result.now in
    let are = subst (AreRoundsOf model s) (sym c.as_slice-rounds.ensures) c.requires.levelled.rounds in
    let given = g.C.Cells.input c.rounds.cells in
    let before = g.C.Cells.results c.rounds.cells in
    let after = g.C.Cells.results c.walk_round.new.cells in
    record {
      right =
          λ input from none.
          subst (λ n. AreRightWithin model s input n after) (sym (add-one c.rounds.round-index))
          (right_round model s input rounds c.rounds.round-index c.round-item.result given before after are c.rounds-test.true c.round-item.is (c.rounds.invariant.same ∙ from)
          (subst (AreFoundAt model s given before after) c.as_slice.ensures c.in_ok-walk_round.ensures.found) (c.rounds.invariant.right input from none));
      same = c.in_ok-walk_round.ensures.same_input ∙ c.rounds.invariant.same;
      within = omega (arith, c.rounds-test.true);
    }

pub returns-clause-values : goal.returns-clause-values
returns-clause-values g c =
    let model = model_of c.args.m.now in
    let s = c.args.found.now.shape in
    let are = subst (AreRoundsOf model s) (sym c.as_slice-rounds.ensures) c.requires.levelled.rounds in
    λ input from none.
    right_end model s input c.as_slice-rounds.result.now c.rounds.round-index (g.C.Cells.results c.rounds.cells) are c.rounds-test.false c.rounds.invariant.within
    (c.rounds.invariant.right input from none)
