use Rattle.std.proofs.Common.{List, ℕ, subst, sym, ◌∙◌}
use Rattle.mq_ir.specs.Unfolding.{model_of}
use Rattle.mq_auto_shape.specs.Found.{AreRoundsOf}
use Rattle.mq_kept.proofs.shapes.course_over.Goals as goal

pub course_of-requires : goal.course_of-requires
course_of-requires c =
    let levelled = c.requires in
    record {
      own = levelled.own;
      ruled = levelled.ruled;
      rounds =
          subst (λ (rounds : List (List ℕ)). AreRoundsOf (model_of c.args.m.now) c.args.found.now.shape rounds) (sym (c.in_ok-rounds.ensures ∙ c.as_slice.ensures)) levelled.rounds;
      base = c.in_ok-base.ensures ∙ c.keys.ensures.all ∙ levelled.indexed.base;
      cells = c.in_ok-cells.ensures ∙ c.keys-2.ensures.all ∙ levelled.indexed.cells;
    }
