use Rattle.std.proofs.Common.{Bool, sym}
use Rattle.mq_ir.specs.declared.catalog.View.{View}
use Rattle.mq_ir.specs.Tables.{is_name}
use Rattle.mq_ir.specs.Ready.{QueryIsReady}
use Rattle.mq_answers.specs.FoundLaws.{all_found}
use Rattle.mq_engine.proofs.engine.Engine.explain.Goals as goal

pub explained-requires : goal.explained-requires
explained-requires g c =
    let is_wanted : View → Bool = λ v. is_name v.name c.args.view.now in
    record {
      named = sym c.in-Some.ensures;
      model = c.in-Some-model.is;
      ready = all_found is_wanted (λ (v : View). QueryIsReady v.query) c.self.inside.catalog.views c.in-Some.found.now c.self.invariant.1 (sym c.in-Some.ensures);
      standing = c.self.invariant.3;
    }
