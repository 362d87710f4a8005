use Rattle.std.proofs.Common.{ap, ◌∙◌}
use Rattle.std.proofs.lemmas.Result.{IfOk-weaker}
use Rattle.mq_ir.specs.declared.query.Derivation.{Derivation}
use Rattle.mq_answers.proofs.explaining.steps_of.Goals as goal

pub accepted-requires : goal.accepted-requires
accepted-requires g c = c.in_ok-steps.ensures.accepted c.args.p.now c.requires.values c.requires.shape

pub returns : goal.returns
returns g c =
    IfOk-weaker c.accepted.result _ _
    (λ d e. ap (λ (d : Derivation). d.steps) e ∙ c.in_ok-steps.ensures.exact c.args.p.now.cells c.requires.values)
    c.accepted.ensures
