use Rattle.std.proofs.Common.{sym, subst, ◌∙◌}
use Rattle.mq_values.specs.Answers.{Gives}
use Rattle.mq_ir.specs.Unfolding.{model_of}
use Rattle.mq_seq.proofs.FixedLemmas.{fixed_rule}
use Rattle.mq_seq.proofs.rules.act_rule.Goals as goal

pub act_fixed-requires-clause-wide : goal.act_fixed-requires-clause-wide
act_fixed-requires-clause-wide c =
    let known = c.in-Some.ensures.is (model_of c.args.m.now) c.requires.prepared.fixed in
    known.wide ∙ sym c.requires.wide

pub act_fixed-requires-clause-names : goal.act_fixed-requires-clause-names
act_fixed-requires-clause-names c =
    let known = c.in-Some.ensures.is (model_of c.args.m.now) c.requires.prepared.fixed in
    known.key

pub returns-in-Some-clause-exact : goal.returns-in-Some-clause-exact
returns-in-Some-clause-exact c =
    let model = model_of c.args.m.now in
    let known = c.in-Some.ensures.is model c.requires.prepared.fixed in
    subst (Gives c.act_fixed.result)
    (fixed_rule model c.args.turn c.args.number c.args.rule.now c.in-Some.fixed.now c.args.grid known c.in-Some.ensures.own c.requires.there) c.act_fixed.ensures.exact
