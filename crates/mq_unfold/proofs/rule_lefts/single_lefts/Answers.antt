use Rattle.std.proofs.Common.{◌≡◌, ◌∙◌, length, Ok, sym}
use Rattle.mq_ir.specs.Unfolding.{model_of, unfold_rule}
use Rattle.mq_ir.specs.declared.query.SingleLeft.{SingleLeft}
use Rattle.mq_ir.specs.EachLaws.{all_of}
use Rattle.mq_unfold.proofs.WidthLemmas.{lefts_there, lefts_wide}
use Rattle.mq_unfold.proofs.rule_lefts.single_lefts.Goals as goal

pub returns-in-Ok-clause-wide : goal.returns-in-Ok-clause-wide
returns-in-Ok-clause-wide c =
    let model = model_of c.args.m.now in
    let turn = c.args.turn in
    let rule = c.args.rule.now in
    let lefts = c.in-Ok.lefts in
    let is : unfold_rule model rule turn ≡ Ok lefts = sym (lefts_there model c.args.number turn rule c.requires.there) ∙ c.in-Ok.ensures.exact in
    all_of (λ (left : SingleLeft). length left.places ≡ length model.part.dims) lefts (lefts_wide model turn rule lefts c.requires.places is)
