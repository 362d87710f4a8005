use Rattle.std.proofs.Common.{◌≡◌, Bool, is_some, List, subst, ap, ◌∙◌, rules}
use Rattle.mq_values.specs.Answers.{Gives}
use Rattle.mq_binder.specs.declared.found.ReferenceFound.{ReferenceFound}
use Rattle.mq_bind_scopes.specs.declared.scopes.Scope.{Scope}
use Rattle.mq_binder.specs.ModelWalk as spec
use Rattle.mq_binder.proofs.models.rules_within.Goals as goal

pub returns : goal.returns
returns c =
    let a : c.as_slice.result.now ≡ c.args.refs = search rules in
    let b : c.is_some.result ≡ is_some c.args.turns = search rules in
    let same : c.in_ok-inside.inside ≡ spec.rule_scope c.args.refs c.args.lists.now (is_some c.args.turns) =
    c.in_ok-inside.ensures
    ∙ ap (λ (r : List ReferenceFound). spec.rule_scope r c.args.lists.now c.is_some.result) a
    ∙ ap (λ (i : Bool). spec.rule_scope c.args.refs c.args.lists.now i) b in
    subst (λ (s : Scope). Gives c.rules_over.result (spec.rules_over c.args.catalog.now c.args.m.now c.args.refs c.args.lists.now c.args.turns s)) same
    c.rules_over.ensures
