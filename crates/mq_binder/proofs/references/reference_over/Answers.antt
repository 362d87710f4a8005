use Rattle.std.proofs.Common.{◌≡◌, List, subst, ap, ◌∙◌, rules}
use Rattle.mq_values.specs.Answers.{Gives}
use Rattle.mq_bind_scopes.specs.declared.scopes.Printed.{Printed}
use Rattle.mq_bind_scopes.specs.declared.scopes.Scope.{Scope}
use Rattle.mq_binder.specs.ReferenceWalk as spec
use Rattle.mq_binder.proofs.references.reference_over.Goals as goal

pub returns : goal.returns
returns c =
    let a : c.as_slice.result.now ≡ c.args.source.printed = search rules in
    let same : c.in_ok-scope.scope ≡ spec.printed_scope c.args.source.printed =
    c.in_ok-scope.ensures ∙ ap (λ (printed : List Printed). spec.printed_scope printed) a in
    subst (λ (s : Scope). Gives c.lists_over.result (spec.lists_over c.args.around c.args.r.now c.args.source s)) same c.lists_over.ensures
