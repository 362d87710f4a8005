use Rattle.std.proofs.Common.{◌≡◌, List, [], ◌∷◌, ◌++◌, Ok, sym, ap, ◌∙◌, rules}
use Rattle.mq_bind_scopes.specs.Names.{Name}
use Rattle.mq_bind_expr.specs.StepLemmas.{behind_next}
use Rattle.mq_binder.specs.ReferenceWalk as spec
use Rattle.mq_binder.proofs.references.references_found.Goals as goal

pub refs-preserved : goal.refs-preserved
refs-preserved c =
    let a : c.as_slice.result.now ≡ c.refs.names = search rules in
    let b : spec.reference_bound c.args.catalog.now c.args.around c.refs.names c.r-item.result ≡ Ok c.in_ok-reference.reference =
    ap (λ (names : List Name). spec.reference_bound c.args.catalog.now c.args.around names c.r-item.result) (sym a) ∙ c.in_ok-reference.ensures in
    let p : c.push-in-refs.new.self ≡ c.refs.found ++ c.in_ok-reference.reference ∷ [] = search rules in
    let q : c.push.new.self ≡ c.refs.names ++ spec.reference_name c.in_ok-reference.reference ∷ [] = search rules in
    rw (p, q)
    (behind_next (spec.reference_bound c.args.catalog.now c.args.around) spec.reference_name [] c.args.refs.now c.refs.r-index c.refs.found c.refs.names
    c.r-item.result c.in_ok-reference.reference c.refs-test.true c.r-item.is b c.refs.invariant)
