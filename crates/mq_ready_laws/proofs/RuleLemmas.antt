-- Each rule of a model has such a left side.
use Rattle.std.proofs.Common.{◌≡◌, ℕ, List, [], length, Bool, Ok, subst}
use Rattle.std.specs.List.{All}
use Rattle.mq_lexer.specs.Words.{folded}
use Rattle.mq_values.specs.declared.operators.Mode.{Mode}
use Rattle.mq_ast.specs.declared.queries.RuleTree.{RuleTree}
use Rattle.mq_ir.specs.declared.catalog.Catalog.{Catalog}
use Rattle.mq_ir.specs.declared.query.PlainPart.{PlainPart}
use Rattle.mq_ir.specs.declared.query.Rule.{Rule}
use Rattle.mq_ir.specs.Results.{◌>>=◌}
use Rattle.mq_ir.specs.Ready.{LeftHasPlaces}
use Rattle.mq_bind_scopes.specs.declared.scopes.Found.{Found}
use Rattle.mq_bind_scopes.specs.declared.scopes.Scope.{Scope}
use Rattle.mq_bind_scopes.specs.Names.{called}
use Rattle.mq_binder.specs.LeftWalk.{left_bound}
use Rattle.mq_binder.specs.RuleWalk.{left_order, right_bound, rule_behind, rule_bound, rule_of, rules_bound}
use Rattle.mq_ready_laws.proofs.LeftLemmas.{left_has_places}
use Rattle.mq_ready_laws.proofs.StepLemmas.{ok_is, went, with_gives}

module _ (catalog : Catalog) (scope : Scope) (mode : Mode) (auto : Bool) where
  abbrev RuleHasPlaces : Rule → Type 0
  RuleHasPlaces rule = LeftHasPlaces (length scope.model.dims) rule.left

  rule_has_places : (lists : List PlainPart) (r : RuleTree) (y : Rule × List PlainPart) → rule_bound catalog scope mode auto lists r ≡ Ok y → RuleHasPlaces y.0
  rule_has_places lists r y h =
      let w = went (called (folded r.measure) scope.model.measures) (λ measure. left_bound catalog scope lists r.left >>= rule_behind scope mode auto r measure) y h in
      let v = went (left_bound catalog scope lists r.left) (rule_behind scope mode auto r w.value) y w.after in
      let made : List (ℕ × Bool) → Found → Rule × List PlainPart = λ order right. (rule_of mode r w.value.0 v.value.left order right, v.value.lists) in
      let u = went (left_order scope auto v.value.left r.order) (λ order. right_bound scope w.value.1 r >>= (λ right. Ok (made order right))) y v.after in
      let t = went (right_bound scope w.value.1 r) (λ right. Ok (made u.value right)) y u.after in
      subst (λ (y : Rule × List PlainPart). RuleHasPlaces y.0) {x = made u.value t.value} (ok_is (made u.value t.value) y t.after) (left_has_places catalog scope lists r.left v.value v.first)

  pub rules_have_places : (rs : List RuleTree) (ys : List Rule × List PlainPart) → rules_bound catalog scope mode auto rs ≡ Ok ys
      → All (λ (rule : Rule). LeftHasPlaces (length scope.model.dims) rule.left) ys.0
  rules_have_places rs ys h = with_gives (rule_bound catalog scope mode auto) RuleHasPlaces rule_has_places [] rs ys h
