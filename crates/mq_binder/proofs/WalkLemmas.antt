-- What an expression is bound to fits what is in sight where it stands: by induction over its tree.
use Rattle.std.proofs.Common.{◌≡◌, ℕ, ◌+◌, List, [], ◌∷◌, map, Bool, true, false, not, ◌&&◌, ◌||◌, Option, Some, None, Result, Ok, refl, sym, ◌∙◌, subst}
use Rattle.mq_values.specs.declared.faults.Refused.{Refused}
use Rattle.mq_values.specs.declared.operators.ProdOp.{ProdOp}
use Rattle.mq_values.specs.declared.operators.SumOp.{SumOp}
use Rattle.mq_ast.specs.declared.expressions.Arm.{Arm, roll-Arm}
use Rattle.mq_ast.specs.declared.expressions.E.{E, ind-E, map-E, roll-E}
use Rattle.mq_ast.specs.declared.expressions.E.TheOpen as layer
use Rattle.mq_ast.specs.declared.expressions.Place.{Place, map-Place, roll-Place}
use Rattle.mq_ast.specs.declared.expressions.ProdTerm.{ProdTerm, roll-ProdTerm}
use Rattle.mq_ast.specs.declared.expressions.SumTerm.{SumTerm, roll-SumTerm}
use Rattle.mq_ir.specs.declared.expression.Expr.{Expr}
use Rattle.mq_ir.specs.declared.expression.Test.{Test}
use Rattle.mq_ir.specs.declared.expression.Test.TheVariants as test
use Rattle.mq_ir.specs.FitsExpression.{Scope as FitScope, all_fit, test_fits}
use Rattle.mq_ir.specs.Results.{◌>>=◌}
use Rattle.mq_bind_scopes.specs.declared.misuse_numbers.TheConstants.{MISUSE_OF_RULE_FORM}
use Rattle.mq_bind_scopes.specs.declared.scopes.Found.{Found}
use Rattle.mq_bind_scopes.specs.declared.scopes.Owner.{Owner}
use Rattle.mq_bind_scopes.specs.declared.scopes.Owner.TheVariants as owner
use Rattle.mq_bind_scopes.specs.declared.scopes.Placed.{Placed}
use Rattle.mq_bind_scopes.specs.declared.scopes.Position.{Position}
use Rattle.mq_bind_scopes.specs.declared.scopes.Scope.{Scope}
use Rattle.mq_bind_expr.specs.CellNodes.{agg_node, cell_node, range_node, unless_rule_form}
use Rattle.mq_bind_expr.specs.ExpressionLayers.{layer_bound, layer_place}
use Rattle.mq_bind_expr.specs.ExpressionRolls.{arm_bound, bound_roll, place_bound, prod_bound, sum_bound, with_meaning}
use Rattle.mq_bind_expr.specs.ExpressionVisits.{ArmMeaning, Meaning, PlaceMeaning, index_at, test_at, visited, visited_arms, visited_if_any, visited_prods, visited_sums}
use Rattle.mq_bind_expr.specs.ExpressionWalk.{bound}
use Rattle.mq_bind_expr.specs.Forms.{is_condition}
use Rattle.mq_bind_expr.specs.FunctionNodes.{ArmFound, call_node, case_node}
use Rattle.mq_bind_scopes.specs.Misuses.{any_inside_place, in_condition, outside_rules}
use Rattle.mq_bind_expr.specs.NameNodes.{a_condition}
use Rattle.mq_bind_expr.specs.OperatorNodes.{and_node, between_node, cast_node, cmp_node, in_node, neg_node, not_node, null_node, or_node, prod_node, sum_node}
use Rattle.mq_bind_expr.specs.PlaceTests.{index_of, place_of, placed}
use Rattle.mq_bind_scopes.specs.Positions.{aggregated, bracketed, inner, is_left, is_rule, owner_of, place_kind}
use Rattle.mq_bind_scopes.specs.Refusals.{misuse}
use Rattle.mq_bind_expr.specs.RuleNodes.{presentnnv_node, presentv_node, present_node, previous_node}
use Rattle.mq_bind_expr.specs.Steps.{each_from}
use Rattle.mq_binder.specs.Literals.{layer_literals, literals_fit, place_literals}
use Rattle.mq_binder.proofs.CellLemmas.{agg_fits, all_placed, cell_node_fits, count_all_fits, presentnnv_fits, presentv_fits, present_fits, previous_fits, range_node_fits}
use Rattle.mq_binder.proofs.FitsLemmas.{any_fits, flat_fit}
use Rattle.mq_binder.proofs.LiteralLemmas.{arm_bound_roll, arm_lit, arm_lit_roll, literals_roll, place_bound_roll, place_lit, place_lit_roll, place_with_literals, place_with_meaning, prod_bound_roll, prod_lit, prod_lit_roll, sum_bound_roll, sum_lit, sum_lit_roll, with_literals}
use Rattle.mq_binder.proofs.OperandLemmas.{ArmFits, FitsIfAny, FoundFits, and_fits, between_fits, call_node_fits, case_fits, cast_fits, cmp_fits, in_fits, lit_fits, neg_fits, not_fits, null_fits, or_fits, prod_fits, settled, sum_fits}
use Rattle.mq_binder.proofs.PlaceLemmas.{index_fits, place_fits}
use Rattle.mq_binder.proofs.SoundLemmas.{clash}
use Rattle.mq_binder.proofs.StandLemmas.{FitsAt, ModelWithin, PlaceFits, Stands, cv_fits, fit_scope, is_inside, name_fits, turn_fits}
use Rattle.mq_binder.proofs.FitStepLemmas.{Each, EachFrom, all_each, left_of, ok_is, passed, right_of, went}

or_true : (b : Bool) → (b || true) ≡ true
or_true true = refl
or_true false = refl

not_true : (b : Bool) → not b ≡ false → b ≡ true
not_true true h = refl
not_true false h = absurd cc

abbrev which : {A : Type 0} → Bool → A → A → A
which b x y = elim b [ true ↦ x | false ↦ y ]

in_rule : {A : Type 0} (b : Bool) (x y : Result A Refused) (z : A) → b ≡ false → which b x y ≡ Ok z → y ≡ Ok z
in_rule true x y z e h = clash true e refl
in_rule false x y z e h = h

module _ (columns : List ℕ) (scope : Scope) (model : ModelWithin scope.model) where
  abbrev s : FitScope
  s = fit_scope columns scope

  abbrev pub ExprFits : E → Type 0
  ExprFits x = literals_fit x ≡ true → (at : Position) → Stands columns scope at → (f : Found) → bound scope x at ≡ Ok f → FitsAt columns scope at f

  abbrev pub PlaceWell : Place → Type 0
  PlaceWell p =
      place_lit p ≡ true → (at : Position) → Stands columns scope at → outside_rules at ≡ false → (o : Owner) (n : ℕ) → PlaceFits scope o n → (q : Placed)
      → place_bound scope p at o n ≡ Ok q → test_fits s q.test ≡ true

  abbrev pub ArmWell : Arm → Type 0
  ArmWell a = arm_lit a ≡ true → (at : Position) → Stands columns scope at → (g : ArmFound) → arm_bound scope a at ≡ Ok g → ArmFits s (in_condition at) (is_inside at) g

  abbrev pub ProdWell : ProdTerm → Type 0
  ProdWell t = prod_lit t ≡ true → (at : Position) → Stands columns scope at → (f : Found) → prod_bound scope t at ≡ Ok f → FitsAt columns scope at f

  abbrev pub SumWell : SumTerm → Type 0
  SumWell t = sum_lit t ≡ true → (at : Position) → Stands columns scope at → (f : Found) → sum_bound scope t at ≡ Ok f → FitsAt columns scope at f

  -- a tree with what is to be shown of it
  abbrev GivenE : Type 0
  GivenE = (x : E) × ExprFits x

  abbrev GivenPlace : Type 0
  GivenPlace = (x : Place) × PlaceWell x

  abbrev GivenArm : Type 0
  GivenArm = (x : Arm) × ArmWell x

  abbrev GivenProd : Type 0
  GivenProd = (x : ProdTerm) × ProdWell x

  abbrev GivenSum : Type 0
  GivenSum = (x : SumTerm) × SumWell x

  abbrev GivenLayer : Type 0
  GivenLayer = layer.E-F GivenE GivenPlace GivenArm GivenProd GivenSum

  abbrev bare : GivenLayer → layer.E-F E Place Arm ProdTerm SumTerm
  bare =
      map-E GivenE GivenPlace GivenArm GivenProd GivenSum E Place Arm ProdTerm SumTerm
      (λ x. x.0) (λ x. x.0) (λ x. x.0) (λ x. x.0) (λ x. x.0)

  abbrev bare_place : layer.Place-F GivenE GivenPlace GivenArm GivenProd GivenSum → layer.Place-F E Place Arm ProdTerm SumTerm
  bare_place =
      map-Place GivenE GivenPlace GivenArm GivenProd GivenSum E Place Arm ProdTerm SumTerm
      (λ x. x.0) (λ x. x.0) (λ x. x.0) (λ x. x.0) (λ x. x.0)

  -- ---- lists of parts
  abbrev trees : List GivenE → List E
  trees = map (λ (x : GivenE). x.0)

  abbrev meant : List GivenE → List (E × Meaning)
  meant es = map (λ (x : E). (x, bound scope x)) (trees es)

  visited_fit : (es : List GivenE) (at : Position) → Stands columns scope at → all_fit (map (λ (x : E). (x, literals_fit x)) (trees es)) ≡ true
      → (fs : List Found) → visited at (meant es) ≡ Ok fs → Each (FitsAt columns scope at) fs
  visited_fit [] at st lit fs h = subst (Each (FitsAt columns scope at)) (ok_is [] fs h) tt
  visited_fit (x ∷ es) at st lit fs h =
      let w = went (bound scope x.0 at) (λ f. visited at (meant es) >>= (λ fs. Ok (f ∷ fs))) fs h in
      let v = went (visited at (meant es)) (λ fs. Ok (w.value ∷ fs)) fs w.after in
      let rest = all_fit (map (λ (x : E). (x, literals_fit x)) (trees es)) in
      subst (Each (FitsAt columns scope at)) (ok_is (w.value ∷ v.value) fs v.after)
      (x.1 (left_of (literals_fit x.0) rest lit) at st w.value w.first, visited_fit es at st (right_of (literals_fit x.0) rest lit) v.value v.first)

  abbrev sums : List GivenSum → List (SumTerm × Meaning)
  sums ts = map (λ (t : SumTerm). (t, sum_bound scope t)) (map (λ (t : GivenSum). t.0) ts)

  sums_fit : (ts : List GivenSum) (at : Position) → Stands columns scope at → all_fit (map (λ (t : SumTerm). (t, sum_lit t)) (map (λ (t : GivenSum). t.0) ts)) ≡ true
      → (fs : List (SumOp × Found)) → visited_sums at (sums ts) ≡ Ok fs → Each (λ (t : SumOp × Found). FitsAt columns scope at t.1) fs
  sums_fit [] at st lit fs h = subst (Each (λ (t : SumOp × Found). FitsAt columns scope at t.1)) (ok_is [] fs h) tt
  sums_fit (t ∷ ts) at st lit fs h =
      let w = went (sum_bound scope t.0 at >>= (λ f. Ok (t.0.op, f))) (λ f. visited_sums at (sums ts) >>= (λ fs. Ok (f ∷ fs))) fs h in
      let g = went (sum_bound scope t.0 at) (λ f. Ok (t.0.op, f)) w.value w.first in
      let v = went (visited_sums at (sums ts)) (λ fs. Ok (w.value ∷ fs)) fs w.after in
      let rest = all_fit (map (λ (t : SumTerm). (t, sum_lit t)) (map (λ (t : GivenSum). t.0) ts)) in
      let k = t.1 (left_of (sum_lit t.0) rest lit) at st g.value g.first in
      subst (Each (λ (t : SumOp × Found). FitsAt columns scope at t.1)) (ok_is (w.value ∷ v.value) fs v.after)
      (subst (λ (t : SumOp × Found). FitsAt columns scope at t.1) (ok_is (t.0.op, g.value) w.value g.after) k, sums_fit ts at st (right_of (sum_lit t.0) rest lit) v.value v.first)

  abbrev prods : List GivenProd → List (ProdTerm × Meaning)
  prods ts = map (λ (t : ProdTerm). (t, prod_bound scope t)) (map (λ (t : GivenProd). t.0) ts)

  prods_fit : (ts : List GivenProd) (at : Position) → Stands columns scope at → all_fit (map (λ (t : ProdTerm). (t, prod_lit t)) (map (λ (t : GivenProd). t.0) ts)) ≡ true
      → (fs : List (ProdOp × Found)) → visited_prods at (prods ts) ≡ Ok fs → Each (λ (t : ProdOp × Found). FitsAt columns scope at t.1) fs
  prods_fit [] at st lit fs h = subst (Each (λ (t : ProdOp × Found). FitsAt columns scope at t.1)) (ok_is [] fs h) tt
  prods_fit (t ∷ ts) at st lit fs h =
      let w = went (prod_bound scope t.0 at >>= (λ f. Ok (t.0.op, f))) (λ f. visited_prods at (prods ts) >>= (λ fs. Ok (f ∷ fs))) fs h in
      let g = went (prod_bound scope t.0 at) (λ f. Ok (t.0.op, f)) w.value w.first in
      let v = went (visited_prods at (prods ts)) (λ fs. Ok (w.value ∷ fs)) fs w.after in
      let rest = all_fit (map (λ (t : ProdTerm). (t, prod_lit t)) (map (λ (t : GivenProd). t.0) ts)) in
      let k = t.1 (left_of (prod_lit t.0) rest lit) at st g.value g.first in
      subst (Each (λ (t : ProdOp × Found). FitsAt columns scope at t.1)) (ok_is (w.value ∷ v.value) fs v.after)
      (subst (λ (t : ProdOp × Found). FitsAt columns scope at t.1) (ok_is (t.0.op, g.value) w.value g.after) k, prods_fit ts at st (right_of (prod_lit t.0) rest lit) v.value v.first)

  abbrev arms_meant : List GivenArm → List (Arm × ArmMeaning)
  arms_meant arms = map (λ (a : Arm). (a, arm_bound scope a)) (map (λ (a : GivenArm). a.0) arms)

  abbrev ArmsFit : Position → List ArmFound → Type 0
  ArmsFit at gs = Each (ArmFits s (in_condition at) (is_inside at)) gs

  arms_fit : (arms : List GivenArm) (at : Position) → Stands columns scope at → all_fit (map (λ (a : Arm). (a, arm_lit a)) (map (λ (a : GivenArm). a.0) arms)) ≡ true
      → (gs : List ArmFound) → visited_arms at (arms_meant arms) ≡ Ok gs → ArmsFit at gs
  arms_fit [] at st lit gs h = subst (ArmsFit at) (ok_is [] gs h) tt
  arms_fit (a ∷ arms) at st lit gs h =
      let w = went (arm_bound scope a.0 at) (λ f. visited_arms at (arms_meant arms) >>= (λ fs. Ok (f ∷ fs))) gs h in
      let v = went (visited_arms at (arms_meant arms)) (λ fs. Ok (w.value ∷ fs)) gs w.after in
      let rest = all_fit (map (λ (a : Arm). (a, arm_lit a)) (map (λ (a : GivenArm). a.0) arms)) in
      subst (ArmsFit at) (ok_is (w.value ∷ v.value) gs v.after)
      (a.1 (left_of (arm_lit a.0) rest lit) at st w.value w.first, arms_fit arms at st (right_of (arm_lit a.0) rest lit) v.value v.first)

  abbrev places : List GivenPlace → List (Place × PlaceMeaning)
  places ps = map (λ (p : Place). (p, place_bound scope p)) (map (λ (p : GivenPlace). p.0) ps)

  abbrev places_lit : List GivenPlace → Bool
  places_lit ps = all_fit (map (λ (p : Place). (p, place_lit p)) (map (λ (p : GivenPlace). p.0) ps))

  abbrev IndexFrom : Owner → ℕ → List Expr → Type 0
  IndexFrom o n es = EachFrom (λ m x. PlaceFits scope o m → flat_fit s x ≡ true) n es

  indices_from : (ps : List GivenPlace) (at : Position) → Stands columns scope at → outside_rules at ≡ false → places_lit ps ≡ true → (o : Owner) (n : ℕ) (es : List Expr)
      → each_from (index_at scope at o) n (places ps) ≡ Ok es → IndexFrom o n es
  indices_from [] at st r lit o n es h = subst (IndexFrom o n) (ok_is [] es h) tt
  indices_from (p ∷ ps) at st r lit o n es h =
      let w = went (place_bound scope p.0 at o n >>= index_of (is_left at.part) (place_kind scope o n)) (λ f. each_from (index_at scope at o) (n + 1) (places ps) >>= (λ fs. Ok (f ∷ fs))) es h in
      let g = went (place_bound scope p.0 at o n) (index_of (is_left at.part) (place_kind scope o n)) w.value w.first in
      let v = went (each_from (index_at scope at o) (n + 1) (places ps)) (λ fs. Ok (w.value ∷ fs)) es w.after in
      subst (IndexFrom o n) (ok_is (w.value ∷ v.value) es v.after) (
        λ l. index_fits s (is_left at.part) (place_kind scope o n) g.value w.value g.after (p.1 (left_of (place_lit p.0) (places_lit ps) lit) at st r o n l g.value g.first),
        indices_from ps at st r (right_of (place_lit p.0) (places_lit ps) lit) o (n + 1) v.value v.first,
      )

  abbrev TestFrom : ℕ → List Test → Type 0
  TestFrom n ts = EachFrom (λ m t. PlaceFits scope owner.Main m → test_fits s t ≡ true) n ts

  tests_from : (ps : List GivenPlace) (at : Position) → Stands columns scope at → outside_rules at ≡ false → places_lit ps ≡ true → (n : ℕ) (ts : List Test)
      → each_from (test_at at) n (places ps) ≡ Ok ts → TestFrom n ts
  tests_from [] at st r lit n ts h = subst (TestFrom n) (ok_is [] ts h) tt
  tests_from (p ∷ ps) at st r lit n ts h =
      let w = went (place_bound scope p.0 at owner.Main n >>= (λ p. Ok p.test)) (λ f. each_from (test_at at) (n + 1) (places ps) >>= (λ fs. Ok (f ∷ fs))) ts h in
      let g = went (place_bound scope p.0 at owner.Main n) (λ p. Ok p.test) w.value w.first in
      let v = went (each_from (test_at at) (n + 1) (places ps)) (λ fs. Ok (w.value ∷ fs)) ts w.after in
      subst (TestFrom n) (ok_is (w.value ∷ v.value) ts v.after) (
        λ l. subst (λ (t : Test). test_fits s t ≡ true) (ok_is g.value.test w.value g.after) (p.1 (left_of (place_lit p.0) (places_lit ps) lit) at st r owner.Main n l g.value g.first),
        tests_from ps at st r (right_of (place_lit p.0) (places_lit ps) lit) (n + 1) v.value v.first,
      )

  -- ---- CASE
  abbrev IfAny : Position → Option Found → Type 0
  IfAny at o = FitsIfAny s (in_condition at) (is_inside at) o

  none_visited : (at : Position) (o : Option Found) → ◌≡◌ {A = Result (Option Found) Refused} (Ok None) (Ok o) → IfAny at o
  none_visited at o h = subst (IfAny at) (ok_is None o h) tt

  some_visited : (x : GivenE) (at : Position) → Stands columns scope at → literals_fit x.0 ≡ true → (o : Option Found) → (bound scope x.0 at >>= (λ f. Ok (Some f))) ≡ Ok o → IfAny at o
  some_visited x at st lit o h =
      let w = went (bound scope x.0 at) (λ f. Ok (Some f)) o h in
      subst (IfAny at) (ok_is (Some w.value) o w.after) (x.1 lit at st w.value w.first)

  case_step : (at : Position) (subject : Result (Option Found) Refused) (arms : Result (List ArmFound) Refused) (last : Result (Option Found) Refused) (f : Found)
      → (subject >>= (λ o. arms >>= (λ found. last >>= case_node o found))) ≡ Ok f
      → ((o : Option Found) → subject ≡ Ok o → IfAny at o) → ((gs : List ArmFound) → arms ≡ Ok gs → ArmsFit at gs) → ((o : Option Found) → last ≡ Ok o → IfAny at o) → FitsAt columns scope at f
  case_step at subject arms last f h p q r =
      let a = went subject (λ o. arms >>= (λ found. last >>= case_node o found)) f h in
      let b = went arms (λ found. last >>= case_node a.value found) f a.after in
      let d = went last (case_node a.value b.value) f b.after in
      case_fits s (in_condition at) (is_inside at) a.value b.value d.value f d.after (p a.value a.first) (q b.value b.first) (r d.value d.first)

  -- ---- a layer
  layer_step : (y : GivenLayer) → layer_literals (with_literals (bare y)) ≡ true → (at : Position) → Stands columns scope at → (f : Found) → layer_bound scope (with_meaning scope (bare y)) at ≡ Ok f → FitsAt columns scope at f
  layer_step (layer.Or es) lit at st f h =
      let w = went (visited (inner at) (meant es)) or_node f h in
      or_fits s (in_condition at) (is_inside at) w.value f w.after (visited_fit es (inner at) st lit w.value w.first)
  layer_step (layer.And es) lit at st f h =
      let w = went (visited (inner at) (meant es)) and_node f h in
      and_fits s (in_condition at) (is_inside at) w.value f w.after (visited_fit es (inner at) st lit w.value w.first)
  layer_step (layer.Not a) lit at st f h =
      let w = went (bound scope a.0 (inner at)) not_node f h in
      not_fits s (in_condition at) (is_inside at) w.value f w.after (a.1 lit (inner at) st w.value w.first)
  layer_step (layer.Cmp a op b) lit at st f h =
      let w = went (bound scope a.0 (inner at)) (λ f. bound scope b.0 (inner at) >>= cmp_node op f) f h in
      let v = went (bound scope b.0 (inner at)) (cmp_node op w.value) f w.after in
      cmp_fits s (in_condition at) (is_inside at) op w.value v.value f v.after
      (a.1 (left_of (literals_fit a.0) (literals_fit b.0) lit) (inner at) st w.value w.first) (b.1 (right_of (literals_fit a.0) (literals_fit b.0) lit) (inner at) st v.value v.first)
  layer_step (layer.Between a negated low high) lit at st f h =
      let w = went (bound scope a.0 (inner at)) (λ f. bound scope low.0 (inner at) >>= (λ g. bound scope high.0 (inner at) >>= between_node negated f g)) f h in
      let v = went (bound scope low.0 (inner at)) (λ g. bound scope high.0 (inner at) >>= between_node negated w.value g) f w.after in
      let u = went (bound scope high.0 (inner at)) (between_node negated w.value v.value) f v.after in
      let l = left_of (literals_fit a.0 && literals_fit low.0) (literals_fit high.0) lit in
      between_fits s (in_condition at) (is_inside at) negated w.value v.value u.value f u.after
      (a.1 (left_of (literals_fit a.0) (literals_fit low.0) l) (inner at) st w.value w.first)
      (low.1 (right_of (literals_fit a.0) (literals_fit low.0) l) (inner at) st v.value v.first)
      (high.1 (right_of (literals_fit a.0 && literals_fit low.0) (literals_fit high.0) lit) (inner at) st u.value u.first)
  layer_step (layer.InList a negated es) lit at st f h =
      let w = went (bound scope a.0 (inner at)) (λ f. visited (inner at) (meant es) >>= in_node negated f) f h in
      let v = went (visited (inner at) (meant es)) (in_node negated w.value) f w.after in
      let rest = all_fit (map (λ (x : E). (x, literals_fit x)) (trees es)) in
      in_fits s (in_condition at) (is_inside at) negated w.value v.value f v.after
      (a.1 (left_of (literals_fit a.0) rest lit) (inner at) st w.value w.first) (visited_fit es (inner at) st (right_of (literals_fit a.0) rest lit) v.value v.first)
  layer_step (layer.IsNull a negated) lit at st f h =
      let w = went (bound scope a.0 (inner at)) (null_node negated) f h in
      null_fits s (in_condition at) (is_inside at) negated w.value f w.after (a.1 lit (inner at) st w.value w.first)
  layer_step (layer.IsPresent a negated) lit at st f h =
      let w = went (bound scope a.0 (inner at)) (present_node at negated) f h in
      present_fits columns scope model at negated w.value f w.after (a.1 lit (inner at) st w.value w.first)
  layer_step (layer.IsAny a) lit at st f h =
      let w = went (bound scope a.0 (inner at)) (λ f. unless_rule_form (any_inside_place at) (Ok (a_condition f.e))) f h in
      let p = passed (any_inside_place at) (misuse MISUSE_OF_RULE_FORM) (Ok (a_condition w.value.e)) f w.after in
      settled s (in_condition at) (is_inside at) (a_condition w.value.e) f p.after (record { fine = (a.1 lit (inner at) st w.value w.first).fine; within = refl })
  layer_step (layer.Sum first terms) lit at st f h =
      let w = went (bound scope first.0 (inner at)) (λ f. visited_sums (inner at) (sums terms) >>= sum_node f) f h in
      let v = went (visited_sums (inner at) (sums terms)) (sum_node w.value) f w.after in
      let rest = all_fit (map (λ (t : SumTerm). (t, sum_lit t)) (map (λ (t : GivenSum). t.0) terms)) in
      sum_fits s (in_condition at) (is_inside at) w.value v.value f v.after
      (first.1 (left_of (literals_fit first.0) rest lit) (inner at) st w.value w.first) (sums_fit terms (inner at) st (right_of (literals_fit first.0) rest lit) v.value v.first)
  layer_step (layer.Prod first terms) lit at st f h =
      let w = went (bound scope first.0 (inner at)) (λ f. visited_prods (inner at) (prods terms) >>= prod_node f) f h in
      let v = went (visited_prods (inner at) (prods terms)) (prod_node w.value) f w.after in
      let rest = all_fit (map (λ (t : ProdTerm). (t, prod_lit t)) (map (λ (t : GivenProd). t.0) terms)) in
      prod_fits s (in_condition at) (is_inside at) w.value v.value f v.after
      (first.1 (left_of (literals_fit first.0) rest lit) (inner at) st w.value w.first) (prods_fit terms (inner at) st (right_of (literals_fit first.0) rest lit) v.value v.first)
  layer_step (layer.Neg a) lit at st f h =
      let w = went (bound scope a.0 (inner at)) neg_node f h in
      neg_fits s (in_condition at) (is_inside at) w.value f w.after (a.1 lit (inner at) st w.value w.first)
  layer_step (layer.Lit v) lit at st f h = lit_fits s (in_condition at) (is_inside at) v f h lit
  layer_step (layer.Name path) lit at st f h = name_fits columns scope model at.part at path f st.0 h
  layer_step (layer.Cell path ps) lit at st f h =
      let o = owner_of scope path in
      let w = went (each_from (index_at scope at o) 0 (places ps)) (cell_node scope at path o) f h in
      cell_node_fits columns scope model at path o w.value f w.after
      (λ r k. all_each (flat_fit s) w.value (all_placed columns scope model (λ (x : Expr). flat_fit s x ≡ true) o w.value k (indices_from ps at st r lit o 0 w.value w.first)))
  layer_step (layer.Agg g a) lit at st f h =
      let w = went (bound scope a.0 (aggregated at)) (agg_node at g) f h in
      agg_fits columns scope model at g w.value f w.after st.1 (a.1 lit (aggregated at) st w.value w.first)
  layer_step layer.CountAll lit at st f h = count_all_fits columns scope model at f h st.1
  layer_step (layer.RangeAgg g name ps) lit at st f h =
      let w = went (each_from (test_at at) 0 (places ps)) (range_node scope at g name) f h in
      range_node_fits columns scope model at g name w.value f w.after
      (λ r k. all_each (test_fits s) w.value (all_placed columns scope model (λ (t : Test). test_fits s t ≡ true) owner.Main w.value k (tests_from ps at st r lit 0 w.value w.first)))
  layer_step (layer.Case None arms None) lit at st f h =
      let all = all_fit (map (λ (a : Arm). (a, arm_lit a)) (map (λ (a : GivenArm). a.0) arms)) in
      case_step at (visited_if_any (inner at) None) (visited_arms (inner at) (arms_meant arms)) (visited_if_any (inner at) None) f h
      (none_visited at) (arms_fit arms (inner at) st (left_of all true lit)) (none_visited at)
  layer_step (layer.Case None arms (Some y)) lit at st f h =
      let all = all_fit (map (λ (a : Arm). (a, arm_lit a)) (map (λ (a : GivenArm). a.0) arms)) in
      case_step at (visited_if_any (inner at) None) (visited_arms (inner at) (arms_meant arms)) (visited_if_any (inner at) (Some (y.0, bound scope y.0))) f h
      (none_visited at) (arms_fit arms (inner at) st (left_of all (literals_fit y.0) lit)) (some_visited y (inner at) st (right_of all (literals_fit y.0) lit))
  layer_step (layer.Case (Some x) arms None) lit at st f h =
      let all = all_fit (map (λ (a : Arm). (a, arm_lit a)) (map (λ (a : GivenArm). a.0) arms)) in
      let l = left_of (literals_fit x.0 && all) true lit in
      case_step at (visited_if_any (inner at) (Some (x.0, bound scope x.0))) (visited_arms (inner at) (arms_meant arms)) (visited_if_any (inner at) None) f h
      (some_visited x (inner at) st (left_of (literals_fit x.0) all l)) (arms_fit arms (inner at) st (right_of (literals_fit x.0) all l)) (none_visited at)
  layer_step (layer.Case (Some x) arms (Some y)) lit at st f h =
      let all = all_fit (map (λ (a : Arm). (a, arm_lit a)) (map (λ (a : GivenArm). a.0) arms)) in
      let l = left_of (literals_fit x.0 && all) (literals_fit y.0) lit in
      case_step at (visited_if_any (inner at) (Some (x.0, bound scope x.0))) (visited_arms (inner at) (arms_meant arms)) (visited_if_any (inner at) (Some (y.0, bound scope y.0))) f h
      (some_visited x (inner at) st (left_of (literals_fit x.0) all l)) (arms_fit arms (inner at) st (right_of (literals_fit x.0) all l))
      (some_visited y (inner at) st (right_of (literals_fit x.0 && all) (literals_fit y.0) lit))
  layer_step (layer.Cast a k) lit at st f h =
      let w = went (bound scope a.0 (inner at)) (cast_node k) f h in
      cast_fits s (in_condition at) (is_inside at) k w.value f w.after (a.1 lit (inner at) st w.value w.first)
  layer_step (layer.Call g es) lit at st f h =
      let w = went (visited (inner at) (meant es)) (call_node g) f h in
      call_node_fits s (in_condition at) (is_inside at) g w.value f w.after (visited_fit es (inner at) st lit w.value w.first)
  layer_step (layer.Cv name) lit at st f h = cv_fits columns scope model at name f st.1 h
  layer_step layer.Turn lit at st f h = turn_fits columns scope model at f h
  layer_step (layer.Previous a) lit at st f h =
      let w = went (bound scope a.0 (inner at)) (previous_node at) f h in
      previous_fits columns scope model at w.value f w.after (a.1 lit (inner at) st w.value w.first)
  layer_step (layer.PresentV es) lit at st f h =
      let w = went (visited (inner at) (meant es)) (presentv_node at) f h in
      presentv_fits columns scope model at w.value f w.after (visited_fit es (inner at) st lit w.value w.first)
  layer_step (layer.PresentNnv es) lit at st f h =
      let w = went (visited (inner at) (meant es)) (presentnnv_node at) f h in
      presentnnv_fits columns scope model at w.value f w.after (visited_fit es (inner at) st lit w.value w.first)

  expr_step : (y : GivenLayer) → ExprFits (roll-E (bare y))
  expr_step y lit at st f h = layer_step y (sym (literals_roll (bare y)) ∙ lit) at st f (sym (bound_roll scope (bare y) at) ∙ h)

  -- ---- places, arms and terms
  pub placed_fits : (x : E) → ExprFits x → literals_fit x ≡ true → (at : Position) → Stands columns scope at → is_rule at.part ≡ true → (o : Owner) (n : ℕ) → PlaceFits scope o n → (q : Placed)
      → (bound scope x (bracketed at o n (is_condition x)) >>= place_of (place_kind scope o n) x) ≡ Ok q → test_fits s q.test ≡ true
  placed_fits x fit lit at st rule o n l q h =
      let w = went (bound scope x (bracketed at o n (is_condition x))) (place_of (place_kind scope o n) x) q h in
      let k = fit lit (bracketed at o n (is_condition x)) (st.0, (rule, l)) w.value w.first in
      place_fits s (place_kind scope o n) x w.value q w.after (subst (λ (i : Bool). FoundFits s (is_condition x) i w.value) (or_true (at.in_aggregate && outside_rules at)) k)

  place_layer : (y : layer.Place-F GivenE GivenPlace GivenArm GivenProd GivenSum) → place_literals (place_with_literals (bare_place y)) ≡ true → (at : Position) → Stands columns scope at → outside_rules at ≡ false
      → (o : Owner) (n : ℕ) → PlaceFits scope o n → (q : Placed) → layer_place scope (place_with_meaning scope (bare_place y)) at o n ≡ Ok q → test_fits s q.test ≡ true
  place_layer layer.Any lit at st r o n l q h =
      subst (λ (q : Placed). test_fits s q.test ≡ true) (ok_is (placed test.Any None) q (passed (outside_rules at) (misuse MISUSE_OF_RULE_FORM) (Ok (placed test.Any None)) q h).after) (any_fits s)
  place_layer (layer.Expr e) lit at st r o n l q h =
      let inside = bound scope e.0 (bracketed at o n (is_condition e.0)) >>= place_of (place_kind scope o n) e.0 in
      let k : inside ≡ Ok q = in_rule (outside_rules at) (bound scope e.0 (inner at) >>= (λ f. Ok (placed (test.At f.e) None))) inside q r h in
      placed_fits e.0 e.1 lit at st (not_true (is_rule at.part) r) o n l q k

  place_step : (y : layer.Place-F GivenE GivenPlace GivenArm GivenProd GivenSum) → PlaceWell (roll-Place (bare_place y))
  place_step y lit at st r o n l q h =
      place_layer y (sym (place_lit_roll (bare_place y)) ∙ lit) at st r o n l q (sym (place_bound_roll scope (bare_place y) at o n) ∙ h)

  arm_step : (y : layer.Arm-F GivenE GivenPlace GivenArm GivenProd GivenSum) → ArmWell (roll-Arm (record { test = y.test.0; value = y.value.0 }))
  arm_step y lit at st g h =
      let x : layer.Arm-F E Place Arm ProdTerm SumTerm = record { test = y.test.0; value = y.value.0 } in
      let l = sym (arm_lit_roll x) ∙ lit in
      let w = went (bound scope y.test.0 at) (λ f. bound scope y.value.0 at >>= (λ g. Ok (f, g))) g (sym (arm_bound_roll scope x at) ∙ h) in
      let v = went (bound scope y.value.0 at) (λ g. Ok (w.value, g)) g w.after in
      subst (ArmFits s (in_condition at) (is_inside at)) (ok_is (w.value, v.value) g v.after) (
        y.test.1 (left_of (literals_fit y.test.0) (literals_fit y.value.0) l) at st w.value w.first,
        y.value.1 (right_of (literals_fit y.test.0) (literals_fit y.value.0) l) at st v.value v.first,
      )

  prod_step : (y : layer.ProdTerm-F GivenE GivenPlace GivenArm GivenProd GivenSum) → ProdWell (roll-ProdTerm (record { op = y.op; e = y.e.0 }))
  prod_step y lit at st f h =
      let x : layer.ProdTerm-F E Place Arm ProdTerm SumTerm = record { op = y.op; e = y.e.0 } in
      y.e.1 (sym (prod_lit_roll x) ∙ lit) at st f (sym (prod_bound_roll scope x at) ∙ h)

  sum_step : (y : layer.SumTerm-F GivenE GivenPlace GivenArm GivenProd GivenSum) → SumWell (roll-SumTerm (record { op = y.op; e = y.e.0 }))
  sum_step y lit at st f h =
      let x : layer.SumTerm-F E Place Arm ProdTerm SumTerm = record { op = y.op; e = y.e.0 } in
      y.e.1 (sym (sum_lit_roll x) ∙ lit) at st f (sym (sum_bound_roll scope x at) ∙ h)

  pub expr_fits : (x : E) → ExprFits x
  expr_fits = ind-E ExprFits PlaceWell ArmWell ProdWell SumWell
      (λ x y is. subst (λ z. ExprFits (roll-E z)) is (expr_step y))
      (λ x y is. subst (λ z. PlaceWell (roll-Place z)) is (place_step y))
      (λ x y is. subst (λ z. ArmWell (roll-Arm z)) is (arm_step y))
      (λ x y is. subst (λ z. ProdWell (roll-ProdTerm z)) is (prod_step y))
      (λ x y is. subst (λ z. SumWell (roll-SumTerm z)) is (sum_step y))
