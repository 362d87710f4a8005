-- Cells, ranges, aggregates and the forms over them: each is bound to a leaf that fits.
use Rattle.std.proofs.Common.{◌≡◌, ℕ, ◌+◌, ◌≤◌, List, [], ◌∷◌, length, Bool, true, false, not, ◌&&◌, ◌||◌, ◌==◌, Option, Some, None, Result, Ok, Err, refl, sym, ap, ◌∙◌, subst, arith}
use Rattle.std.specs.Prelude.{is_some, nat_lt, slice_get}
use Rattle.std.specs.List.{list_all}
use Rattle.std.specs.Option.{option_map_or, unwrap_or}
use Rattle.std.proofs.lemmas.Bool.Decides.{nat_tests}
use Rattle.mq_lexer.specs.Words.{folded}
use Rattle.mq_values.specs.declared.faults.Refused.{Refused}
use Rattle.mq_values.specs.declared.operators.Agg.{Agg}
use Rattle.mq_values.specs.declared.operators.Agg.TheVariants as agg
use Rattle.mq_ast.specs.declared.expressions.Path.{Path}
use Rattle.mq_ir.specs.declared.expression.BoundArm.{BoundArm}
use Rattle.mq_ir.specs.declared.expression.BoundProd.{BoundProd}
use Rattle.mq_ir.specs.declared.expression.BoundSum.{BoundSum}
use Rattle.mq_ir.specs.declared.expression.Expr.{Expr, out-Expr, roll-Expr, roll-out-Expr}
use Rattle.mq_ir.specs.declared.expression.Expr.TheOpen as layer
use Rattle.mq_ir.specs.declared.expression.Expr.TheVariants as expr
use Rattle.mq_ir.specs.declared.expression.Leaf.{Leaf, out-Leaf, out-roll-Leaf, roll-Leaf, roll-out-Leaf}
use Rattle.mq_ir.specs.declared.expression.Leaf.TheVariants as leaf
use Rattle.mq_ir.specs.declared.expression.Test.{Test}
use Rattle.mq_ir.specs.FitsExpression.{Scope as FitScope, expression_fits, is_inner, test_fits}
use Rattle.mq_ir.specs.LeavesLaws.{leaves_leaf}
use Rattle.mq_ir.specs.Results.{◌>>=◌}
use Rattle.mq_bind_scopes.specs.declared.kinds.ExprKind.{ExprKind}
use Rattle.mq_bind_scopes.specs.declared.kinds.ExprKind.TheVariants as kind
use Rattle.mq_bind_scopes.specs.declared.misuse_numbers.TheConstants.{MISUSE_OF_AGGREGATE, MISUSE_OF_PLACE_COUNT, MISUSE_OF_REFERENCE_MEASURE, MISUSE_OF_RULE_FORM}
use Rattle.mq_bind_scopes.specs.declared.scopes.Bracket.{Bracket}
use Rattle.mq_bind_scopes.specs.declared.scopes.Found.{Found}
use Rattle.mq_bind_scopes.specs.declared.scopes.Owner.{Owner}
use Rattle.mq_bind_scopes.specs.declared.scopes.Owner.TheVariants as owner
use Rattle.mq_bind_scopes.specs.declared.scopes.Part.{Part}
use Rattle.mq_bind_scopes.specs.declared.scopes.Part.TheVariants as part
use Rattle.mq_bind_scopes.specs.declared.scopes.Position.{Position}
use Rattle.mq_bind_scopes.specs.declared.scopes.ReferenceNames.{ReferenceNames}
use Rattle.mq_bind_scopes.specs.declared.scopes.Scope.{Scope}
use Rattle.mq_bind_expr.specs.CellNodes.{agg_node, cell_called, cell_misuse, cell_node, count_all_node, first_name, measures_of, range_node, range_of, range_over, unless_misuse, unless_rule_form}
use Rattle.mq_bind_expr.specs.DimensionLaws.{names_leaf}
use Rattle.mq_bind_expr.specs.Dimensions.{is_column_leaf}
use Rattle.mq_bind_expr.specs.FunctionNodes.{converted}
use Rattle.mq_bind_scopes.specs.Kinds.{common, mismatch}
use Rattle.mq_bind_scopes.specs.Misuses.{aggregate_without_group, cell_out_of_place, in_condition, other_place_count, outside_rules, previous_outside_until}
use Rattle.mq_bind_expr.specs.NameNodes.{a_condition, a_value}
use Rattle.mq_bind_scopes.specs.Names.{Name, called, found_called, is_reference_measure}
use Rattle.mq_bind_scopes.specs.OperatorKinds.{aggregate_kind}
use Rattle.mq_bind_scopes.specs.Positions.{aggregated, is_grouping, is_left, is_rule}
use Rattle.mq_bind_scopes.specs.Refusals.{misuse, refused_where, unknown_name}
use Rattle.mq_bind_expr.specs.RuleNodes.{leaf_cell, other_presence, presence_kind, present_node, presentnnv_node, presentnnv_of, presentv_node, presentv_of, previous_node, single_cell}
use Rattle.mq_binder.proofs.FineLemmas.{fine_is_present, fine_outer, fine_present_nnv, fine_present_v}
use Rattle.mq_binder.proofs.FitsLemmas.{fits_leaf, flat_fit, indices_fit, inner_roll, leaf_cell as leaf_cell_fits, leaf_count_all, leaf_fit, leaf_group, leaf_not_null, leaf_present, leaf_previous, leaf_range, leaf_ref_cell}
use Rattle.mq_binder.proofs.KindLemmas.{Within, aggregate_within, common_within}
use Rattle.mq_binder.proofs.OperandLemmas.{converted_fine, settled}
use Rattle.mq_binder.proofs.SoundLemmas.{Fine, Sound, SoundExpr, clash, fits_of, flat_of, true_is_false}
use Rattle.mq_binder.proofs.StandLemmas.{BracketFits, FitsAt, ModelWithin, PlaceFits, ReferenceWithin, called_fits, fit_scope, found_fits, get_each, is_inside, widths_at}
use Rattle.mq_binder.proofs.FitStepLemmas.{Each, EachFrom, all_below, both, left_of, neither, ok_is, passed, right_of, unmisused, went}

-- ---- where no bracket is
no_bracket : (scope : Scope) (p : Part) (bracket : Option Bracket) → BracketFits scope p bracket → is_rule p ≡ false → bracket ≡ None
no_bracket scope p None b h = refl
no_bracket scope p (Some x) b h = clash (is_rule p) h b.0

none_of : {A : Type 0} (o : Option A) → is_some o ≡ false → o ≡ None
none_of None h = refl
none_of (Some x) h = true_is_false h

not_rule : (p : Part) → is_grouping p ≡ true → is_rule p ≡ false
not_rule part.Row h = refl
not_rule part.Item h = refl
not_rule part.Shown h = refl
not_rule part.Left h = absurd cc
not_rule part.Right h = absurd cc
not_rule part.Until h = absurd cc

or_left : (a b : Bool) → (a || b) ≡ false → a ≡ false
or_left true b h = h
or_left false b h = refl

or_right : (a b : Bool) → (a || b) ≡ false → b ≡ false
or_right true b h = true_is_false h
or_right false b h = h

and_false : (a b : Bool) → b ≡ false → (a && b) ≡ false
and_false true b h = h
and_false false b h = refl

not_true : (b : Bool) → not b ≡ false → b ≡ true
not_true true h = refl
not_true false h = true_is_false h

not_then : (i : Bool) → (i ≡ true → true ≡ false) → i ≡ false
not_then true f = f refl
not_then false f = refl

-- in a rule and in no bracket
outside_leaf : (at : Position) → outside_rules at ≡ false → at.bracket ≡ None → is_inside at ≡ false
outside_leaf at h k = (λ j. (at.in_aggregate && h j) || is_some (k j)) ∙ ap (λ b. b || false) (and_false at.in_aggregate false refl)

bracket_of : (at : Position) → cell_out_of_place at ≡ false → at.bracket ≡ None
bracket_of at h = none_of at.bracket (or_right (is_left at.part) (is_some at.bracket) h)

condition_of : (at : Position) → at.bracket ≡ None → in_condition at ≡ false
condition_of at h = ap (λ o. option_map_or (λ (b : Bracket). b.is_condition) o false) h

-- each holds without its number
each_at : {A : Type 0} (P : A → Type 0) (n : ℕ) (xs : List A) → EachFrom (λ m x. Unit {0} → P x) n xs → Each P xs
each_at P n [] e = tt
each_at P n (x ∷ xs) e = (e.0 tt, each_at P (n + 1) xs e.1)

same_length : (n m : ℕ) → (n == m) ≡ true → 0 + n ≤ m
same_length n m h = grind (arith, nat_tests)

never : {A P : Type 0} (e : Refused) (x : A) → ◌≡◌ {A = Result A Refused} (Err e) (Ok x) → P
never e x h = absurd cc

-- ---- a single cell of the main model
abbrev cell_of : layer.Leaf-F Expr Leaf Test BoundArm BoundProd BoundSum → Result (ℕ × List Expr) Refused
cell_of l = elim l [
  | layer.Cell m indices ↦ Ok (m, indices)
  | layer.RefCell n m indices ↦ Err (misuse MISUSE_OF_REFERENCE_MEASURE)
  | _ ↦ Err (misuse MISUSE_OF_RULE_FORM)
]

abbrev single_of : layer.Expr-F Expr Leaf Test BoundArm BoundProd BoundSum → Result (ℕ × List Expr) Refused
single_of e = elim e [ layer.Leaf l ↦ leaf_cell l | _ ↦ Err (misuse MISUSE_OF_RULE_FORM) ]

pub record CellFits (s : FitScope) (i : Bool) (cell : ℕ × List Expr) : Type 0 where
  pub outer : i ≡ false
  pub measure : nat_lt cell.0 s.measures ≡ true
  pub indices : indices_fit s s.dims cell.1 ≡ true

abbrev SoundLeaf : FitScope → Bool → Bool → Leaf → Type 0
SoundLeaf s c i l = Sound c i (is_column_leaf l) (leaf_fit s l) (l ∷ [])

abbrev column_of : layer.Leaf-F Expr Leaf Test BoundArm BoundProd BoundSum → Bool
column_of x = elim x [ layer.Column item column ↦ true | _ ↦ false ]

named_cell : (s : FitScope) (c i : Bool) (m : ℕ) (es : List Expr) → SoundLeaf s c i (roll-Leaf (layer.Cell m es)) → CellFits s i (m, es)
named_cell s c i m es h =
    let n : is_column_leaf (roll-Leaf (layer.Cell m es)) ≡ false = ap column_of (out-roll-Leaf (layer.Cell m es)) in
    let f : (nat_lt m s.measures && indices_fit s s.dims es) ≡ true =
    sym (leaf_cell_fits s m es) ∙ ap (leaf_fit s) (sym (leaf.rolls-Cell m es)) ∙ h.0 (and_false c (is_column_leaf (roll-Leaf (layer.Cell m es))) n) in
    let o : is_inner (roll-Leaf (layer.Cell m es)) ≡ false = inner_roll (layer.Cell m es) in
    record {
      outer = not_then i (λ k. sym (left_of (is_inner (roll-Leaf (layer.Cell m es))) true (h.1 k)) ∙ o);
      measure = left_of (nat_lt m s.measures) (indices_fit s s.dims es) f;
      indices = right_of (nat_lt m s.measures) (indices_fit s s.dims es) f;
    }

cell_leaf : (s : FitScope) (c i : Bool) (l : layer.Leaf-F Expr Leaf Test BoundArm BoundProd BoundSum) (cell : ℕ × List Expr) → cell_of l ≡ Ok cell → SoundLeaf s c i (roll-Leaf l) → CellFits s i cell
cell_leaf s c i (layer.Cell m es) cell h k = subst (CellFits s i) (ok_is (m, es) cell h) (named_cell s c i m es k)
cell_leaf s c i (layer.RefCell n m es) cell h k = never (misuse MISUSE_OF_REFERENCE_MEASURE) cell h
cell_leaf s c i _ cell h k = never (misuse MISUSE_OF_RULE_FORM) cell h

sound_leaf : (s : FitScope) (c i : Bool) (l : Leaf) → SoundExpr s c i (roll-Expr (layer.Leaf l)) → SoundLeaf s c i l
sound_leaf s c i l h =
    let is : roll-Expr (layer.Leaf l) ≡ expr.Leaf l = expr.rolls-Leaf l in
    let g = subst (SoundExpr s c i) is h in
    (λ n. sym (fits_leaf s l) ∙ g.0 (ap (λ b. c && b) (names_leaf l) ∙ n), λ k. ap (list_all is_inner) (sym (leaves_leaf l)) ∙ g.1 k)

cell_expr : (s : FitScope) (c i : Bool) (e : layer.Expr-F Expr Leaf Test BoundArm BoundProd BoundSum) (cell : ℕ × List Expr) → single_of e ≡ Ok cell → SoundExpr s c i (roll-Expr e) → CellFits s i cell
cell_expr s c i (layer.Leaf l) cell h k =
    cell_leaf s c i (out-Leaf l) cell h (subst (SoundLeaf s c i) (sym (roll-out-Leaf l)) (sound_leaf s c i l k))
cell_expr s c i _ cell h k = never (misuse MISUSE_OF_RULE_FORM) cell h

pub single_fits : (s : FitScope) (c i : Bool) (e : Expr) (cell : ℕ × List Expr) → single_cell e ≡ Ok cell → Fine s c i e → CellFits s i cell
single_fits s c i e cell h k = cell_expr s c i (out-Expr e) cell h (subst (SoundExpr s c i) (sym (roll-out-Expr e)) k.sound)

some_measure : (m n : ℕ) → nat_lt m n ≡ true → nat_lt 0 n ≡ true
some_measure m n h = grind (arith, nat_tests)

pub present_leaf : (s : FitScope) (i : Bool) (cell : ℕ × List Expr) → CellFits s i cell → leaf_fit s (leaf.Present cell.1) ≡ true
present_leaf s i cell k = leaf_present s cell.1 ∙ both (nat_lt 0 s.measures) (indices_fit s s.dims cell.1) (some_measure cell.0 s.measures k.measure) k.indices

module _ (columns : List ℕ) (scope : Scope) (model : ModelWithin scope.model) where
  abbrev s : FitScope
  s = fit_scope columns scope

  -- ---- cells
  abbrev AllFlat : List Expr → Type 0
  AllFlat es = list_all (flat_fit s) es ≡ true

  abbrev CalledFits : Leaf × ExprKind → Type 0
  CalledFits cell = (leaf_fit s cell.0 ≡ true) × Within cell.1

  main_cell : (name : Name) (es : List Expr) (m : ℕ × ExprKind) → called name scope.model.measures ≡ Ok m → (length es == length scope.model.dims) ≡ true → AllFlat es → CalledFits (leaf.Cell m.0 es, m.1)
  main_cell name es m h l f =
      let g = called_fits name scope.model.measures m h model.measures in
      (leaf_cell_fits s m.0 es ∙ both (nat_lt m.0 (length scope.model.measures)) (indices_fit s (length scope.model.dims) es) g.0 (both (length es == length scope.model.dims) (list_all (flat_fit s) es) l f), g.1)

  no_measure : {P : Type 0} (name : Name) (m : ℕ × ExprKind) → called name [] ≡ Ok m → P
  no_measure name m h = let g = (called_fits name [] m h tt).0 in absurd (grind (arith, nat_tests))

  reference_cell : (o : Option ReferenceNames) (n : ℕ) (name : Name) (es : List Expr) (m : ℕ × ExprKind) → slice_get scope.model.refs n ≡ o
      → called name (option_map_or (λ (r : ReferenceNames). r.measures) o []) ≡ Ok m → (length es == length (option_map_or (λ (r : ReferenceNames). r.dims) o [])) ≡ true → AllFlat es
      → CalledFits (leaf.RefCell n m.0 es, m.1)
  reference_cell None n name es m e h l f = no_measure name m h
  reference_cell (Some r) n name es m e h l f =
      let within = get_each ReferenceWithin scope.model.refs n r e model.refs in
      let g = called_fits name r.measures m h within.1 in
      let w = widths_at scope.model.refs n r e in (
        leaf_ref_cell s n m.0 es ∙ ap (λ (p : ℕ × ℕ). nat_lt m.0 p.1 && indices_fit s p.0 es) w
            ∙ both (nat_lt m.0 (length r.measures)) (indices_fit s (length r.dims) es) g.0 (both (length es == length r.dims) (list_all (flat_fit s) es) l f),
        g.1,
      )

  cell_fits_called : (path : Path) (o : Owner) (es : List Expr) (cell : Leaf × ExprKind) → cell_called scope path o es ≡ Ok cell → other_place_count scope o (length es) ≡ false → AllFlat es → CalledFits cell
  cell_fits_called path owner.Main es cell h k f =
      let w = went (called (folded path.last) scope.model.measures) (λ m. Ok (leaf.Cell m.0 es, m.1)) cell h in
      subst CalledFits (ok_is (leaf.Cell w.value.0 es, w.value.1) cell w.after) (main_cell (folded path.last) es w.value w.first (not_true (length es == length scope.model.dims) k) f)
  cell_fits_called path (owner.Reference n) es cell h k f =
      let w = went (called (folded path.last) (measures_of scope n)) (λ m. Ok (leaf.RefCell n m.0 es, m.1)) cell h in
      subst CalledFits (ok_is (leaf.RefCell n w.value.0 es, w.value.1) cell w.after)
      (reference_cell (slice_get scope.model.refs n) n (folded path.last) es w.value refl w.first (not_true (length es == length (option_map_or (λ (r : ReferenceNames). r.dims) (slice_get scope.model.refs n) [])) k) f)
  cell_fits_called path owner.Nothing es cell h k f = never (unknown_name (first_name path)) cell h

  pub cell_node_fits : (at : Position) (path : Path) (o : Owner) (es : List Expr) (f : Found) → cell_node scope at path o es ≡ Ok f
      → (outside_rules at ≡ false → other_place_count scope o (length es) ≡ false → AllFlat es) → FitsAt columns scope at f
  cell_node_fits at path o es f h flat =
      let next : Leaf × ExprKind → Result Found Refused = λ cell. unless_misuse (cell_misuse scope at o (length es)) (Ok (a_value (expr.Leaf cell.0) cell.1)) in
      let p = passed (outside_rules at) (misuse MISUSE_OF_RULE_FORM) (cell_called scope path o es >>= next) f h in
      let w = went (cell_called scope path o es) next f p.after in
      let x = a_value (expr.Leaf w.value.0) w.value.1 in
      let u = unmisused (cell_misuse scope at o (length es)) (Ok x) f w.after in
      let n = neither (cell_out_of_place at) (other_place_count scope o (length es)) MISUSE_OF_RULE_FORM MISUSE_OF_PLACE_COUNT u.0 in
      let g = cell_fits_called path o es w.value w.first n.1 (flat p.holds_not n.1) in
      let i = outside_leaf at p.holds_not (bracket_of at n.0) in
      settled s (in_condition at) (is_inside at) x f u.1 (record { fine = fine_outer s (in_condition at) (is_inside at) w.value.0 i g.0; within = g.1 })

  -- ---- ranges
  abbrev TestsFit : List Test → Type 0
  TestsFit ts = list_all (test_fits s) ts ≡ true

  range_fits_over : (at : Position) (f : Agg) (ts : List Test) (m : ℕ) (k : ExprKind) (x : Found) → range_over scope at f ts m k ≡ Ok x → outside_rules at ≡ false
      → nat_lt m (length scope.model.measures) ≡ true → Within k → (other_place_count scope owner.Main (length ts) ≡ false → TestsFit ts) → FitsAt columns scope at x
  range_fits_over at f ts m k x h r l v fit =
      let next : ExprKind → Result Found Refused = λ k. unless_misuse (cell_misuse scope at owner.Main (length ts)) (Ok (a_value (expr.Leaf (leaf.Range f m ts)) k)) in
      let w = went (aggregate_kind f k) next x h in
      let y = a_value (expr.Leaf (leaf.Range f m ts)) w.value in
      let u = unmisused (cell_misuse scope at owner.Main (length ts)) (Ok y) x w.after in
      let n = neither (cell_out_of_place at) (other_place_count scope owner.Main (length ts)) MISUSE_OF_RULE_FORM MISUSE_OF_PLACE_COUNT u.0 in
      let i = outside_leaf at r (bracket_of at n.0) in
      let g =
      leaf_range s f m ts
      ∙ both (nat_lt m (length scope.model.measures) && (length ts == length scope.model.dims)) (list_all (test_fits s) ts)
      (both (nat_lt m (length scope.model.measures)) (length ts == length scope.model.dims) l (not_true (length ts == length scope.model.dims) n.1)) (fit n.1) in
      settled s (in_condition at) (is_inside at) y x u.1 (record { fine = fine_outer s (in_condition at) (is_inside at) (leaf.Range f m ts) i g; within = aggregate_within f k w.value w.first v })

  range_fits_of : (at : Position) (f : Agg) (name : Name) (ts : List Test) (o : Option (ℕ × ExprKind)) (x : Found) → found_called name scope.model.measures ≡ o → range_of scope at f name ts o ≡ Ok x → outside_rules at ≡ false
      → (other_place_count scope owner.Main (length ts) ≡ false → TestsFit ts) → FitsAt columns scope at x
  range_fits_of at f name ts None x e h r fit =
      let number = unwrap_or (cell_misuse scope at owner.Main (length ts)) MISUSE_OF_REFERENCE_MEASURE in
      let p = passed (not (is_reference_measure name scope.model.refs)) (unknown_name name) (Err (misuse number)) x h in
      never (misuse number) x p.after
  range_fits_of at f name ts (Some m) x e h r fit =
      let g = found_fits name scope.model.measures m e model.measures in
      range_fits_over at f ts m.0 m.1 x h r g.0 g.1 fit

  pub range_node_fits : (at : Position) (f : Agg) (name : Name) (ts : List Test) (x : Found) → range_node scope at f name ts ≡ Ok x
      → (outside_rules at ≡ false → other_place_count scope owner.Main (length ts) ≡ false → TestsFit ts) → FitsAt columns scope at x
  range_node_fits at f name ts x h fit =
      let p = passed (outside_rules at) (misuse MISUSE_OF_RULE_FORM) (range_of scope at f (folded name) ts (found_called (folded name) scope.model.measures)) x h in
      range_fits_of at f (folded name) ts (found_called (folded name) scope.model.measures) x refl p.after p.holds_not (fit p.holds_not)

  -- ---- aggregates of rows
  group_leaf : (at : Position) (x : Leaf) (k : ExprKind) (f : Found) → aggregate_without_group at ≡ false → BracketFits scope at.part at.bracket → leaf_fit s x ≡ true → Within k
      → ◌≡◌ {A = Result Found Refused} (Ok (a_value (expr.Leaf x) k)) (Ok f) → FitsAt columns scope at f
  group_leaf at x k f h b l w is =
      let none = no_bracket scope at.part at.bracket b (not_rule at.part (not_true (is_grouping at.part) (or_right at.in_aggregate (not (is_grouping at.part)) h))) in
      let i : is_inside at ≡ false = (λ j. (or_left at.in_aggregate (not (is_grouping at.part)) h j && outside_rules at) || is_some (none j)) in
      settled s (in_condition at) (is_inside at) (a_value (expr.Leaf x) k) f is (record { fine = fine_outer s (in_condition at) (is_inside at) x i l; within = w })

  pub agg_fits : (at : Position) (f : Agg) (a x : Found) → agg_node at f a ≡ Ok x → BracketFits scope at.part at.bracket → FitsAt columns scope (aggregated at) a → FitsAt columns scope at x
  agg_fits at f a x h b k =
      let l = leaf.GroupAgg f (Some a.e) in
      let next : ExprKind → Result Found Refused = λ k. refused_where (aggregate_without_group at) (misuse MISUSE_OF_AGGREGATE) (Ok (a_value (expr.Leaf l) k)) in
      let w = went (aggregate_kind f a.kind) next x h in
      let p = passed (aggregate_without_group at) (misuse MISUSE_OF_AGGREGATE) (Ok (a_value (expr.Leaf l) w.value)) x w.after in
      let rule = not_rule at.part (not_true (is_grouping at.part) (or_right at.in_aggregate (not (is_grouping at.part)) p.holds_not)) in
      let none = no_bracket scope at.part at.bracket b rule in
      let i : is_inside (aggregated at) ≡ true = ap (λ r. (true && not r) || is_some at.bracket) rule in
      group_leaf at l w.value x p.holds_not b
      (leaf_group s f a.e ∙ flat_of s (in_condition at) (is_inside (aggregated at)) a.e k.fine (condition_of at none) i) (aggregate_within f a.kind w.value w.first k.within) p.after

  pub count_all_fits : (at : Position) (x : Found) → count_all_node at ≡ Ok x → BracketFits scope at.part at.bracket → FitsAt columns scope at x
  count_all_fits at x h b =
      let p = passed (aggregate_without_group at) (misuse MISUSE_OF_AGGREGATE) (Ok (a_value (expr.Leaf (leaf.GroupAgg agg.Count None)) (kind.Number 0))) x h in
      group_leaf at (leaf.GroupAgg agg.Count None) (kind.Number 0) x p.holds_not b (leaf_count_all s agg.Count) refl p.after

  -- ---- forms over a single cell
  pub present_fits : (at : Position) (negated : Bool) (a x : Found) → present_node at negated a ≡ Ok x → FitsAt columns scope at a → FitsAt columns scope at x
  present_fits at negated a x h k =
      let next : ℕ × List Expr → Result Found Refused = λ cell. Ok (a_condition (expr.IsPresent (leaf.Present cell.1) negated)) in
      let p = passed (outside_rules at) (misuse MISUSE_OF_RULE_FORM) (unless_rule_form (cell_out_of_place at) (single_cell a.e >>= next)) x h in
      let q = passed (cell_out_of_place at) (misuse MISUSE_OF_RULE_FORM) (single_cell a.e >>= next) x p.after in
      let w = went (single_cell a.e) next x q.after in
      let g = single_fits s (in_condition at) (is_inside at) a.e w.value w.first k.fine in
      settled s (in_condition at) (is_inside at) (a_condition (expr.IsPresent (leaf.Present w.value.1) negated)) x w.after (record {
        fine = fine_is_present s (in_condition at) (is_inside at) (leaf.Present w.value.1) negated g.outer (present_leaf s (is_inside at) w.value g);
        within = refl;
      })

  pub previous_fits : (at : Position) (a x : Found) → previous_node at a ≡ Ok x → FitsAt columns scope at a → FitsAt columns scope at x
  previous_fits at a x h k =
      let next : ℕ × List Expr → Result Found Refused = λ cell. Ok (a_value (expr.Leaf (leaf.Previous cell.0 cell.1)) a.kind) in
      let p = passed (previous_outside_until at) (misuse MISUSE_OF_RULE_FORM) (single_cell a.e >>= next) x h in
      let w = went (single_cell a.e) next x p.after in
      let g = single_fits s (in_condition at) (is_inside at) a.e w.value w.first k.fine in
      let l = leaf_previous s w.value.0 w.value.1 ∙ both (nat_lt w.value.0 s.measures) (indices_fit s s.dims w.value.1) g.measure g.indices in
      settled s (in_condition at) (is_inside at) (a_value (expr.Leaf (leaf.Previous w.value.0 w.value.1)) a.kind) x w.after (record {
        fine = fine_outer s (in_condition at) (is_inside at) (leaf.Previous w.value.0 w.value.1) g.outer l;
        within = k.within;
      })

  -- the kind of the two results, and no bracket stands around
  presence_fits : (at : Position) (a b k : ExprKind) → presence_kind at a b ≡ Ok k → Within a → Within b → Within k × (in_condition at ≡ false)
  presence_fits at a b k h v w =
      let next : ExprKind → Result ExprKind Refused = λ k. unless_rule_form (cell_out_of_place at) (Ok k) in
      let p = passed (outside_rules at) (misuse MISUSE_OF_RULE_FORM) (common (a ∷ b ∷ []) >>= next) k h in
      let g = went (common (a ∷ b ∷ [])) next k p.after in
      let q = passed (cell_out_of_place at) (misuse MISUSE_OF_RULE_FORM) (Ok g.value) k g.after in
      (subst Within (ok_is g.value k q.after) (common_within kind.Null (a ∷ b ∷ []) g.value g.first refl (v, (w, tt))), condition_of at (bracket_of at q.holds_not))

  result_fits : (at : Position) (k : ExprKind) (a : Found) → Within k → in_condition at ≡ false → FitsAt columns scope at a → expression_fits s (converted k a.e) ≡ true
  result_fits at k a w h g = fits_of s (in_condition at) (is_inside at) (converted k a.e) (converted_fine s (in_condition at) (is_inside at) k a.e w g.fine) h

  elsewhere : {P : Type 0} (at : Position) (x : Found) → other_presence at ≡ Ok x → P
  elsewhere at x h = no_mismatch (passed (outside_rules at) (misuse MISUSE_OF_RULE_FORM) mismatch x h).after
    where
      no_mismatch : {P : Type 0} → ◌≡◌ {A = Result Found Refused} mismatch (Ok x) → P
      no_mismatch g = absurd cc

  pub presentv_fits : (at : Position) (fs : List Found) (x : Found) → presentv_node at fs ≡ Ok x → Each (FitsAt columns scope at) fs → FitsAt columns scope at x
  presentv_fits at [] x h k = elsewhere at x h
  presentv_fits at (c ∷ []) x h k = elsewhere at x h
  presentv_fits at (c ∷ a ∷ []) x h k = elsewhere at x h
  presentv_fits at (c ∷ a ∷ b ∷ []) x h k =
      let next : ExprKind → ℕ × List Expr → Result Found Refused = λ k cell. Ok (a_value (presentv_of cell.1 (converted k a.e) (converted k b.e)) k) in
      let p = went (presence_kind at a.kind b.kind) (λ k. single_cell c.e >>= next k) x h in
      let w = went (single_cell c.e) (next p.value) x p.after in
      let g = single_fits s (in_condition at) (is_inside at) c.e w.value w.first k.0.fine in
      let f = presence_fits at a.kind b.kind p.value p.first k.1.0.within k.1.1.0.within in
      settled s (in_condition at) (is_inside at) (a_value (presentv_of w.value.1 (converted p.value a.e) (converted p.value b.e)) p.value) x w.after (record {
        fine =
            fine_present_v s (in_condition at) (is_inside at) (leaf.Present w.value.1) (converted p.value a.e) (converted p.value b.e) g.outer (present_leaf s (is_inside at) w.value g)
            (result_fits at p.value a f.0 f.1 k.1.0) (result_fits at p.value b f.0 f.1 k.1.1.0);
        within = f.0;
      })
  presentv_fits at (c ∷ a ∷ b ∷ d ∷ ds) x h k = elsewhere at x h

  pub presentnnv_fits : (at : Position) (fs : List Found) (x : Found) → presentnnv_node at fs ≡ Ok x → Each (FitsAt columns scope at) fs → FitsAt columns scope at x
  presentnnv_fits at [] x h k = elsewhere at x h
  presentnnv_fits at (c ∷ []) x h k = elsewhere at x h
  presentnnv_fits at (c ∷ a ∷ []) x h k = elsewhere at x h
  presentnnv_fits at (c ∷ a ∷ b ∷ []) x h k =
      let next : ExprKind → ℕ × List Expr → Result Found Refused = λ k cell. Ok (a_value (presentnnv_of cell.0 cell.1 (converted k a.e) (converted k b.e)) k) in
      let p = went (presence_kind at a.kind b.kind) (λ k. single_cell c.e >>= next k) x h in
      let w = went (single_cell c.e) (next p.value) x p.after in
      let g = single_fits s (in_condition at) (is_inside at) c.e w.value w.first k.0.fine in
      let f = presence_fits at a.kind b.kind p.value p.first k.1.0.within k.1.1.0.within in
      let n = leaf_not_null s w.value.0 w.value.1 ∙ both (nat_lt w.value.0 s.measures) (indices_fit s s.dims w.value.1) g.measure g.indices in
      settled s (in_condition at) (is_inside at) (a_value (presentnnv_of w.value.0 w.value.1 (converted p.value a.e) (converted p.value b.e)) p.value) x w.after (record {
        fine =
            fine_present_nnv s (in_condition at) (is_inside at) (leaf.Present w.value.1) (leaf.NotNull w.value.0 w.value.1) (converted p.value a.e) (converted p.value b.e) g.outer
            (present_leaf s (is_inside at) w.value g) n (result_fits at p.value a f.0 f.1 k.1.0) (result_fits at p.value b f.0 f.1 k.1.1.0);
        within = f.0;
      })
  presentnnv_fits at (c ∷ a ∷ b ∷ d ∷ ds) x h k = elsewhere at x h

  -- ---- items of a bracket with as many places as its dimensions
  pub all_placed : {A : Type 0} (P : A → Type 0) (o : Owner) (xs : List A) → other_place_count scope o (length xs) ≡ false → EachFrom (λ n x. PlaceFits scope o n → P x) 0 xs → Each P xs
  all_placed P owner.Main xs h e = all_below P (length scope.model.dims) 0 xs (same_length (length xs) (length scope.model.dims) (not_true (length xs == length scope.model.dims) h)) e
  all_placed P (owner.Reference r) xs h e = each_at P 0 xs e
  all_placed P owner.Nothing xs h e = each_at P 0 xs e
