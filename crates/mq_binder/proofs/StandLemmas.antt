-- Where an expression stands: what its names and forms are bound to fits what is in sight.
use Rattle.std.proofs.Common.{◌≡◌, ℕ, zero, suc, ◌<◌, List, [], ◌∷◌, map, length, Bool, true, false, ◌&&◌, ◌||◌, cond, Option, Some, None, Result, Ok, Err, refl, sym, ap, ◌∙◌, subst, arith}
use Rattle.std.specs.Prelude.{find, is_some, nat_lt, position, slice_get, slice_index_or}
use Rattle.std.specs.Option.{option_map, option_map_or, unwrap_or}
use Rattle.std.proofs.lemmas.Bool.Decides.{nat_tests}
use Rattle.std.proofs.lemmas.List.Quantifiers.{position-Some}
use Rattle.mq_lexer.specs.Words.{folded}
use Rattle.mq_values.specs.declared.faults.Refused.{Refused}
use Rattle.mq_ast.specs.declared.expressions.Path.{Path}
use Rattle.mq_ir.specs.declared.expression.Expr.{Expr}
use Rattle.mq_ir.specs.declared.expression.Expr.TheVariants as expr
use Rattle.mq_ir.specs.declared.expression.Leaf.{out-roll-Leaf}
use Rattle.mq_ir.specs.declared.expression.Leaf.TheVariants as leaf
use Rattle.mq_ir.specs.declared.expression.BoundArm.{BoundArm}
use Rattle.mq_ir.specs.declared.expression.BoundProd.{BoundProd}
use Rattle.mq_ir.specs.declared.expression.BoundSum.{BoundSum}
use Rattle.mq_ir.specs.declared.expression.Expr.TheOpen as layer
use Rattle.mq_ir.specs.declared.expression.Leaf.{Leaf}
use Rattle.mq_ir.specs.declared.expression.Test.{Test}
use Rattle.mq_ir.specs.FitsExpression.{Scope as FitScope}
use Rattle.mq_ir.specs.Tables.{is_name}
use Rattle.mq_bind_scopes.specs.declared.kinds.ExprKind.{ExprKind}
use Rattle.mq_bind_scopes.specs.declared.kinds.ExprKind.TheVariants as kind
use Rattle.mq_bind_scopes.specs.declared.scopes.Bracket.{Bracket}
use Rattle.mq_bind_scopes.specs.declared.scopes.Found.{Found}
use Rattle.mq_bind_scopes.specs.declared.scopes.ModelNames.{ModelNames}
use Rattle.mq_bind_scopes.specs.declared.scopes.Named.{Named}
use Rattle.mq_bind_scopes.specs.declared.scopes.Owner.{Owner}
use Rattle.mq_bind_scopes.specs.declared.scopes.Owner.TheVariants as owner
use Rattle.mq_bind_scopes.specs.declared.scopes.Part.{Part}
use Rattle.mq_bind_scopes.specs.declared.scopes.Part.TheVariants as part
use Rattle.mq_bind_scopes.specs.declared.scopes.Position.{Position}
use Rattle.mq_bind_scopes.specs.declared.scopes.ReferenceNames.{ReferenceNames}
use Rattle.mq_bind_scopes.specs.declared.scopes.Scope.{Scope}
use Rattle.mq_bind_expr.specs.CellNodes.{unless_rule_form}
use Rattle.mq_bind_expr.specs.Dimensions.{is_column_leaf}
use Rattle.mq_bind_scopes.specs.Misuses.{cv_out_of_place, in_condition, is_ungrouped, outside_rules, turn_without_iterate}
use Rattle.mq_bind_expr.specs.NameNodes.{a_value, column_leaf, dimension_under, kind_under, name_in, name_in_bracket, name_in_row, name_in_rule, name_misuse, name_shown}
use Rattle.mq_bind_scopes.specs.Names.{Column, Name, called, column_named, found_called, is_called}
use Rattle.mq_bind_scopes.specs.Positions.{dimension_at, is_rule, place_kind}
use Rattle.mq_bind_scopes.specs.Refusals.{misuse, refused_where, unknown_name}
use Rattle.mq_bind_expr.specs.RuleNodes.{cv_called, cv_node, cv_of_place, turn_node}
use Rattle.mq_bind_scopes.specs.declared.misuse_numbers.TheConstants.{MISUSE_OF_RULE_FORM, MISUSE_OF_SHOWN_ITEM, MISUSE_OF_UNGROUPED_COLUMN}
use Rattle.mq_binder.proofs.FineLemmas.{fine_column, fine_inner}
use Rattle.mq_binder.proofs.FitsLemmas.{inner_column, inner_cv, inner_turn, leaf_column, leaf_cv, leaf_turn}
use Rattle.mq_binder.proofs.KindLemmas.{Within}
use Rattle.mq_binder.proofs.OperandLemmas.{FoundFits, settled}
use Rattle.mq_binder.proofs.SoundLemmas.{chained, chosen, mapped}
use Rattle.mq_binder.proofs.FitStepLemmas.{Each, just_is, left_of, passed, some_is, went}

-- the counts of what rules may name
abbrev pub ref_widths : ReferenceNames → ℕ × ℕ
ref_widths r = (length r.dims, length r.measures)

abbrev pub fit_scope : List ℕ → Scope → FitScope
fit_scope columns scope = record {
  columns = columns;
  dims = length scope.model.dims;
  measures = length scope.model.measures;
  refs = map ref_widths scope.model.refs;
}

-- the kinds of columns of a model are within the limit of scales
abbrev pub NamedWithin : Named → Type 0
NamedWithin d = Within d.kind

abbrev pub ReferenceWithin : ReferenceNames → Type 0
ReferenceWithin r = Each NamedWithin r.dims × Each NamedWithin r.measures

pub record ModelWithin (m : ModelNames) : Type 0 where
  pub dims : Each NamedWithin m.dims
  pub measures : Each NamedWithin m.measures
  pub refs : Each ReferenceWithin m.refs

-- a column of one of the FROM items, and one of the model in the SELECT list
abbrev pub ColumnFits : List ℕ → Column → Type 0
ColumnFits columns c = (nat_lt c.0.column (slice_index_or columns c.0.item 0) ≡ true) × Within c.1

abbrev pub ColumnsFit : List ℕ → Scope → Option ℕ → Type 0
ColumnsFit columns scope last = (at : Position) → at.last_item ≡ last → (path : Path) (c : Column) → column_named scope at path ≡ Ok c → ColumnFits columns c

abbrev pub ShownFit : List ℕ → Scope → Type 0
ShownFit columns scope = (name : Name) (c : ℕ × ExprKind) → called name scope.shown ≡ Ok c → (nat_lt c.0 (slice_index_or columns 0 0) ≡ true) × Within c.1

abbrev pub NamesFit : List ℕ → Scope → Part → Option ℕ → Type 0
NamesFit columns scope part.Row last = ColumnsFit columns scope last
NamesFit columns scope part.Item last = ColumnsFit columns scope last
NamesFit columns scope part.Shown last = ShownFit columns scope
NamesFit columns scope part.Left last = Unit {0}
NamesFit columns scope part.Right last = Unit {0}
NamesFit columns scope part.Until last = Unit {0}

-- a place of a bracket of the main model has a dimension, and brackets stand in rules
abbrev pub PlaceFits : Scope → Owner → ℕ → Type 0
PlaceFits scope owner.Main n = nat_lt n (length scope.model.dims) ≡ true
PlaceFits scope (owner.Reference r) n = Unit {0}
PlaceFits scope owner.Nothing n = Unit {0}

abbrev pub BracketFits : Scope → Part → Option Bracket → Type 0
BracketFits scope p None = Unit {0}
BracketFits scope p (Some b) = (is_rule p ≡ true) × PlaceFits scope b.owner b.place

abbrev pub Stands : List ℕ → Scope → Position → Type 0
Stands columns scope at = NamesFit columns scope at.part at.last_item × BracketFits scope at.part at.bracket

-- inside a leaf: in an aggregate of rows, or in a bracket
abbrev pub is_inside : Position → Bool
is_inside at = (at.in_aggregate && outside_rules at) || is_some at.bracket

abbrev pub FitsAt : List ℕ → Scope → Position → Found → Type 0
FitsAt columns scope at f = FoundFits (fit_scope columns scope) (in_condition at) (is_inside at) f

-- ---- what is found in lists
pub find_each : {A : Type 0} (P : A → Type 0) (test : A → Bool) (xs : List A) (x : A) → find test xs ≡ Some x → Each P xs → P x
find_each P test [] x h e = absurd cc
find_each P test (y ∷ ys) x h e = by (test y) (λ g. find_each P test ys x g e.1) h
  where
    by : (b : Bool) → (find test ys ≡ Some x → P x) → cond b (Some y) (find test ys) ≡ Some x → P x
    by true rest g = subst P (just_is y x g) e.0
    by false rest g = rest g

pub get_each : {A : Type 0} (P : A → Type 0) (xs : List A) (n : ℕ) (x : A) → slice_get xs n ≡ Some x → Each P xs → P x
get_each P [] n x h e = absurd cc
get_each P (y ∷ ys) zero x h e = subst P (just_is y x h) e.0
get_each P (y ∷ ys) (suc n) x h e = get_each P ys n x h e.1

below : (n m : ℕ) → n < m → nat_lt n m ≡ true
below n m h = grind (arith, nat_tests)

pub found_fits : (name : Name) (cs : List Named) (m : ℕ × ExprKind) → found_called name cs ≡ Some m → Each NamedWithin cs → (nat_lt m.0 (length cs) ≡ true) × Within m.1
found_fits name cs m h e =
    let a = chained (λ n. option_map (λ (c : Named). (n, c.kind)) (find (is_called name) cs)) (position (is_called name) cs) m h in
    let b = mapped (λ (c : Named). (a.0, c.kind)) (find (is_called name) cs) m a.2 in
    let l = below a.0 (length cs) (position-Some (is_called name) cs a.0 b.0 a.1).0 in
    subst (λ (k : ℕ × ExprKind). (nat_lt k.0 (length cs) ≡ true) × Within k.1) b.2 (l, find_each NamedWithin (is_called name) cs b.0 b.1 e)

pub called_fits : (name : Name) (cs : List Named) (m : ℕ × ExprKind) → called name cs ≡ Ok m → Each NamedWithin cs → (nat_lt m.0 (length cs) ≡ true) × Within m.1
called_fits name cs m h e = found_fits name cs m (some_is (found_called name cs) (unknown_name name) m h) e

pub widths_at : (refs : List ReferenceNames) (n : ℕ) (r : ReferenceNames) → slice_get refs n ≡ Some r → slice_index_or (map ref_widths refs) n (0, 0) ≡ ref_widths r
widths_at [] n r h = absurd cc
widths_at (x ∷ xs) zero r h = ap ref_widths (just_is x r h)
widths_at (x ∷ xs) (suc n) r h = widths_at xs n r h

abbrev column_of : layer.Leaf-F Expr Leaf Test BoundArm BoundProd BoundSum → Bool
column_of x = elim x [ layer.Column item column ↦ true | _ ↦ false ]

pub is_a_column : (item column : ℕ) → is_column_leaf (leaf.Column item column) ≡ true
is_a_column item column = ap is_column_leaf (sym (leaf.rolls-Column item column)) ∙ ap column_of (out-roll-Leaf (layer.Column item column))

module _ (columns : List ℕ) (scope : Scope) (model : ModelWithin scope.model) where
  abbrev s : FitScope
  s = fit_scope columns scope

  column_found : (c i : Bool) (column : Column) → ColumnFits columns column → FoundFits s c i (a_value (column_leaf column.0.item column.0.column) column.1)
  column_found c i column h = record {
    fine = fine_inner s c i (leaf.Column column.0.item column.0.column) (leaf_column s column.0.item column.0.column ∙ h.0) (inner_column column.0.item column.0.column);
    within = h.1;
  }

  row_name : (at : Position) (path : Path) (c i : Bool) (f : Found) → ColumnsFit columns scope at.last_item → name_in_row scope at path ≡ Ok f → FoundFits s c i f
  row_name at path c i f names h =
      let next : Column → Result Found Refused =
      λ c. refused_where (is_ungrouped scope at c.0) (misuse MISUSE_OF_UNGROUPED_COLUMN) (Ok (a_value (column_leaf c.0.item c.0.column) c.1)) in
      let w = went (column_named scope at path) next f h in
      let x = a_value (column_leaf w.value.0.item w.value.0.column) w.value.1 in
      let p = passed (is_ungrouped scope at w.value.0) (misuse MISUSE_OF_UNGROUPED_COLUMN) (Ok x) f w.after in
      settled s c i x f p.after (column_found c i w.value (names at refl path w.value w.first))

  shown_name : (at : Position) (first : Option Name) (path : Path) (c i : Bool) (f : Found) → ShownFit columns scope → name_shown scope at first path ≡ Ok f → FoundFits s c i f
  shown_name at None path c i f names h =
      let w = went (called (folded path.last) scope.shown) (λ c. Ok (a_value (column_leaf 0 c.0) c.1)) f h in
      settled s c i (a_value (column_leaf 0 w.value.0) w.value.1) f w.after
      (column_found c i (record { item = 0; column = w.value.0 }, w.value.1) (names (folded path.last) w.value w.first))
  shown_name at (Some alias) path c i f names h =
      let next : Column → Result Found Refused =
      λ c. refused_where (is_ungrouped scope at c.0) (misuse MISUSE_OF_UNGROUPED_COLUMN) (Err (misuse MISUSE_OF_SHOWN_ITEM)) in
      let w = went (column_named scope at path) next f h in
      let p = passed (is_ungrouped scope at w.value.0) (misuse MISUSE_OF_UNGROUPED_COLUMN) (Err (misuse MISUSE_OF_SHOWN_ITEM)) f w.after in
      never p.after
    where
      never : {P : Type 0} → ◌≡◌ {A = Result Found Refused} (Err (misuse MISUSE_OF_SHOWN_ITEM)) (Ok f) → P
      never g = absurd cc

  -- the dimension of a place
  of_reference : (o : Option ReferenceNames) (n place : ℕ) (d : Named) → slice_get scope.model.refs n ≡ o → slice_get (option_map_or (λ (r : ReferenceNames). r.dims) o []) place ≡ Some d → Within d.kind
  of_reference None n place d e h = absurd cc
  of_reference (Some r) n place d e h = get_each NamedWithin r.dims place d h (get_each ReferenceWithin scope.model.refs n r e model.refs).0

  dimension_within : (o : Owner) (place : ℕ) (d : Named) → dimension_at scope o place ≡ Some d → Within d.kind
  dimension_within owner.Main place d h = get_each NamedWithin scope.model.dims place d h model.dims
  dimension_within (owner.Reference n) place d h = of_reference (slice_get scope.model.refs n) n place d refl h
  dimension_within owner.Nothing place d h = absurd cc

  under_fits : (first : Option Name) (name : Name) (b : Bracket) (k : ExprKind) → dimension_under scope first name b ≡ Some k → (b.is_condition ≡ true) × Within k
  under_fits None name b k h =
      let d = chained (kind_under name b) (dimension_at scope b.owner b.place) k h in
      let g = chosen (b.is_condition && is_name name d.0.name) d.0.kind k d.2 in
      (left_of b.is_condition (is_name name d.0.name) g.0, subst Within g.1 (dimension_within b.owner b.place d.0 d.1))
  under_fits (Some alias) name b k h = absurd cc

  bracket_name : (path : Path) (bracket : Option Bracket) (i : Bool) (f : Found) → name_in_bracket scope path bracket ≡ Some f → FoundFits s (option_map_or (λ (b : Bracket). b.is_condition) bracket false) i f
  bracket_name path None i f h = absurd cc
  bracket_name path (Some b) i f h =
      let m = mapped (a_value (column_leaf 0 b.place)) (dimension_under scope path.first (folded path.last) b) f h in
      let u = under_fits path.first (folded path.last) b m.0 m.1 in
      subst (FoundFits s b.is_condition i) m.2 (record {
        fine = fine_column s b.is_condition i (leaf.Column 0 b.place) (is_a_column 0 b.place) u.0 (inner_column 0 b.place);
        within = u.1;
      })

  rule_name : (at : Position) (path : Path) (f : Found) → name_in_rule scope at path ≡ Ok f → FitsAt columns scope at f
  rule_name at path f h = bracket_name path at.bracket (is_inside at) f (some_is (name_in_bracket scope path at.bracket) (misuse (name_misuse at)) f h)

  pub name_fits : (p : Part) (at : Position) (path : Path) (f : Found) → NamesFit columns scope p at.last_item → name_in p scope at path ≡ Ok f → FitsAt columns scope at f
  name_fits part.Row at path f names h = row_name at path (in_condition at) (is_inside at) f names h
  name_fits part.Item at path f names h = row_name at path (in_condition at) (is_inside at) f names h
  name_fits part.Shown at path f names h = shown_name at path.first path (in_condition at) (is_inside at) f names h
  name_fits part.Left at path f names h = rule_name at path f h
  name_fits part.Right at path f names h = rule_name at path f h
  name_fits part.Until at path f names h = rule_name at path f h

  -- CV and the turn
  cv_found : (c i : Bool) (d : ℕ) (k : ExprKind) (f : Found) → ◌≡◌ {A = Result Found Refused} (Ok (a_value (expr.Leaf (leaf.Cv d)) k)) (Ok f) → nat_lt d (length scope.model.dims) ≡ true → Within k → FoundFits s c i f
  cv_found c i d k f h l w = settled s c i (a_value (expr.Leaf (leaf.Cv d)) k) f h (record { fine = fine_inner s c i (leaf.Cv d) (leaf_cv s d ∙ l) (inner_cv d); within = w })

  kind_or_null : (o : Option Named) (n : ℕ) → dimension_at scope owner.Main n ≡ o → Within (unwrap_or (option_map (λ (d : Named). d.kind) o) kind.Null)
  kind_or_null None n h = refl
  kind_or_null (Some d) n h = dimension_within owner.Main n d h

  cv_in_bracket : (o : Owner) (n : ℕ) (is_condition : Bool) (c i : Bool) (f : Found) → PlaceFits scope o n → cv_of_place scope (Some (record { owner = o; place = n; is_condition = is_condition })) ≡ Ok f → FoundFits s c i f
  cv_in_bracket owner.Main n is_condition c i f l h = cv_found c i n (unwrap_or (place_kind scope owner.Main n) kind.Null) f h l (kind_or_null (dimension_at scope owner.Main n) n refl)
  cv_in_bracket (owner.Reference r) n is_condition c i f l h = absurd cc
  cv_in_bracket owner.Nothing n is_condition c i f l h = absurd cc

  cv_at : (p : Part) (bracket : Option Bracket) (c i : Bool) (f : Found) → BracketFits scope p bracket → cv_of_place scope bracket ≡ Ok f → FoundFits s c i f
  cv_at p None c i f b h = absurd cc
  cv_at p (Some bracket) c i f b h = cv_in_bracket bracket.owner bracket.place bracket.is_condition c i f b.1 h

  cv_named : (at : Position) (name : Option Name) (f : Found) → BracketFits scope at.part at.bracket → cv_called scope at name ≡ Ok f → FitsAt columns scope at f
  cv_named at None f b h =
      let p = passed (cv_out_of_place at) (misuse MISUSE_OF_RULE_FORM) (cv_of_place scope at.bracket) f h in
      cv_at at.part at.bracket (in_condition at) (is_inside at) f b p.after
  cv_named at (Some name) f b h =
      let next : ℕ × ExprKind → Result Found Refused = λ d. unless_rule_form (cv_out_of_place at) (Ok (a_value (expr.Leaf (leaf.Cv d.0)) d.1)) in
      let w = went (called (folded name) scope.model.dims) next f h in
      let p = passed (cv_out_of_place at) (misuse MISUSE_OF_RULE_FORM) (Ok (a_value (expr.Leaf (leaf.Cv w.value.0)) w.value.1)) f w.after in
      let d = called_fits (folded name) scope.model.dims w.value w.first model.dims in
      cv_found (in_condition at) (is_inside at) w.value.0 w.value.1 f p.after d.0 d.1

  pub cv_fits : (at : Position) (name : Option Name) (f : Found) → BracketFits scope at.part at.bracket → cv_node scope at name ≡ Ok f → FitsAt columns scope at f
  cv_fits at name f b h = cv_named at name f b (passed (outside_rules at) (misuse MISUSE_OF_RULE_FORM) (cv_called scope at name) f h).after

  pub turn_fits : (at : Position) (f : Found) → turn_node scope at ≡ Ok f → FitsAt columns scope at f
  turn_fits at f h =
      let x = a_value (expr.Leaf leaf.Turn) (kind.Number 0) in
      let p = passed (turn_without_iterate scope at) (misuse MISUSE_OF_RULE_FORM) (Ok x) f h in
      settled s (in_condition at) (is_inside at) x f p.after (record { fine = fine_inner s (in_condition at) (is_inside at) leaf.Turn (leaf_turn s) inner_turn; within = refl })
