-- An explained cell fits the catalog.
use Rattle.std.proofs.Common.{◌≡◌, ℕ, ◌+◌, ◌<◌, List, [], ◌∷◌, ◌++◌, length, cond, Bool, true, false, not, ◌&&◌, ◌==◌, Option, Some, None, Result, Ok, ap, ◌∙◌, subst, arith}
use Rattle.std.specs.Prelude.{nat_lt, position}
use Rattle.std.specs.List.{find, list_all}
use Rattle.std.specs.Option.{ok_or, option_and_then, option_map_or}
use Rattle.std.proofs.lemmas.Bool.Decides.{nat_tests}
use Rattle.std.proofs.lemmas.List.Folds.{list_all-append}
use Rattle.std.proofs.lemmas.List.Quantifiers.{position-Some}
use Rattle.mq_values.specs.declared.faults.Refused.{Refused}
use Rattle.mq_values.specs.declared.value.Kind.{Kind}
use Rattle.mq_ast.specs.declared.expressions.E.{E}
use Rattle.mq_ir.specs.declared.catalog.Catalog.{Catalog}
use Rattle.mq_ir.specs.declared.catalog.View.{View}
use Rattle.mq_ir.specs.declared.expression.Expr.{Expr}
use Rattle.mq_ir.specs.declared.query.ModelPart.{ModelPart}
use Rattle.mq_ir.specs.declared.statement.CellAsked.{CellAsked}
use Rattle.mq_ir.specs.Fits.{row_scope as fit_row_scope}
use Rattle.mq_ir.specs.FitsExpression.{expression_fits}
use Rattle.mq_ir.specs.FitsStatement.{cell_fits}
use Rattle.mq_ir.specs.Names.{model_of}
use Rattle.mq_ir.specs.Results.{◌>>=◌}
use Rattle.mq_ir.specs.Tables.{is_name}
use Rattle.mq_bind_scopes.specs.declared.misuse_numbers.TheConstants.{MISUSE_OF_EXPLAINED_VIEW, MISUSE_OF_VALUE_COUNT}
use Rattle.mq_bind_scopes.specs.declared.scopes.Part.TheVariants as part
use Rattle.mq_bind_expr.specs.ExpressionWalk.{bound}
use Rattle.mq_bind_expr.specs.PlaceTests.{fits_dimension}
use Rattle.mq_bind_scopes.specs.Names.{Name}
use Rattle.mq_bind_scopes.specs.Positions.{standing}
use Rattle.mq_bind_scopes.specs.Refusals.{kind_mismatch, misuse, refused_where, unknown_name}
use Rattle.mq_binder.specs.CellWalk.{cell_bound, cell_of_model, has_values, index_checked, kind_of_place, measure_and_values, measure_called, value_bound, values_bound}
use Rattle.mq_binder.specs.ChangeWalk.{no_columns}
use Rattle.mq_binder.specs.Literals.{literals_fit}
use Rattle.mq_binder.specs.WithinLimits.{measures_named, names_measures, view_names_measures}
use Rattle.mq_binder.proofs.ChangeLemmas.{no_rows}
use Rattle.mq_binder.proofs.PlainLemmas.{value_found}
use Rattle.mq_binder.proofs.ScenarioFitLemmas.{view_is}
use Rattle.mq_binder.proofs.FitStepLemmas.{Each, EachFrom, all_each, both, each_all, from_gives, from_long, just_is, left_of, ok_is, passed, right_of, some_is, was_not, went}

-- ---- the values
abbrev Bare : Expr → Type 0
Bare e = expression_fits (fit_row_scope []) e ≡ true

value_fits : (kinds : List Kind) (n : ℕ) (e : E) → literals_fit e ≡ true → (x : Expr) → value_bound kinds n e ≡ Ok x → Bare x
value_fits kinds n e lit x h =
    let w = went (bound no_columns e (standing part.Row)) (index_checked kinds n) x h in
    let p = passed (not (fits_dimension (kind_of_place kinds n) w.value.kind)) kind_mismatch (Ok w.value.e) x w.after in
    subst Bare (ok_is w.value.e x p.after) (value_found [] no_columns no_rows e lit w.value w.first).0

numbered : {A : Type 0} (P : A → Type 0) (n : ℕ) (xs : List A) → EachFrom (λ m x. P x) n xs → Each P xs
numbered P n [] h = tt
numbered P n (x ∷ xs) h = (h.0, numbered P (n + 1) xs h.1)

values_fit : (kinds : List Kind) (es : List E) → list_all literals_fit es ≡ true → (xs : List Expr) → values_bound kinds es ≡ Ok xs → list_all (expression_fits (fit_row_scope [])) xs ≡ true
values_fit kinds es lit xs h =
    all_each (expression_fits (fit_row_scope [])) xs
    (numbered Bare 0 xs (from_gives (value_bound kinds) (λ (e : E). literals_fit e ≡ true) (λ m x. Bare x) (value_fits kinds) 0 es xs (each_all literals_fit es lit) h))

-- so many values as there are kinds
count_is : (kinds : List Kind) (es : List E) → (length es == length kinds) ≡ true → (xs : List Expr) → values_bound kinds es ≡ Ok xs → (length xs == length kinds) ≡ true
count_is kinds es same xs h = ap (λ n. n == length kinds) (from_long (value_bound kinds) 0 es xs h) ∙ same

-- ---- the measure
measure_below : (model : ModelPart) (name : Name) → names_measures model ≡ true → (n : ℕ) → measure_called model name ≡ Ok n → nat_lt n (length model.measures) ≡ true
measure_below model name same n h =
    let found = some_is (position (is_name name) model.names) (unknown_name name) n h in
    let l : n < length model.names = (position-Some (is_name name) model.names n name found).0 in
    grind (arith, nat_tests)

-- ---- the model of a view
own_model : (o : Option ModelPart) (x : ModelPart) → option_map_or names_measures o true ≡ true → o ≡ Some x → names_measures x ≡ true
own_model None x h k = absurd cc
own_model (Some y) x h k = subst (λ (z : ModelPart). names_measures z ≡ true) (just_is y x k) h

one_model : (name : Name) (v : View) (rest : Option View) (x : ModelPart) (b : Bool) → view_names_measures v ≡ true
    → (option_and_then (λ (v : View). v.query.model) rest ≡ Some x → names_measures x ≡ true)
    → option_and_then (λ (v : View). v.query.model) (cond b (Some v) rest) ≡ Some x → names_measures x ≡ true
one_model name v rest x true own others e = own_model v.query.model x own e
one_model name v rest x false own others e = others e

model_names : (name : Name) (vs : List View) (x : ModelPart) → list_all view_names_measures vs ≡ true
    → option_and_then (λ (v : View). v.query.model) (find (λ (v : View). is_name v.name name) vs) ≡ Some x → names_measures x ≡ true
model_names name [] x h k = absurd cc
model_names name (v ∷ vs) x h k =
    one_model name v (find (λ (v : View). is_name v.name name) vs) x (is_name v.name name) (left_of (view_names_measures v) (list_all view_names_measures vs) h)
    (model_names name vs x (right_of (view_names_measures v) (list_all view_names_measures vs) h)) k

-- ---- the cell
made_fits : (model : ModelPart) (asked : CellAsked) → model.auto ≡ true → nat_lt asked.measure (length model.measures) ≡ true → (length asked.part == length model.part_kinds) ≡ true → (length asked.cell == length model.dims) ≡ true
    → list_all (expression_fits (fit_row_scope [])) asked.part ≡ true → list_all (expression_fits (fit_row_scope [])) asked.cell ≡ true → cell_fits asked model ≡ true
made_fits model asked auto below parts dims fit_parts fit_cell =
    let test = expression_fits (fit_row_scope []) in
    let b2 = nat_lt asked.measure (length model.measures) in
    let b3 = length asked.part == length model.part_kinds in
    let b4 = length asked.cell == length model.dims in
    let all = list_all-append test asked.part asked.cell ∙ both (list_all test asked.part) (list_all test asked.cell) fit_parts fit_cell in
    both (model.auto && b2 && b3 && b4) (list_all test (asked.part ++ asked.cell))
    (both (model.auto && b2 && b3) b4 (both (model.auto && b2) b3 (both model.auto b2 auto below) parts) dims) all

of_model : (view measure : Name) (parts cell : List E) (model : ModelPart) → names_measures model ≡ true → (list_all literals_fit parts && list_all literals_fit cell) ≡ true → (asked : CellAsked)
    → cell_of_model view measure parts cell model ≡ Ok asked → (cell_fits asked model ≡ true) × (view ≡ asked.view)
of_model view measure parts cell model same lit asked h =
    let made : ℕ → List Expr → List Expr → CellAsked = λ n partition place. record { view = view; measure = n; part = partition; cell = place } in
    let last : ℕ → List Expr → Result CellAsked Refused = λ n partition. values_bound model.dims cell >>= (λ place. Ok (made n partition place)) in
    let p = passed (not model.auto) (misuse MISUSE_OF_EXPLAINED_VIEW) (refused_where (not (has_values model parts cell)) (misuse MISUSE_OF_VALUE_COUNT) (measure_and_values view measure parts cell model)) asked h in
    let q = passed (not (has_values model parts cell)) (misuse MISUSE_OF_VALUE_COUNT) (measure_and_values view measure parts cell model) asked p.after in
    let n = went (measure_called model measure) (λ n. values_bound model.part_kinds parts >>= last n) asked q.after in
    let a = went (values_bound model.part_kinds parts) (last n.value) asked n.after in
    let c = went (values_bound model.dims cell) (λ place. Ok (made n.value a.value place)) asked a.after in
    let counts = was_not (has_values model parts cell) q.holds_not in
    let b3 = length parts == length model.part_kinds in
    let b4 = length cell == length model.dims in
    let fit =
    made_fits model (made n.value a.value c.value) (was_not model.auto p.holds_not) (measure_below model measure same n.value n.first)
    (count_is model.part_kinds parts (left_of b3 b4 counts) a.value a.first) (count_is model.dims cell (right_of b3 b4 counts) c.value c.first)
    (values_fit model.part_kinds parts (left_of (list_all literals_fit parts) (list_all literals_fit cell) lit) a.value a.first)
    (values_fit model.dims cell (right_of (list_all literals_fit parts) (list_all literals_fit cell) lit) c.value c.first) in
    let e = ok_is (made n.value a.value c.value) asked c.after in
    (subst (λ (x : CellAsked). cell_fits x model ≡ true) e fit, ap (λ (x : CellAsked). x.view) e)

pub explained_fits : (catalog : Catalog) → measures_named catalog ≡ true → (view measure : Name) (parts cell : List E) → (list_all literals_fit parts && list_all literals_fit cell) ≡ true → (asked : CellAsked)
    → cell_bound catalog view measure parts cell ≡ Ok asked → option_map_or (cell_fits asked) (model_of catalog asked.view) false ≡ true
explained_fits catalog named view measure parts cell lit asked h =
    let rest : Result CellAsked Refused = ok_or (model_of catalog view) (misuse MISUSE_OF_EXPLAINED_VIEW) >>= cell_of_model view measure parts cell in
    let v = view_is catalog view rest asked h in
    let w = went (ok_or (model_of catalog view) (misuse MISUSE_OF_EXPLAINED_VIEW)) (cell_of_model view measure parts cell) asked v.1 in
    let is = some_is (model_of catalog view) (misuse MISUSE_OF_EXPLAINED_VIEW) w.value w.first in
    let f = of_model view measure parts cell w.value (model_names view catalog.views w.value named is) lit asked w.after in
    let fit : option_map_or (cell_fits asked) (model_of catalog view) false ≡ true = ap (λ (o : Option ModelPart). option_map_or (cell_fits asked) o false) is ∙ f.0 in
    subst (λ (n : Name). option_map_or (cell_fits asked) (model_of catalog n) false ≡ true) f.1 fit
