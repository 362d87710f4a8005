-- A query without MODEL fits the catalog.
use Rattle.std.proofs.Common.{◌≡◌, ℕ, List, [], ◌∷◌, map, length, Bool, true, false, ◌&&◌, Option, Ok, refl, sym, ap, ◌∙◌, subst}
use Rattle.std.specs.Prelude.{nat_le, nat_lt}
use Rattle.std.specs.List.{list_all, list_any}
use Rattle.std.specs.Option.{option_map_or}
use Rattle.std.proofs.lemmas.List.{length-map}
use Rattle.mq_values.specs.declared.limits.TheConstants.{MAX_PRINTED_COLUMNS}
use Rattle.mq_ast.specs.declared.expressions.E.{E}
use Rattle.mq_ast.specs.declared.queries.FromItem.{FromItem}
use Rattle.mq_ast.specs.declared.queries.Plain.{Plain}
use Rattle.mq_ast.specs.declared.queries.Sel.{Sel}
use Rattle.mq_ir.specs.declared.catalog.Catalog.{Catalog}
use Rattle.mq_ir.specs.declared.expression.Leaf.TheVariants as leaf
use Rattle.mq_ir.specs.declared.limit_numbers.TheConstants.{LIMIT_OF_PRINTED_COLUMNS}
use Rattle.mq_ir.specs.declared.query.ColRef.{ColRef}
use Rattle.mq_ir.specs.declared.query.FromPart.{FromPart}
use Rattle.mq_ir.specs.Fits.{from_fits, group_fits, plain_fits, row_scope as fit_row_scope}
use Rattle.mq_ir.specs.FitsExpression.{expression_fits}
use Rattle.mq_ir.specs.Names.{width_of}
use Rattle.mq_bind_scopes.specs.declared.misuse_numbers.TheConstants.{MISUSE_OF_UNGROUPED_COLUMN}
use Rattle.mq_bind_scopes.specs.declared.scopes.Found.{Found}
use Rattle.mq_bind_scopes.specs.declared.scopes.Part.TheVariants as part
use Rattle.mq_bind_scopes.specs.declared.scopes.Position.{Position}
use Rattle.mq_bind_scopes.specs.declared.scopes.Printed.{Printed}
use Rattle.mq_bind_scopes.specs.declared.scopes.RowColumn.{RowColumn}
use Rattle.mq_bind_scopes.specs.declared.scopes.Scope.{Scope}
use Rattle.mq_bind_expr.specs.ExpressionWalk.{bound, bound_value, needs_value}
use Rattle.mq_bind_expr.specs.Forms.{name_of}
use Rattle.mq_bind_scopes.specs.Misuses.{in_condition, is_ungrouped}
use Rattle.mq_bind_expr.specs.OperatorNodes.{is_condition_found}
use Rattle.mq_bind_scopes.specs.Positions.{standing}
use Rattle.mq_bind_scopes.specs.Refusals.{kind_mismatch, limit, misuse}
use Rattle.mq_binder.specs.declared.found.Base.{Base}
use Rattle.mq_binder.specs.declared.found.PlainFound.{PlainFound}
use Rattle.mq_binder.specs.FromWalk.{base_of, group_of, grouped_by}
use Rattle.mq_binder.specs.PlainWalk.{Item, any_aggregate, few_printed, item_bound, items_over, plain_bound, plain_of, plain_over, select_list, star_item}
use Rattle.mq_binder.specs.WithinLimits.{columns_within}
use Rattle.mq_binder.specs.Literals.{literals_fit, literals_if_any}
use Rattle.mq_binder.specs.StatementLiterals.{items_literals, plain_literals}
use Rattle.mq_binder.proofs.FitsLemmas.{fits_leaf, leaf_column}
use Rattle.mq_binder.proofs.FromLemmas.{BaseFits, RowColumnFits, RowsFit, base_fits, columns_fit_all, few_of, model_of, row_scope_is}
use Rattle.mq_binder.proofs.KindLemmas.{Within}
use Rattle.mq_binder.proofs.SoundLemmas.{fits_of}
use Rattle.mq_binder.proofs.StandLemmas.{Stands, fit_scope, is_inside}
use Rattle.mq_binder.proofs.FitStepLemmas.{Each, both, each_all, each_gives, left_of, ok_is, passed, went}
use Rattle.mq_binder.proofs.WalkLemmas.{expr_fits}

-- an expression over rows
abbrev pub RowFound : List ℕ → Found → Type 0
RowFound widths f = (expression_fits (fit_row_scope widths) f.e ≡ true) × Within f.kind

row_found : (widths : List ℕ) (scope : Scope) → RowsFit widths scope → (at : Position) → Stands widths scope at → in_condition at ≡ false → (e : E) → literals_fit e ≡ true → (f : Found) → bound scope e at ≡ Ok f → RowFound widths f
row_found widths scope rows at st out e lit f h =
    let k = expr_fits widths scope (model_of widths scope rows) e lit at st f h in
    (sym (row_scope_is widths scope f.e rows.model) ∙ fits_of (fit_scope widths scope) (in_condition at) (is_inside at) f.e k.fine out, k.within)

pub item_found : (widths : List ℕ) (scope : Scope) → RowsFit widths scope → (e : E) → literals_fit e ≡ true → (f : Found) → bound scope e (standing part.Item) ≡ Ok f → RowFound widths f
item_found widths scope rows e lit f h = row_found widths scope rows (standing part.Item) (columns_fit_all widths scope rows, tt) refl e lit f h

pub value_found : (widths : List ℕ) (scope : Scope) → RowsFit widths scope → (e : E) → literals_fit e ≡ true → (f : Found) → bound scope e (standing part.Row) ≡ Ok f → RowFound widths f
value_found widths scope rows e lit f h = row_found widths scope rows (standing part.Row) (columns_fit_all widths scope rows, tt) refl e lit f h

-- ---- the SELECT list
abbrev pub ItemFits : List ℕ → Item → Type 0
ItemFits widths i = (expression_fits (fit_row_scope widths) i.0 ≡ true) × Within i.1.kind

item_fits : (widths : List ℕ) (scope : Scope) → RowsFit widths scope → (sel : Sel) → literals_fit sel.e ≡ true → (i : Item) → item_bound scope sel ≡ Ok i → ItemFits widths i
item_fits widths scope rows sel lit i h =
    let w = went (bound_value scope (standing part.Item) sel.e) (λ f. Ok (f.e, record { name = name_of sel; kind = f.kind })) i h in
    let v = went (bound scope sel.e (standing part.Item)) needs_value w.value w.first in
    let p = passed (is_condition_found v.value) kind_mismatch (Ok v.value) w.value v.after in
    let k = subst (RowFound widths) (ok_is v.value w.value p.after) (item_found widths scope rows sel.e lit v.value v.first) in
    subst (ItemFits widths) (ok_is (w.value.e, record { name = name_of sel; kind = w.value.kind }) i w.after) k

star_fits : (widths : List ℕ) (cs : List RowColumn) → Each (RowColumnFits widths) cs → Each (ItemFits widths) (map star_item cs)
star_fits widths [] h = tt
star_fits widths (c ∷ cs) h = (
  (
    fits_leaf (fit_row_scope widths) (leaf.Column c.at.item c.at.column) ∙ leaf_column (fit_row_scope widths) c.at.item c.at.column ∙ h.0.below,
    h.0.within,
  ),
  star_fits widths cs h.1,
)

select_fits : (star : Bool) (widths : List ℕ) (scope : Scope) → RowsFit widths scope → (sels : List Sel) → items_literals sels ≡ true → (items : List Item) → select_list star sels scope ≡ Ok items → Each (ItemFits widths) items
select_fits true widths scope rows sels lit items h =
    let p = passed (list_any (λ (c : RowColumn). is_ungrouped scope (standing part.Item) c.at) scope.columns) (misuse MISUSE_OF_UNGROUPED_COLUMN) (Ok (map star_item scope.columns)) items h in
    subst (Each (ItemFits widths)) (ok_is (map star_item scope.columns) items p.after) (star_fits widths scope.columns rows.columns)
select_fits false widths scope rows sels lit items h =
    each_gives (item_bound scope) (λ (s : Sel). literals_fit s.e ≡ true) (ItemFits widths) (item_fits widths scope rows) sels items (each_all (λ (s : Sel). literals_fit s.e) sels lit) h

pub few_are : {A : Type 0} (xs ys : List A) → few_printed xs ≡ Ok ys → (xs ≡ ys) × (nat_le (length ys) MAX_PRINTED_COLUMNS ≡ true)
few_are {A} xs ys h =
    let p = passed (nat_lt MAX_PRINTED_COLUMNS (length xs)) (limit LIMIT_OF_PRINTED_COLUMNS) (Ok xs) ys h in
    let e = ok_is xs ys p.after in
    (e, subst (λ (ys : List A). nat_le (length ys) MAX_PRINTED_COLUMNS ≡ true) e (few_of (length xs) MAX_PRINTED_COLUMNS p.holds_not))

exprs_fit : (widths : List ℕ) (items : List Item) → Each (ItemFits widths) items → list_all (expression_fits (fit_row_scope widths)) (map (λ (i : Item). i.0) items) ≡ true
exprs_fit widths [] h = refl
exprs_fit widths (i ∷ items) h =
    both (expression_fits (fit_row_scope widths) i.0) (list_all (expression_fits (fit_row_scope widths)) (map (λ (i : Item). i.0) items)) h.0.0 (exprs_fit widths items h.1)

kinds_within : (widths : List ℕ) (items : List Item) → Each (ItemFits widths) items → Each (λ (p : Printed). Within p.kind) (map (λ (i : Item). i.1) items)
kinds_within widths [] h = tt
kinds_within widths (i ∷ items) h = (h.0.1, kinds_within widths items h.1)

pub group_is : (widths : List ℕ) (cols : List ColRef) (grouped : Bool) → group_fits widths cols ≡ true → option_map_or (group_fits widths) (group_of cols grouped) true ≡ true
group_is widths [] false h = refl
group_is widths [] true h = refl
group_is widths (c ∷ cols) grouped h = h

-- a query with what is known of its printed columns
pub record PlainFits (catalog : Catalog) (found : PlainFound) : Type 0 where
  pub fits : plain_fits catalog found.part ≡ true
  pub kinds : Each (λ (p : Printed). Within p.kind) found.printed
  pub long : length found.printed ≡ length found.part.items.items
  pub few : nat_le (length found.printed) MAX_PRINTED_COLUMNS ≡ true

made_fits : (catalog : Catalog) (from : FromPart) (group : Option (List ColRef)) (items : List Item) → from_fits catalog from ≡ true → option_map_or (group_fits (map (width_of catalog) from.tables)) group true ≡ true
    → Each (ItemFits (map (width_of catalog) from.tables)) items → nat_le (length items) MAX_PRINTED_COLUMNS ≡ true → PlainFits catalog (plain_of from group items)
made_fits catalog from group items fit grouped each_fits few =
    let widths = map (width_of catalog) from.tables in
    let exprs = map (λ (i : Item). i.0) items in
    let g = option_map_or (group_fits widths) group true in
    let l = list_all (expression_fits (fit_row_scope widths)) exprs in
    let n : nat_le (length exprs) MAX_PRINTED_COLUMNS ≡ true = ap (λ n. nat_le n MAX_PRINTED_COLUMNS) (length-map items (λ (i : Item). i.0)) ∙ few in
    record {
      fits = both (from_fits catalog from && (g && l)) (nat_le (length exprs) MAX_PRINTED_COLUMNS) (both (from_fits catalog from) (g && l) fit (both g l grouped (exprs_fit widths items each_fits))) n;
      kinds = kinds_within widths items each_fits;
      long = length-map items (λ (i : Item). i.1) ∙ sym (length-map items (λ (i : Item). i.0));
      few = ap (λ n. nat_le n MAX_PRINTED_COLUMNS) (length-map items (λ (i : Item). i.1)) ∙ few;
    }

over_fits : (catalog : Catalog) (p : Plain) (base : Base) (grouped : Bool) → plain_literals p ≡ true → BaseFits catalog base → (found : PlainFound) → plain_over p base (group_of base.cols grouped) ≡ Ok found → PlainFits catalog found
over_fits catalog p base grouped lit fit found h =
    let group = group_of base.cols grouped in
    let scope = grouped_by group base.scope in
    let widths = map (width_of catalog) base.from.tables in
    let rows : RowsFit widths scope = record { columns = fit.rows.columns; model = fit.rows.model } in
    let w = went (items_over p scope) (λ items. Ok (plain_of base.from scope.group items)) found h in
    let v = went (select_list p.star p.sels scope) few_printed w.value w.first in
    let few = few_are v.value w.value v.after in
    let items = list_all (λ (s : Sel). literals_fit s.e) p.sels in
    let on_lits = list_all (λ (i : FromItem). literals_if_any i.on) p.froms in
    let sel_lit = left_of items on_lits (left_of (items && on_lits) (literals_if_any p.filter) lit) in
    let each_fits = subst (Each (ItemFits widths)) few.0 (select_fits p.star widths scope rows p.sels sel_lit v.value v.first) in
    subst (PlainFits catalog) (ok_is (plain_of base.from group w.value) found w.after) (made_fits catalog base.from group w.value fit.from (group_is widths base.cols grouped fit.cols) each_fits few.1)

pub plain_fit : (catalog : Catalog) → columns_within catalog ≡ true → (p : Plain) → plain_literals p ≡ true → (found : PlainFound) → plain_bound catalog p ≡ Ok found → PlainFits catalog found
plain_fit catalog within p lit found h =
    let w = went (base_of catalog p) (λ base. plain_over p base (group_of base.cols (any_aggregate p.sels))) found h in
    over_fits catalog p w.value (any_aggregate p.sels) lit (base_fits catalog within p lit w.value w.first) found w.after
