-- A MODEL clause fits the catalog.
use Rattle.std.proofs.Common.{◌≡◌, ℕ, zero, suc, ◌+◌, List, [], ◌∷◌, ◌++◌, map, length, take, drop, Bool, true, false, ◌&&◌, ◌==◌, ℤ, pos, negsuc, Option, Some, None, Result, Ok, Err, refl, sym, ap, ◌∙◌, subst, arith}
use Rattle.std.specs.Prelude.{is_some, nat_le, nat_lt, slice_get, if◌then◌else◌}
use Rattle.std.specs.List.{list_all}
use Rattle.std.specs.Option.{option_map_or, unwrap_or}
use Rattle.std.proofs.lemmas.Bool.Decides.{nat_tests}
use Rattle.std.proofs.lemmas.List.{length-append, length-map}
use Rattle.std.proofs.lemmas.List.Folds.{list_all-append}
use Rattle.mq_values.specs.declared.faults.Refused.{Refused}
use Rattle.mq_values.specs.declared.limits.TheConstants.{MAX_DIMENSIONS, MAX_MEASURES, MAX_PARTITION_COLUMNS, MAX_REFERENCES, MAX_RULES, MAX_TURNS}
use Rattle.mq_values.specs.declared.operators.Mode.TheVariants as mode
use Rattle.mq_values.specs.Number.{Number}
use Rattle.mq_ast.specs.declared.queries.ModelTree.{ModelTree}
use Rattle.mq_ast.specs.declared.queries.Sel.{Sel}
use Rattle.mq_ir.specs.declared.catalog.Catalog.{Catalog}
use Rattle.mq_ir.specs.declared.expression.Expr.{Expr}
use Rattle.mq_ir.specs.declared.limit_numbers.TheConstants.{LIMIT_OF_DIMENSIONS, LIMIT_OF_MEASURES, LIMIT_OF_PARTITION_COLUMNS, LIMIT_OF_RULES, LIMIT_OF_TURNS}
use Rattle.mq_ir.specs.declared.query.ColRef.{ColRef}
use Rattle.mq_ir.specs.declared.query.Iterate.{Iterate}
use Rattle.mq_ir.specs.declared.query.Left.{Left}
use Rattle.mq_ir.specs.declared.query.Left.TheVariants as left
use Rattle.mq_ir.specs.declared.query.LeftItem.{LeftItem}
use Rattle.mq_ir.specs.declared.query.LeftItem.TheVariants as item
use Rattle.mq_ir.specs.declared.query.ListSource.{ListSource}
use Rattle.mq_ir.specs.declared.query.ListSource.TheVariants as source
use Rattle.mq_ir.specs.declared.query.ModelPart.{ModelPart}
use Rattle.mq_ir.specs.declared.query.PlainPart.{PlainPart}
use Rattle.mq_ir.specs.declared.query.RefPart.{RefPart}
use Rattle.mq_ir.specs.declared.query.Rule.{Rule}
use Rattle.mq_ir.specs.Fits.{fits_if_there, item_fits, iterate_fits, left_fits, model_fits, model_scope, numbers_each_once, plain_fits, reference_fits, row_scope as fit_row_scope, rule_fits, source_fits, turns_fit}
use Rattle.mq_ir.specs.FitsExpression.{Scope as FitScope, expression_fits, kind_fits}
use Rattle.mq_ir.specs.Results.{◌>>=◌}
use Rattle.mq_bind_scopes.specs.declared.misuse_numbers.TheConstants.{MISUSE_OF_ITERATE, MISUSE_OF_OPTIONS}
use Rattle.mq_bind_scopes.specs.declared.scopes.Part.TheVariants as part
use Rattle.mq_bind_scopes.specs.declared.scopes.Scope.{Scope}
use Rattle.mq_bind_expr.specs.ExpressionWalk.{bound_filter}
use Rattle.mq_bind_scopes.specs.Names.{Name}
use Rattle.mq_bind_scopes.specs.Positions.{standing}
use Rattle.mq_bind_scopes.specs.Refusals.{limit, misuse, refused_where}
use Rattle.mq_binder.specs.declared.found.ListItem.{ListItem}
use Rattle.mq_binder.specs.declared.found.Lists.{Lists as ModelLists}
use Rattle.mq_binder.specs.declared.found.ModelFound.{ModelFound}
use Rattle.mq_binder.specs.declared.found.ReferenceFound.{ReferenceFound}
use Rattle.mq_bind_scopes.specs.Options.{ignores_nav, options_clash}
use Rattle.mq_binder.specs.ListWalk.{items_listed, limited, list_columns, list_exprs, list_kinds, list_names}
use Rattle.mq_binder.specs.ModelWalk.{all_items, items_limited, iterate_of, lists_and_rules, lists_bound, model_over, model_part, rule_scope, rules_over}
use Rattle.mq_bind_scopes.specs.Heads.{head_bound, turns_bound, turns_of}
use Rattle.mq_binder.specs.ReferenceWalk.{references_bound}
use Rattle.mq_binder.specs.RuleWalk.{rules_bound}
use Rattle.mq_binder.specs.WithinLimits.{columns_within}
use Rattle.mq_binder.specs.Literals.{literals_if_any}
use Rattle.mq_binder.specs.StatementLiterals.{items_literals, model_literals, reference_literals, rule_literals}
use Rattle.mq_binder.proofs.FromLemmas.{RowsFit, each_append, few_of, filter_fits}
use Rattle.mq_binder.proofs.PlainLemmas.{item_found}
use Rattle.mq_binder.proofs.ReferenceLemmas.{ListItemFits, ReferenceFits, columns_long, columns_named, exprs_fit, exprs_long, kinds_fit, kinds_long, limited_is, listed_fit, names_long, references_fit}
use Rattle.mq_binder.proofs.RuleLemmas.{ItemIn, LeftIn, Lists, ListsFit, RowIn, RuleIn, SourceIn, rules_fit}
use Rattle.mq_binder.proofs.SoundLemmas.{chosen}
use Rattle.mq_binder.proofs.StandLemmas.{ModelWithin, NamedWithin, ReferenceWithin, fit_scope, ref_widths}
use Rattle.mq_binder.proofs.FitStepLemmas.{Each, all_each, both, just_is, left_of, ok_is, passed, right_of, went}

-- ---- what fits a model, as the tests of it have it
eq_of : (n m : ℕ) → n ≡ m → (n == m) ≡ true
eq_of n m h = grind (arith, nat_tests)

one_taken : (test : PlainPart → Bool) (lists : Lists) (n : ℕ) (p : PlainPart) → slice_get lists n ≡ Some p → test p ≡ true → list_all test (take 1 (drop n lists)) ≡ true
one_taken test [] n p h k = absurd cc
one_taken test (x ∷ xs) zero p h k = both (test x) true (subst (λ p. test p ≡ true) (sym (just_is x p h)) k) refl
one_taken test (x ∷ xs) (suc n) p h k = one_taken test xs n p h k

got_below : (lists : Lists) (n : ℕ) (p : PlainPart) → slice_get lists n ≡ Some p → nat_lt n (length lists) ≡ true
got_below [] n p h = absurd cc
got_below (x ∷ xs) zero p h = grind (arith, nat_tests)
got_below (x ∷ xs) (suc n) p h = let k = got_below xs n p h in grind (arith, nat_tests)

module _ (m : ModelPart) where
  abbrev fits_in : Expr → Bool
  fits_in = expression_fits (model_scope m)

  values_fit : (width : ℕ) (rows : List (List Expr)) → Each (RowIn (model_scope m) width) rows → list_all (λ (row : List Expr). (length row == width) && list_all fits_in row) rows ≡ true
  values_fit width [] h = refl
  values_fit width (row ∷ rows) h =
      both ((length row == width) && list_all fits_in row) (list_all (λ (row : List Expr). (length row == width) && list_all fits_in row) rows)
      (both (length row == width) (list_all fits_in row) (eq_of (length row) width h.0.0) h.0.1) (values_fit width rows h.1)

  source_is : (width : ℕ) (x : ListSource) → SourceIn (model_scope m) m.lists width x → source_fits m width x ≡ true
  source_is width (source.Values rows) h = values_fit width rows h
  source_is width (source.Rows n) h =
      both (list_all (λ (p : PlainPart). length p.items.items == width) (take 1 (drop n m.lists))) (nat_lt n (length m.lists))
      (one_taken (λ (p : PlainPart). length p.items.items == width) m.lists n h.plain h.there (eq_of (length h.plain.items.items) width h.wide)) (got_below m.lists n h.plain h.there)

  item_is : (x : LeftItem) → ItemIn (model_scope m) m.lists x → item_fits m x ≡ true
  item_is (item.At e) h = h
  item_is (item.Sym t) h = h
  item_is (item.List from) h = source_is 1 from h
  item_is (item.Steps start stop step down) h = h

  items_are : (xs : List LeftItem) → Each (ItemIn (model_scope m) m.lists) xs → list_all (item_fits m) xs ≡ true
  items_are [] h = refl
  items_are (x ∷ xs) h = both (item_fits m x) (list_all (item_fits m) xs) (item_is x h.0) (items_are xs h.1)

  left_is : (x : Left) → LeftIn (model_scope m) m.lists x → left_fits m x ≡ true
  left_is (left.Places items) h = both (length items == length m.dims) (list_all (item_fits m) items) (eq_of (length items) (length m.dims) h.0) (items_are items h.1)
  left_is (left.Tuples dims from) h = both (numbers_each_once (length m.dims) dims) (source_fits m (length m.dims) from) h.0 (source_is (length m.dims) from h.1)

  rule_is : (r : Rule) → RuleIn (model_scope m) m.lists r → rule_fits m r ≡ true
  rule_is r h =
      let a = nat_lt r.measure (length m.measures) in
      let b = left_fits m r.left in
      let c = list_all (λ (key : ℕ × Bool). nat_lt key.0 (length m.dims)) r.order in
      both (a && b && c) (fits_in r.right) (both (a && b) c (both a b h.measure (left_is r.left h.left_fits)) h.order) h.right

  rules_are : (rs : List Rule) → Each (RuleIn (model_scope m) m.lists) rs → list_all (rule_fits m) rs ≡ true
  rules_are [] h = refl
  rules_are (r ∷ rs) h = both (rule_fits m r) (list_all (rule_fits m) rs) (rule_is r h.0) (rules_are rs h.1)

-- ---- ITERATE
abbrev TurnsFit : Option ℕ → Type 0
TurnsFit None = Unit {0}
TurnsFit (Some n) = (nat_lt 0 n ≡ true) × (nat_le n MAX_TURNS ≡ true)

turns_within : (z : ℤ) (n : ℕ) → (elim z [ pos turns ↦ if nat_lt 0 turns && nat_le turns MAX_TURNS then Some turns else None | negsuc k ↦ None ]) ≡ Some n → TurnsFit (Some n)
turns_within (pos t) n h =
    let c = chosen (nat_lt 0 t && nat_le t MAX_TURNS) t n h in
    subst (λ n. TurnsFit (Some n)) c.1 (left_of (nat_lt 0 t) (nat_le t MAX_TURNS) c.0, right_of (nat_lt 0 t) (nat_le t MAX_TURNS) c.0)
turns_within (negsuc k) n h = absurd cc

asked_turns : (o : Option ℕ) (number : Number) (turns : Option ℕ) → turns_of number ≡ o → ◌≡◌ {A = Result (Option ℕ) Refused} (elim o [ Some turns ↦ Ok (Some turns) | None ↦ Err (limit LIMIT_OF_TURNS) ]) (Ok turns) → TurnsFit turns
asked_turns None number turns e h = absurd cc
asked_turns (Some n) number turns e h = subst TurnsFit (ok_is (Some n) turns h) (turns_within number.mant n e)

turns_are : (o : Option Number) (turns : Option ℕ) → turns_bound o ≡ Ok turns → TurnsFit turns
turns_are None turns h = subst TurnsFit (ok_is None turns h) tt
turns_are (Some n) turns h = asked_turns (turns_of n) n turns refl h

record HeadFits (m : ModelTree) (turns : Option ℕ) : Type 0 where
  few : nat_le (length m.rules) MAX_RULES ≡ true
  turns_fit : TurnsFit turns

head_fits : (m : ModelTree) (turns : Option ℕ) → head_bound m ≡ Ok turns → HeadFits m turns
head_fits m turns h =
    let last : Option ℕ → Result (Option ℕ) Refused = λ turns. refused_where (m.auto && is_some turns) (misuse MISUSE_OF_ITERATE) (Ok turns) in
    let p = passed (options_clash m.main_opts) (misuse MISUSE_OF_OPTIONS) (refused_where (nat_lt MAX_RULES (length m.rules)) (limit LIMIT_OF_RULES) (turns_bound m.iterate >>= last)) turns h in
    let q = passed (nat_lt MAX_RULES (length m.rules)) (limit LIMIT_OF_RULES) (turns_bound m.iterate >>= last) turns p.after in
    let w = went (turns_bound m.iterate) last turns q.after in
    let r = passed (m.auto && is_some w.value) (misuse MISUSE_OF_ITERATE) (Ok w.value) turns w.after in
    record { few = few_of (length m.rules) MAX_RULES q.holds_not; turns_fit = subst TurnsFit (ok_is w.value turns r.after) (turns_are m.iterate w.value w.first) }

iterate_is : (m : ModelPart) (turns : Option ℕ) (until : Option Expr) → m.iterate ≡ iterate_of turns until → TurnsFit turns → fits_if_there (model_scope m) until ≡ true → iterate_fits m ≡ true
iterate_is m None until e t h = ap (λ o. option_map_or (turns_fit m) o true) e
iterate_is m (Some n) until e t h =
    ap (λ o. option_map_or (turns_fit m) o true) e ∙ both (nat_lt 0 n && nat_le n MAX_TURNS) (fits_if_there (model_scope m) until) (both (nat_lt 0 n) (nat_le n MAX_TURNS) t.0 t.1) h

-- ---- the three lists
record ThreeFit (widths : List ℕ) (lists : ModelLists) : Type 0 where
  parts : Each (ListItemFits widths) lists.parts
  dims : Each (ListItemFits widths) lists.dims
  measures : Each (ListItemFits widths) lists.measures
  few_parts : nat_le (length lists.parts) MAX_PARTITION_COLUMNS ≡ true
  few_dims : nat_le (length lists.dims) MAX_DIMENSIONS ≡ true
  few_measures : nat_le (length lists.measures) MAX_MEASURES ≡ true

limited_fit : (widths : List ℕ) (scope : Scope) → RowsFit widths scope → (most number : ℕ) (taken : List Name) (sels : List Sel) → items_literals sels ≡ true → (items : List ListItem)
    → items_limited scope most number taken sels ≡ Ok items → Each (ListItemFits widths) items × (nat_le (length items) most ≡ true)
limited_fit widths scope rows most number taken sels lit items h =
    let w = went (items_listed scope (standing part.Item) taken sels) (limited most number) items h in
    let l = limited_is most number w.value items w.after in
    (subst (Each (ListItemFits widths)) l.0 (listed_fit widths scope (standing part.Item) (item_found widths scope rows) taken sels lit w.value w.first), l.1)

three_fit : (widths : List ℕ) (scope : Scope) → RowsFit widths scope → (m : ModelTree) → items_literals m.parts ≡ true → items_literals m.dims ≡ true → items_literals m.measures ≡ true → (lists : ModelLists)
    → lists_bound scope m ≡ Ok lists → ThreeFit widths lists
three_fit widths scope rows m lp ld lm lists h =
    let made : List ListItem → List ListItem → List ListItem → ModelLists = λ parts dims measures. record { parts = parts; dims = dims; measures = measures } in
    let third : List ListItem → List ListItem → Result ModelLists Refused =
    λ parts dims. items_limited scope MAX_MEASURES LIMIT_OF_MEASURES (list_names parts ++ list_names dims) m.measures >>= (λ measures. Ok (made parts dims measures)) in
    let a = went (items_limited scope MAX_PARTITION_COLUMNS LIMIT_OF_PARTITION_COLUMNS [] m.parts) (λ parts. items_limited scope MAX_DIMENSIONS LIMIT_OF_DIMENSIONS (list_names parts) m.dims >>= third parts) lists h in
    let b = went (items_limited scope MAX_DIMENSIONS LIMIT_OF_DIMENSIONS (list_names a.value) m.dims) (third a.value) lists a.after in
    let c = went (items_limited scope MAX_MEASURES LIMIT_OF_MEASURES (list_names a.value ++ list_names b.value) m.measures) (λ measures. Ok (made a.value b.value measures)) lists b.after in
    let fa = limited_fit widths scope rows MAX_PARTITION_COLUMNS LIMIT_OF_PARTITION_COLUMNS [] m.parts lp a.value a.first in
    let fb = limited_fit widths scope rows MAX_DIMENSIONS LIMIT_OF_DIMENSIONS (list_names a.value) m.dims ld b.value b.first in
    let fc = limited_fit widths scope rows MAX_MEASURES LIMIT_OF_MEASURES (list_names a.value ++ list_names b.value) m.measures lm c.value c.first in
    subst (ThreeFit widths) (ok_is (made a.value b.value c.value) lists c.after) (record { parts = fa.0; dims = fb.0; measures = fc.0; few_parts = fa.1; few_dims = fb.1; few_measures = fc.1 })

-- ---- what rules may name, and what fits by the model that is made
names_within : (catalog : Catalog) (refs : List ReferenceFound) → Each (ReferenceFits catalog) refs → Each ReferenceWithin (map (λ (r : ReferenceFound). r.names) refs)
names_within catalog [] h = tt
names_within catalog (r ∷ refs) h = (h.0.within, names_within catalog refs h.1)

parts_fit : (catalog : Catalog) (refs : List ReferenceFound) → Each (ReferenceFits catalog) refs → list_all (reference_fits catalog) (map (λ (r : ReferenceFound). r.part) refs) ≡ true
parts_fit catalog [] h = refl
parts_fit catalog (r ∷ refs) h = both (reference_fits catalog r.part) (list_all (reference_fits catalog) (map (λ (r : ReferenceFound). r.part) refs)) h.0.fits (parts_fit catalog refs h.1)

same_widths : (catalog : Catalog) (refs : List ReferenceFound) → Each (ReferenceFits catalog) refs
    → map ref_widths (map (λ (r : ReferenceFound). r.names) refs) ≡ map (λ (r : RefPart). (length r.dims, length r.measures)) (map (λ (r : ReferenceFound). r.part) refs)
same_widths catalog [] h = refl
same_widths catalog (r ∷ refs) h = λ i. (sym h.0.dims i, sym h.0.measures i) ∷ same_widths catalog refs h.1 i

columns_kinds : (items : List ListItem) → length (list_columns items) ≡ length (list_kinds items)
columns_kinds items = columns_long items ∙ sym (kinds_long items)

scope_is : (catalog : Catalog) (m : ModelTree) (refs : List ReferenceFound) (lists : ModelLists) (iterates : Bool) (iterate : Option Iterate) (found : List Rule × Lists) → Each (ReferenceFits catalog) refs
    → fit_scope [] (rule_scope refs lists iterates) ≡ model_scope (model_part m refs lists iterate found)
scope_is catalog m refs lists iterates iterate found h = λ i. record {
  columns = [];
  dims = columns_kinds lists.dims i;
  measures = columns_kinds lists.measures i;
  refs = same_widths catalog refs h i;
}

rule_names_within : (catalog : Catalog) (widths : List ℕ) (refs : List ReferenceFound) (lists : ModelLists) (iterates : Bool) → Each (ReferenceFits catalog) refs → ThreeFit widths lists
    → ModelWithin (rule_scope refs lists iterates).model
rule_names_within catalog widths refs lists iterates h three = record {
  dims = columns_named widths lists.dims three.dims;
  measures = columns_named widths lists.measures three.measures;
  refs = names_within catalog refs h;
}

-- ---- the model
record RulesFit (catalog : Catalog) (m : ModelTree) (refs : List ReferenceFound) (lists : ModelLists) (x : ModelPart) : Type 0 where
  iterate : Option Iterate
  found : List Rule × Lists
  is : model_part m refs lists iterate found ≡ x
  rules : list_all (rule_fits (model_part m refs lists iterate found)) found.0 ≡ true
  subqueries : ListsFit catalog found.1
  long : length found.0 ≡ length m.rules
  turns : iterate_fits (model_part m refs lists iterate found) ≡ true

over_fits : (catalog : Catalog) → columns_within catalog ≡ true → (widths : List ℕ) (m : ModelTree) (refs : List ReferenceFound) (lists : ModelLists) (turns : Option ℕ) → list_all rule_literals m.rules ≡ true
    → literals_if_any m.until ≡ true → Each (ReferenceFits catalog) refs → ThreeFit widths lists → TurnsFit turns → (x : ModelPart) → rules_over catalog m refs lists turns (rule_scope refs lists (is_some turns)) ≡ Ok x
    → RulesFit catalog m refs lists x
over_fits catalog within widths m refs lists turns lit_r lit_u h three t x g =
    let scope = rule_scope refs lists (is_some turns) in
    let model = rule_names_within catalog widths refs lists (is_some turns) h three in
    let made : List Rule × Lists → Option Expr → ModelPart = λ found until. model_part m refs lists (iterate_of turns until) found in
    let w = went (rules_bound catalog scope (unwrap_or m.mode mode.Upsert) m.auto m.rules) (λ found. bound_filter scope (standing part.Until) m.until >>= (λ until. Ok (made found until))) x g in
    let v = went (bound_filter scope (standing part.Until) m.until) (λ until. Ok (made w.value until)) x w.after in
    let r = rules_fit catalog within scope model (unwrap_or m.mode mode.Upsert) m.auto m.rules lit_r w.value w.first in
    let u = filter_fits [] scope model (standing part.Until) (tt, tt) refl m.until lit_u v.value v.first in
    let is = scope_is catalog m refs lists (is_some turns) (iterate_of turns v.value) w.value h in
    let all = subst (λ (s : FitScope). Each (RuleIn s w.value.1) w.value.0) is r.0.holds in
    let until = subst (λ (s : FitScope). fits_if_there s v.value ≡ true) is u in
    record {
      iterate = iterate_of turns v.value;
      found = w.value;
      is = ok_is (made w.value v.value) x v.after;
      rules = rules_are (made w.value v.value) w.value.0 all;
      subqueries = r.0.fit;
      long = r.1;
      turns = iterate_is (made w.value v.value) turns v.value refl t until;
    }

pub record ModelFits (catalog : Catalog) (widths : List ℕ) (group : Option (List ColRef)) (found : ModelFound) : Type 0 where
  pub fits : model_fits catalog found.part ≡ true
  pub items : list_all (expression_fits (fit_row_scope widths)) found.items ≡ true
  pub count : length found.items ≡ found.part.parts + length found.part.dims + length found.part.measures
  pub columns : length found.columns ≡ found.part.parts + length found.part.dims + length found.part.measures
  pub within : Each NamedWithin found.columns
  pub group_is : found.group ≡ group

counted : (catalog : Catalog) (widths : List ℕ) (lists : ModelLists) (m : ModelTree) (refs : List ReferenceFound) (iterate : Option Iterate) (found : List Rule × Lists)
    → length (all_items lists) ≡ (model_part m refs lists iterate found).parts + length (model_part m refs lists iterate found).dims + length (model_part m refs lists iterate found).measures
counted catalog widths lists m refs iterate found =
    length-append (lists.parts ++ lists.dims) lists.measures ∙ ap (λ n. n + length lists.measures) (length-append lists.parts lists.dims)
    ∙ (λ i. length lists.parts + sym (kinds_long lists.dims) i + sym (kinds_long lists.measures) i)

part_fits : (catalog : Catalog) (widths : List ℕ) (m : ModelTree) (refs : List ReferenceFound) (lists : ModelLists) (x : ModelPart) → Each (ReferenceFits catalog) refs → nat_le (length refs) MAX_REFERENCES ≡ true
    → ThreeFit widths lists → nat_le (length m.rules) MAX_RULES ≡ true → (r : RulesFit catalog m refs lists x) → model_fits catalog (model_part m refs lists r.iterate r.found) ≡ true
part_fits catalog widths m refs lists x h few three few_rules r =
    let part = model_part m refs lists r.iterate r.found in
    let b1 = nat_le part.parts MAX_PARTITION_COLUMNS in
    let b2 = nat_le (length part.dims) MAX_DIMENSIONS in
    let b3 = nat_le (length part.measures) MAX_MEASURES in
    let k1 = length part.part_kinds == part.parts in
    let k2 = length part.names == length part.measures in
    let b4 = list_all kind_fits (part.part_kinds ++ part.dims ++ part.measures) in
    let b5 = nat_le (length part.rules) MAX_RULES in
    let b6 = nat_le (length part.refs) MAX_REFERENCES in
    let b7 = list_all (reference_fits catalog) part.refs in
    let b8 = list_all (plain_fits catalog) part.lists in
    let b9 = list_all (rule_fits part) part.rules in
    let b10 = iterate_fits part in
    let h2 : b2 ≡ true = ap (λ n. nat_le n MAX_DIMENSIONS) (kinds_long lists.dims) ∙ three.few_dims in
    let h3 : b3 ≡ true = ap (λ n. nat_le n MAX_MEASURES) (kinds_long lists.measures) ∙ three.few_measures in
    let l1 : k1 ≡ true = eq_of (length part.part_kinds) part.parts (kinds_long lists.parts) in
    let l2 : k2 ≡ true = eq_of (length part.names) (length part.measures) (names_long lists.measures ∙ sym (kinds_long lists.measures)) in
    let front : list_all kind_fits (part.part_kinds ++ part.dims) ≡ true =
    list_all-append kind_fits (list_kinds lists.parts) (list_kinds lists.dims)
    ∙ both (list_all kind_fits (list_kinds lists.parts)) (list_all kind_fits (list_kinds lists.dims)) (kinds_fit widths lists.parts three.parts) (kinds_fit widths lists.dims three.dims) in
    let h4 : b4 ≡ true =
    list_all-append kind_fits (list_kinds lists.parts ++ list_kinds lists.dims) (list_kinds lists.measures)
    ∙ both (list_all kind_fits (list_kinds lists.parts ++ list_kinds lists.dims)) (list_all kind_fits (list_kinds lists.measures)) front (kinds_fit widths lists.measures three.measures) in
    let h5 : b5 ≡ true = ap (λ n. nat_le n MAX_RULES) r.long ∙ few_rules in
    let h6 : b6 ≡ true = ap (λ n. nat_le n MAX_REFERENCES) (length-map refs (λ (r : ReferenceFound). r.part)) ∙ few in
    let h8 : b8 ≡ true = all_each (plain_fits catalog) r.found.1 r.subqueries in
    let c2 = both b1 b2 three.few_parts h2 in
    let c3 = both (b1 && b2) b3 c2 h3 in
    let d1 = both (b1 && b2 && b3) k1 c3 l1 in
    let d2 = both (b1 && b2 && b3 && k1) k2 d1 l2 in
    let c4 = both (b1 && b2 && b3 && k1 && k2) b4 d2 h4 in
    let c5 = both (b1 && b2 && b3 && k1 && k2 && b4) b5 c4 h5 in
    let c6 = both (b1 && b2 && b3 && k1 && k2 && b4 && b5) b6 c5 h6 in
    let c7 = both (b1 && b2 && b3 && k1 && k2 && b4 && b5 && b6) b7 c6 (parts_fit catalog refs h) in
    let c8 = both (b1 && b2 && b3 && k1 && k2 && b4 && b5 && b6 && b7) b8 c7 h8 in
    let c9 = both (b1 && b2 && b3 && k1 && k2 && b4 && b5 && b6 && b7 && b8) b9 c8 r.rules in
    both (b1 && b2 && b3 && k1 && k2 && b4 && b5 && b6 && b7 && b8 && b9) b10 c9 r.turns

made_fits : (catalog : Catalog) (widths : List ℕ) (group : Option (List ColRef)) (m : ModelTree) (refs : List ReferenceFound) (lists : ModelLists) (x : ModelPart) → Each (ReferenceFits catalog) refs
    → nat_le (length refs) MAX_REFERENCES ≡ true → ThreeFit widths lists → nat_le (length m.rules) MAX_RULES ≡ true → RulesFit catalog m refs lists x
    → ModelFits catalog widths group (record { part = x; items = list_exprs (all_items lists); columns = list_columns (all_items lists); group = group })
made_fits catalog widths group m refs lists x h few three few_rules r =
    let all = each_append (ListItemFits widths) (lists.parts ++ lists.dims) lists.measures (each_append (ListItemFits widths) lists.parts lists.dims three.parts three.dims) three.measures in
    let n = counted catalog widths lists m refs r.iterate r.found in
    subst (λ (x : ModelPart). ModelFits catalog widths group (record { part = x; items = list_exprs (all_items lists); columns = list_columns (all_items lists); group = group })) r.is (record {
      fits = part_fits catalog widths m refs lists x h few three few_rules r;
      items = exprs_fit widths (all_items lists) all;
      count = exprs_long (all_items lists) ∙ n;
      columns = columns_long (all_items lists) ∙ n;
      within = columns_named widths (all_items lists) all;
      group_is = refl;
    })

-- the literals of a MODEL clause
record ModelLits (m : ModelTree) : Type 0 where
  refs : list_all reference_literals m.refs ≡ true
  parts : items_literals m.parts ≡ true
  dims : items_literals m.dims ≡ true
  measures : items_literals m.measures ≡ true
  rules : list_all rule_literals m.rules ≡ true
  until : literals_if_any m.until ≡ true

model_lits : (m : ModelTree) → model_literals m ≡ true → ModelLits m
model_lits m lit =
    let a = list_all reference_literals m.refs in
    let b = items_literals m.parts in
    let c = items_literals m.dims in
    let d = items_literals m.measures in
    let e = list_all rule_literals m.rules in
    let f = literals_if_any m.until in
    let l5 = left_of (a && b && c && d && e) f lit in
    let l4 = left_of (a && b && c && d) e l5 in
    let l3 = left_of (a && b && c) d l4 in
    let l2 = left_of (a && b) c l3 in
    record {
      refs = left_of a b l2;
      parts = right_of a b l2;
      dims = right_of (a && b) c l3;
      measures = right_of (a && b && c) d l4;
      rules = right_of (a && b && c && d) e l5;
      until = right_of (a && b && c && d && e) f lit;
    }

pub model_fit : (catalog : Catalog) → columns_within catalog ≡ true → (widths : List ℕ) (scope : Scope) → RowsFit widths scope → (m : ModelTree) → model_literals m ≡ true → (found : ModelFound)
    → model_over catalog scope m ≡ Ok found → ModelFits catalog widths scope.group found
model_fit catalog within widths scope rows m lit found h =
    let lits = model_lits m lit in
    let around = ignores_nav m.opts false in
    let next : List ReferenceFound → Result ModelFound Refused = λ refs. lists_and_rules catalog scope.group scope m refs in
    let p = passed (options_clash m.opts) (misuse MISUSE_OF_OPTIONS) (references_bound catalog around m.refs >>= next) found h in
    let w = went (references_bound catalog around m.refs) next found p.after in
    let refs = references_fit catalog within around m.refs lits.refs w.value w.first in
    let made : ModelLists → ModelPart → ModelFound = λ lists x. record { part = x; items = list_exprs (all_items lists); columns = list_columns (all_items lists); group = scope.group } in
    let rest : ModelLists → Option ℕ → Result ModelFound Refused = λ lists turns. rules_over catalog m w.value lists turns (rule_scope w.value lists (is_some turns)) >>= (λ x. Ok (made lists x)) in
    let a = went (lists_bound scope m) (λ lists. head_bound m >>= rest lists) found w.after in
    let b = went (head_bound m) (rest a.value) found a.after in
    let c = went (rules_over catalog m w.value a.value b.value (rule_scope w.value a.value (is_some b.value))) (λ x. Ok (made a.value x)) found b.after in
    let three = three_fit widths scope rows m lits.parts lits.dims lits.measures a.value a.first in
    let head = head_fits m b.value b.first in
    let r = over_fits catalog within widths m w.value a.value b.value lits.rules lits.until refs.0 three head.turns_fit c.value c.first in
    subst (ModelFits catalog widths scope.group) (ok_is (made a.value c.value) found c.after) (made_fits catalog widths scope.group m w.value a.value c.value refs.0 refs.1 three head.few r)
