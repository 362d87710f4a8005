-- A query looks at the catalog where its FROM items name tables, and nowhere else.
use Rattle.std.proofs.Common.{inl, ℕ, List, [], Bool, false, Option, Some, None, refl}
use Rattle.std.specs.Prelude.{is_some}
use Rattle.mq_lexer.specs.Words.{folded}
use Rattle.mq_values.specs.declared.operators.Mode.{Mode}
use Rattle.mq_ast.specs.declared.queries.ForList.{ForList}
use Rattle.mq_ast.specs.declared.queries.ForList.TheVariants as for_list
use Rattle.mq_ast.specs.declared.queries.FromItem.{FromItem}
use Rattle.mq_ast.specs.declared.queries.LeftPlace.{LeftPlace}
use Rattle.mq_ast.specs.declared.queries.LeftPlace.TheVariants as place
use Rattle.mq_ast.specs.declared.queries.LeftTree.{LeftTree}
use Rattle.mq_ast.specs.declared.queries.LeftTree.TheVariants as tree
use Rattle.mq_ast.specs.declared.queries.ModelTree.{ModelTree}
use Rattle.mq_ast.specs.declared.queries.Plain.{Plain}
use Rattle.mq_ast.specs.declared.queries.Query.{Query}
use Rattle.mq_ast.specs.declared.queries.RefTree.{RefTree}
use Rattle.mq_ast.specs.declared.queries.RuleTree.{RuleTree}
use Rattle.mq_ir.specs.declared.catalog.Catalog.{Catalog}
use Rattle.mq_ir.specs.declared.query.ColRef.{ColRef}
use Rattle.mq_ir.specs.declared.query.FromPart.{FromPart}
use Rattle.mq_ir.specs.declared.query.PlainPart.{PlainPart}
use Rattle.mq_ir.specs.Results.{each_in_turn}
use Rattle.mq_binder.specs.declared.found.ReferenceFound.{ReferenceFound}
use Rattle.mq_binder.specs.declared.found.Lists.{Lists}
use Rattle.mq_binder.specs.declared.found.Sources.{Sources}
use Rattle.mq_bind_scopes.specs.declared.scopes.Scope.{Scope}
use Rattle.mq_bind_scopes.specs.Names.{Name, called}
use Rattle.mq_bind_expr.specs.Steps.{each_behind}
use Rattle.mq_binder.specs.ForWalk.{list_bound}
use Rattle.mq_binder.specs.FromWalk.{base_of, grouped_by, item_seen, no_sources, sources_of, table_called}
use Rattle.mq_binder.specs.LeftWalk.{left_bound, left_place, left_places}
use Rattle.mq_bind_scopes.specs.Options.{ignores_nav}
use Rattle.mq_bind_scopes.specs.Heads.{head_bound}
use Rattle.mq_binder.specs.ModelWalk.{lists_and_rules, lists_bound, model_group, model_over, rule_scope, rules_over}
use Rattle.mq_binder.specs.PlainWalk.{plain_bound}
use Rattle.mq_binder.specs.QueryWalk.{model_rows, query_bound, query_with}
use Rattle.mq_binder.specs.ReferenceWalk.{reference_bound, reference_name, references_bound}
use Rattle.mq_binder.specs.RuleWalk.{rule_bound, rules_bound}
use Rattle.mq_bind_laws.specs.FurtherTable.{StaysUnlessUnknown}
use Rattle.mq_bind_laws.proofs.StepLemmas.{behind_stay, first_stays, numbered_stay, rest_stays, test_stays, then_stays, turns_stay, with_stay}

-- tables are found as before under each name
abbrev pub TablesStay : Name → Catalog → Catalog → Type 0
TablesStay name before after = (n : Name) → StaysUnlessUnknown name (table_called before n) (table_called after n)

module _ (name : Name) (before after : Catalog) (tables : TablesStay name before after) where
  -- ---- the rows of a query, and a query without MODEL
  item_stays : (item : FromItem) (seen : Sources) → StaysUnlessUnknown name (item_seen before item seen) (item_seen after item seen)
  item_stays item seen = first_stays name (table_called before (folded item.table)) (table_called after (folded item.table)) _ (tables (folded item.table))

  sources_stay : (froms : List FromItem) → StaysUnlessUnknown name (sources_of before froms) (sources_of after froms)
  sources_stay froms =
      first_stays name (each_in_turn (item_seen before) froms no_sources) (each_in_turn (item_seen after) froms no_sources) _
      (turns_stay name (item_seen before) (item_seen after) item_stays froms no_sources)

  base_stays : (p : Plain) → StaysUnlessUnknown name (base_of before p) (base_of after p)
  base_stays p = first_stays name (sources_of before p.froms) (sources_of after p.froms) _ (sources_stay p.froms)

  plain_stays : (p : Plain) → StaysUnlessUnknown name (plain_bound before p) (plain_bound after p)
  plain_stays p = first_stays name (base_of before p) (base_of after p) _ (base_stays p)

  -- ---- left sides and rules
  list_stays : (scope : Scope) (lists : List PlainPart) (l : ForList) → StaysUnlessUnknown name (list_bound before scope lists l) (list_bound after scope lists l)
  list_stays scope lists (for_list.Values rows) = inl refl
  list_stays scope lists (for_list.Rows p) = first_stays name (plain_bound before p) (plain_bound after p) _ (plain_stays p)

  place_stays : (scope : Scope) (n : ℕ) (lists : List PlainPart) (p : LeftPlace) → StaysUnlessUnknown name (left_place before scope n lists p) (left_place after scope n lists p)
  place_stays scope n lists place.Any = inl refl
  place_stays scope n lists (place.Expr e) = inl refl
  place_stays scope n lists (place.ForIn dim list) =
      first_stays name _ _ _ (first_stays name (list_bound before scope lists list) (list_bound after scope lists list) _ (list_stays scope lists list))
  place_stays scope n lists (place.ForRange dim start stop step down) = inl refl

  places_stay : (scope : Scope) (lists : List PlainPart) (ps : List LeftPlace) → StaysUnlessUnknown name (left_places before scope lists ps) (left_places after scope lists ps)
  places_stay scope lists ps = numbered_stay name (left_place before scope) (left_place after scope) (place_stays scope) ps 0 lists

  left_stays : (scope : Scope) (lists : List PlainPart) (l : LeftTree) → StaysUnlessUnknown name (left_bound before scope lists l) (left_bound after scope lists l)
  left_stays scope lists (tree.Places ps) = first_stays name (left_places before scope lists ps) (left_places after scope lists ps) _ (places_stay scope lists ps)
  left_stays scope lists (tree.Tuples dims list) =
      first_stays name _ _ _ (first_stays name (list_bound before scope lists list) (list_bound after scope lists list) _ (list_stays scope lists list))

  rule_stays : (scope : Scope) (mode : Mode) (auto : Bool) (lists : List PlainPart) (r : RuleTree) → StaysUnlessUnknown name (rule_bound before scope mode auto lists r) (rule_bound after scope mode auto lists r)
  rule_stays scope mode auto lists r =
      rest_stays name (called (folded r.measure) scope.model.measures) _ _
      (λ measure. first_stays name (left_bound before scope lists r.left) (left_bound after scope lists r.left) _ (left_stays scope lists r.left))

  rules_stay : (scope : Scope) (mode : Mode) (auto : Bool) (rules : List RuleTree) → StaysUnlessUnknown name (rules_bound before scope mode auto rules) (rules_bound after scope mode auto rules)
  rules_stay scope mode auto rules = with_stay name (rule_bound before scope mode auto) (rule_bound after scope mode auto) (rule_stays scope mode auto) rules []

  -- ---- references and a MODEL clause
  reference_stays : (around : Bool) (earlier : List Name) (r : RefTree) → StaysUnlessUnknown name (reference_bound before around earlier r) (reference_bound after around earlier r)
  reference_stays around earlier r =
      test_stays name _ _ _ _ (first_stays name (plain_bound before r.query) (plain_bound after r.query) _ (plain_stays r.query))

  references_stay : (around : Bool) (rs : List RefTree) → StaysUnlessUnknown name (references_bound before around rs) (references_bound after around rs)
  references_stay around rs =
      first_stays name (each_behind (reference_bound before around) reference_name [] rs) (each_behind (reference_bound after around) reference_name [] rs) _
      (behind_stay name (reference_bound before around) (reference_bound after around) reference_name (reference_stays around) rs [])

  rules_over_stay : (m : ModelTree) (refs : List ReferenceFound) (lists : Lists) (turns : Option ℕ) (scope : Scope)
      → StaysUnlessUnknown name (rules_over before m refs lists turns scope) (rules_over after m refs lists turns scope)
  rules_over_stay m refs lists turns scope = first_stays name _ _ _ (rules_stay scope _ m.auto m.rules)

  lists_and_rules_stay : (group : Option (List ColRef)) (scope : Scope) (m : ModelTree) (refs : List ReferenceFound)
      → StaysUnlessUnknown name (lists_and_rules before group scope m refs) (lists_and_rules after group scope m refs)
  lists_and_rules_stay group scope m refs =
      rest_stays name (lists_bound scope m) _ _
      (λ lists. rest_stays name (head_bound m) _ _
      (λ turns. first_stays name (rules_over before m refs lists turns (rule_scope refs lists (is_some turns))) (rules_over after m refs lists turns (rule_scope refs lists (is_some turns))) _
      (rules_over_stay m refs lists turns (rule_scope refs lists (is_some turns)))))

  model_stays : (scope : Scope) (m : ModelTree) → StaysUnlessUnknown name (model_over before scope m) (model_over after scope m)
  model_stays scope m =
      test_stays name _ _ _ _
      (then_stays name (references_bound before (ignores_nav m.opts false) m.refs) (references_bound after (ignores_nav m.opts false) m.refs) _ _
      (references_stay (ignores_nav m.opts false) m.refs) (lists_and_rules_stay scope.group scope m))

  -- ---- a query
  model_rows_stay : (q : Query) (m : ModelTree) (from : FromPart) (scope : Scope) → StaysUnlessUnknown name (model_rows before q m from scope) (model_rows after q m from scope)
  model_rows_stay q m from scope = first_stays name (model_over before scope m) (model_over after scope m) _ (model_stays scope m)

  with_model_stays : (q : Query) (m : Option ModelTree) → StaysUnlessUnknown name (query_with before q m) (query_with after q m)
  with_model_stays q None = first_stays name (plain_bound before q.plain) (plain_bound after q.plain) _ (plain_stays q.plain)
  with_model_stays q (Some m) =
      then_stays name (base_of before q.plain) (base_of after q.plain) _ _ (base_stays q.plain)
      (λ base. model_rows_stay q m base.from (grouped_by (model_group m base) base.scope))

  pub query_stays : (q : Query) → StaysUnlessUnknown name (query_bound before q) (query_bound after q)
  query_stays q = with_model_stays q q.model
