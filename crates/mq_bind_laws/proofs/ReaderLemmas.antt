-- A query that is bound reads each table that it was bound by.
use Rattle.std.proofs.Common.{◌≡◌, inl, ℕ, List, [], ◌∷◌, ◌++◌, map, length, Bool, true, false, not, ◌&&◌, ◌||◌, Option, Some, None, Result, Ok, refl, ap, ◌∙◌}
use Rattle.std.specs.Prelude.{is_some, unwrap_or}
use Rattle.std.specs.List.{flat_map, list_all, list_any}
use Rattle.std.proofs.lemmas.List.Concat.{flat_map-append}
use Rattle.mq_lexer.specs.Words.{folded}
use Rattle.mq_values.specs.declared.faults.Refused.{Refused}
use Rattle.mq_values.specs.declared.operators.Mode.{Mode}
use Rattle.mq_values.specs.declared.operators.Mode.TheVariants as mode
use Rattle.mq_ast.specs.declared.queries.ForList.{ForList}
use Rattle.mq_ast.specs.declared.queries.ForList.TheVariants as for_list
use Rattle.mq_ast.specs.declared.queries.FromItem.{FromItem}
use Rattle.mq_ast.specs.declared.queries.LeftPlace.{LeftPlace}
use Rattle.mq_ast.specs.declared.queries.LeftPlace.TheVariants as place
use Rattle.mq_ast.specs.declared.queries.LeftTree.{LeftTree}
use Rattle.mq_ast.specs.declared.queries.LeftTree.TheVariants as tree
use Rattle.mq_ast.specs.declared.queries.ModelTree.{ModelTree}
use Rattle.mq_ast.specs.declared.queries.Plain.{Plain}
use Rattle.mq_ast.specs.declared.queries.Query.{Query}
use Rattle.mq_ast.specs.declared.queries.RefTree.{RefTree}
use Rattle.mq_ast.specs.declared.queries.RuleTree.{RuleTree}
use Rattle.mq_ir.specs.declared.catalog.Catalog.{Catalog}
use Rattle.mq_ir.specs.declared.query.ColRef.{ColRef}
use Rattle.mq_ir.specs.declared.query.FromPart.{FromPart}
use Rattle.mq_ir.specs.declared.query.Left.TheVariants as left
use Rattle.mq_ir.specs.declared.query.LeftItem.{LeftItem}
use Rattle.mq_ir.specs.declared.query.LeftItem.TheVariants as item
use Rattle.mq_ir.specs.declared.query.ModelPart.{ModelPart}
use Rattle.mq_ir.specs.declared.query.PlainPart.{PlainPart}
use Rattle.mq_ir.specs.declared.query.RefPart.{RefPart}
use Rattle.mq_ir.specs.declared.query.Rule.{Rule}
use Rattle.mq_ir.specs.declared.expression.Test.TheVariants as test
use Rattle.mq_ir.specs.declared.statement.Schema.{Schema}
use Rattle.mq_ir.specs.Results.{◌>>=◌, each, each_in_turn}
use Rattle.mq_ir.specs.Statement.{tables_of_model, tables_read}
use Rattle.mq_ir.specs.Tables.{is_name}
use Rattle.mq_binder.specs.declared.found.Base.{Base}
use Rattle.mq_binder.specs.declared.found.LeftFound.{LeftFound}
use Rattle.mq_binder.specs.declared.found.ListFound.{ListFound}
use Rattle.mq_binder.specs.declared.found.Lists.{Lists}
use Rattle.mq_binder.specs.declared.found.ModelFound.{ModelFound}
use Rattle.mq_binder.specs.declared.found.PlainFound.{PlainFound}
use Rattle.mq_binder.specs.declared.found.ReferenceFound.{ReferenceFound}
use Rattle.mq_binder.specs.declared.found.Sources.{Sources}
use Rattle.mq_bind_scopes.specs.declared.kinds.ExprKind.{ExprKind}
use Rattle.mq_bind_scopes.specs.declared.misuse_numbers.TheConstants.{MISUSE_OF_FOR, MISUSE_OF_PLACE_COUNT}
use Rattle.mq_bind_scopes.specs.declared.scopes.Owner.TheVariants as owner
use Rattle.mq_bind_scopes.specs.declared.scopes.Part.TheVariants as part
use Rattle.mq_bind_scopes.specs.declared.scopes.Scope.{Scope}
use Rattle.mq_bind_expr.specs.ExpressionWalk.{bound_filter}
use Rattle.mq_bind_scopes.specs.Names.{Name, called}
use Rattle.mq_bind_scopes.specs.Misuses.{other_place_count}
use Rattle.mq_bind_scopes.specs.Positions.{place_kind, standing}
use Rattle.mq_bind_scopes.specs.Refusals.{duplicate_name, kind_mismatch, misuse, refused_where}
use Rattle.mq_bind_expr.specs.Steps.{each_behind, each_from}
use Rattle.mq_binder.specs.ForWalk.{for_checked, has_width, list_bound, names_place, row_fits, rows_found, value_row, values_found}
use Rattle.mq_binder.specs.FromWalk.{alias_of, base_of, base_over, grouped_by, grouping, item_seen, no_sources, on_bound, row_scope, sources_of, table_called, with_item}
use Rattle.mq_binder.specs.LeftWalk.{expression_place, kind_called, left_bound, left_place, left_places, names_each, numbers_called, steps_place, tuples_found, with_lists}
use Rattle.mq_bind_scopes.specs.Options.{ignores_nav}
use Rattle.mq_bind_scopes.specs.Heads.{head_bound}
use Rattle.mq_binder.specs.ModelWalk.{iterate_of, lists_and_rules, lists_bound, model_group, model_over, model_part, rule_scope, rules_over}
use Rattle.mq_binder.specs.PlainWalk.{items_over, plain_bound, plain_of, plain_over}
use Rattle.mq_binder.specs.QueryWalk.{few_shown, model_key, model_query, model_rows, plain_query, printed_key, query_bound, query_with, shown_scope}
use Rattle.mq_binder.specs.ReferenceWalk.{dims_listed, lists_over, measures_listed, reference_bound, reference_name, reference_of, references_bound}
use Rattle.mq_binder.specs.RuleWalk.{left_order, right_bound, rule_behind, rule_bound, rule_of, rules_bound}
use Rattle.mq_bind_laws.proofs.ReadStepLemmas.{GivesReader, KeptOrReads, Reads, behind_kept, gives_behind, gives_ok, gives_on, gives_then, kept_behind, kept_first, kept_reader, kept_rest, kept_same, kept_then, numbered_kept, numbered_read, reads_left, reads_right, turns_kept, with_kept}

-- ---- the tables that parts read
abbrev from_seen : Sources → List Name
from_seen seen = seen.tables

abbrev from_base : Base → List Name
from_base base = base.from.tables

abbrev from_plain : PlainFound → List Name
from_plain found = found.part.from.tables

abbrev from_lists : List PlainPart → List Name
from_lists = flat_map (λ (list : PlainPart). list.from.tables)

abbrev from_list : ListFound → List Name
from_list found = from_lists found.lists

abbrev from_place : LeftItem × List PlainPart → List Name
from_place found = from_lists found.1

abbrev from_left : LeftFound → List Name
from_left found = from_lists found.lists

abbrev from_rule : Rule × List PlainPart → List Name
from_rule found = from_lists found.1

abbrev from_rules : List Rule × List PlainPart → List Name
from_rules found = from_lists found.1

abbrev from_reference : ReferenceFound → List Name
from_reference found = found.part.source.from.tables

abbrev from_references : List ReferenceFound → List Name
from_references = flat_map from_reference

abbrev from_parts : List RefPart → List Name
from_parts = flat_map (λ (r : RefPart). r.source.from.tables)

abbrev from_model : ModelFound → List Name
from_model found = tables_of_model found.part

parts_of : (refs : List ReferenceFound) → from_parts (map (λ (r : ReferenceFound). r.part) refs) ≡ from_references refs
parts_of [] = refl
parts_of (r ∷ rs) = ap (λ names. r.part.source.from.tables ++ names) (parts_of rs)

-- under each other name there is the same table
abbrev pub SameButFor : Name → Catalog → Catalog → Type 0
SameButFor name before after = (n : Name) → is_name name n ≡ false → table_called after n ≡ table_called before n

module _ (name : Name) (before after : Catalog) (tables : SameButFor name before after) where
  -- ---- the rows of a query, and a query without MODEL
  item_reads : (item : FromItem) (seen : Sources) → Reads name (seen.tables ++ folded item.table ∷ []) → GivesReader name from_seen (item_seen before item seen)
  item_reads item seen d =
      gives_then name from_seen (table_called before (folded item.table)) _ (λ schema.
      gives_behind name from_seen _ _ _ (gives_ok name from_seen (with_item seen item schema) d))

  item_kept : (item : FromItem) (seen : Sources) → KeptOrReads name from_seen (item_seen before item seen) (item_seen after item seen)
  item_kept item seen = by (is_name name (folded item.table)) refl
    where
      rest : Schema → Result Sources Refused
      rest schema = refused_where (list_any (is_name (alias_of item)) seen.aliases) (duplicate_name (alias_of item)) (Ok (with_item seen item schema))

      by : (b : Bool) → is_name name (folded item.table) ≡ b → KeptOrReads name from_seen (item_seen before item seen) (item_seen after item seen)
      by true e = kept_reader name from_seen (item_seen before item seen) (item_seen after item seen)
          (item_reads item seen (reads_right name seen.tables (folded item.table ∷ []) (ap (λ b. b || false) e)))
      by false e = λ y h. inl (ap (λ (r : Result Schema Refused). r >>= rest) (tables (folded item.table) e) ∙ h)

  sources_kept : (froms : List FromItem) → KeptOrReads name from_seen (sources_of before froms) (sources_of after froms)
  sources_kept froms =
      kept_first name from_seen from_seen (each_in_turn (item_seen before) froms no_sources) (each_in_turn (item_seen after) froms no_sources) _
      (turns_kept name from_seen (item_seen before) (item_seen after) item_kept (λ item seen d. item_reads item seen (reads_left name seen.tables (folded item.table ∷ []) d)) froms no_sources)
      (λ seen d. gives_behind name from_seen _ _ _ (gives_ok name from_seen seen d))

  base_reads : (p : Plain) (seen : List Name) (scope : Scope) → Reads name seen → GivesReader name from_base (base_over p seen scope)
  base_reads p seen scope d =
      gives_then name from_base (each_from (on_bound scope) 0 p.froms) _ (λ ons.
      gives_then name from_base (bound_filter scope (standing part.Row) p.filter) _ (λ filter.
      gives_then name from_base (each (grouping scope) p.group) _ (λ cols.
      gives_ok name from_base (record { from = record { tables = seen; ons = ons; filter = filter }; scope = scope; cols = cols }) d)))

  base_kept : (p : Plain) → KeptOrReads name from_base (base_of before p) (base_of after p)
  base_kept p =
      kept_first name from_seen from_base (sources_of before p.froms) (sources_of after p.froms) _ (sources_kept p.froms)
      (λ seen d. base_reads p seen.tables (row_scope seen.aliases seen.columns) d)

  plain_reads : (p : Plain) (base : Base) (group : Option (List ColRef)) → Reads name base.from.tables → GivesReader name from_plain (plain_over p base group)
  plain_reads p base group d =
      gives_then name from_plain (items_over p (grouped_by group base.scope)) _ (λ items. gives_ok name from_plain (plain_of base.from group items) d)

  plain_kept : (p : Plain) → KeptOrReads name from_plain (plain_bound before p) (plain_bound after p)
  plain_kept p = kept_first name from_base from_plain (base_of before p) (base_of after p) _ (base_kept p) (λ base d. plain_reads p base _ d)

  -- ---- left sides and rules
  list_reads : (lists : List PlainPart) (found : PlainFound) → Reads name (from_lists lists ++ from_lists (found.part ∷ [])) → Reads name (from_list (rows_found lists found))
  list_reads lists found d = ap (list_any (is_name name)) (flat_map-append (λ (list : PlainPart). list.from.tables) lists (found.part ∷ [])) ∙ d

  list_kept : (scope : Scope) (lists : List PlainPart) (l : ForList) → KeptOrReads name from_list (list_bound before scope lists l) (list_bound after scope lists l)
  list_kept scope lists (for_list.Values rows) = kept_same name from_list _
  list_kept scope lists (for_list.Rows p) =
      kept_first name from_plain from_list (plain_bound before p) (plain_bound after p) _ (plain_kept p)
      (λ found d. gives_ok name from_list (rows_found lists found) (list_reads lists found (reads_right name (from_lists lists) (from_lists (found.part ∷ [])) (reads_left name found.part.from.tables [] d))))

  list_on : (scope : Scope) (lists : List PlainPart) (l : ForList) → Reads name (from_lists lists) → GivesReader name from_list (list_bound before scope lists l)
  list_on scope lists (for_list.Values rows) d = gives_then name from_list (each (value_row scope) rows) _ (λ found. gives_ok name from_list (values_found lists found) d)
  list_on scope lists (for_list.Rows p) d =
      gives_then name from_list (plain_bound before p) _
      (λ found. gives_ok name from_list (rows_found lists found) (list_reads lists found (reads_left name (from_lists lists) (from_lists (found.part ∷ [])) d)))

  for_on : (dims : List (Option ExprKind)) (is_named : Bool) (found : ListFound) → Reads name (from_list found) → GivesReader name from_list (for_checked dims is_named found)
  for_on dims is_named found d =
      gives_behind name from_list (not (list_all (row_fits dims) found.kinds)) kind_mismatch _
      (gives_behind name from_list (not (is_named && list_all (has_width (length dims)) found.kinds)) (misuse MISUSE_OF_FOR) (Ok found) (gives_ok name from_list found d))

  checked_kept : (scope : Scope) (lists : List PlainPart) (l : ForList) (dims : List (Option ExprKind)) (is_named : Bool)
      → KeptOrReads name from_list (list_bound before scope lists l >>= for_checked dims is_named) (list_bound after scope lists l >>= for_checked dims is_named)
  checked_kept scope lists l dims is_named =
      kept_first name from_list from_list (list_bound before scope lists l) (list_bound after scope lists l) (for_checked dims is_named) (list_kept scope lists l) (for_on dims is_named)

  checked_on : (scope : Scope) (lists : List PlainPart) (l : ForList) (dims : List (Option ExprKind)) (is_named : Bool) → Reads name (from_lists lists)
      → GivesReader name from_list (list_bound before scope lists l >>= for_checked dims is_named)
  checked_on scope lists l dims is_named d =
      gives_on name from_list from_list (list_bound before scope lists l) (for_checked dims is_named) (list_on scope lists l d) (for_on dims is_named)

  place_kept : (scope : Scope) (n : ℕ) (lists : List PlainPart) (p : LeftPlace) → KeptOrReads name from_place (left_place before scope n lists p) (left_place after scope n lists p)
  place_kept scope n lists place.Any = kept_same name from_place _
  place_kept scope n lists (place.Expr e) = kept_same name from_place _
  place_kept scope n lists (place.ForIn dim list) =
      kept_first name from_list from_place _ _ _ (checked_kept scope lists list (place_kind scope owner.Main n ∷ []) (names_place scope n dim))
      (λ found d. gives_ok name from_place (with_lists found.lists (item.List found.source)) d)
  place_kept scope n lists (place.ForRange dim start stop step down) = kept_same name from_place _

  place_on : (scope : Scope) (n : ℕ) (lists : List PlainPart) (p : LeftPlace) → Reads name (from_lists lists) → GivesReader name from_place (left_place before scope n lists p)
  place_on scope n lists place.Any d = gives_ok name from_place (with_lists lists (item.Sym test.Any)) d
  place_on scope n lists (place.Expr e) d = gives_then name from_place (expression_place scope n e) _ (λ i. gives_ok name from_place (with_lists lists i) d)
  place_on scope n lists (place.ForIn dim list) d =
      gives_on name from_list from_place _ _ (checked_on scope lists list (place_kind scope owner.Main n ∷ []) (names_place scope n dim) d)
      (λ found h. gives_ok name from_place (with_lists found.lists (item.List found.source)) h)
  place_on scope n lists (place.ForRange dim start stop step down) d =
      gives_then name from_place (steps_place scope n dim down start stop step) _ (λ i. gives_ok name from_place (with_lists lists i) d)

  tuples_on : (numbers : Option (List ℕ)) (found : ListFound) → Reads name (from_list found) → GivesReader name from_left (tuples_found numbers found)
  tuples_on numbers found d = gives_then name from_left _ _ (λ ns. gives_ok name from_left (record { left = left.Tuples ns found.source; lists = found.lists }) d)

  places_on : (scope : Scope) (found : List LeftItem × List PlainPart) → Reads name (from_lists found.1) → GivesReader name from_left (Ok (record { left = left.Places found.0; lists = found.1 }))
  places_on scope found d = gives_ok name from_left (record { left = left.Places found.0; lists = found.1 }) d

  left_kept : (scope : Scope) (lists : List PlainPart) (l : LeftTree) → KeptOrReads name from_left (left_bound before scope lists l) (left_bound after scope lists l)
  left_kept scope lists (tree.Places ps) =
      kept_first name (λ (y : List LeftItem × List PlainPart). from_lists y.1) from_left (left_places before scope lists ps) (left_places after scope lists ps) _
      (numbered_kept name from_lists (left_place before scope) (left_place after scope) (place_kept scope) (place_on scope) ps 0 lists)
      (λ found d. gives_behind name from_left (other_place_count scope owner.Main (length found.0)) (misuse MISUSE_OF_PLACE_COUNT) _ (places_on scope found d))
  left_kept scope lists (tree.Tuples dims list) =
      kept_first name from_list from_left _ _ _ (checked_kept scope lists list (map (kind_called scope) dims) (names_each scope (numbers_called scope dims)))
      (tuples_on (numbers_called scope dims))

  left_on : (scope : Scope) (lists : List PlainPart) (l : LeftTree) → Reads name (from_lists lists) → GivesReader name from_left (left_bound before scope lists l)
  left_on scope lists (tree.Places ps) d =
      gives_on name (λ (y : List LeftItem × List PlainPart). from_lists y.1) from_left (left_places before scope lists ps) _
      (numbered_read name from_lists (left_place before scope) (left_place after scope) (place_kept scope) (place_on scope) ps 0 lists d)
      (λ found h. gives_behind name from_left (other_place_count scope owner.Main (length found.0)) (misuse MISUSE_OF_PLACE_COUNT) _ (places_on scope found h))
  left_on scope lists (tree.Tuples dims list) d =
      gives_on name from_list from_left _ _ (checked_on scope lists list (map (kind_called scope) dims) (names_each scope (numbers_called scope dims)) d)
      (tuples_on (numbers_called scope dims))

  behind_on : (scope : Scope) (mode : Mode) (auto : Bool) (r : RuleTree) (measure : ℕ × ExprKind) (l : LeftFound) → Reads name (from_left l) → GivesReader name from_rule (rule_behind scope mode auto r measure l)
  behind_on scope mode auto r measure l d =
      gives_then name from_rule (left_order scope auto l.left r.order) _ (λ order.
      gives_then name from_rule (right_bound scope measure.1 r) _ (λ right.
      gives_ok name from_rule (rule_of mode r measure.0 l.left order right, l.lists) d))

  rule_kept : (scope : Scope) (mode : Mode) (auto : Bool) (lists : List PlainPart) (r : RuleTree) → KeptOrReads name from_rule (rule_bound before scope mode auto lists r) (rule_bound after scope mode auto lists r)
  rule_kept scope mode auto lists r =
      kept_rest name from_rule (called (folded r.measure) scope.model.measures) _ _
      (λ measure. kept_first name from_left from_rule (left_bound before scope lists r.left) (left_bound after scope lists r.left) _ (left_kept scope lists r.left) (behind_on scope mode auto r measure))

  rule_on : (scope : Scope) (mode : Mode) (auto : Bool) (lists : List PlainPart) (r : RuleTree) → Reads name (from_lists lists) → GivesReader name from_rule (rule_bound before scope mode auto lists r)
  rule_on scope mode auto lists r d =
      gives_then name from_rule (called (folded r.measure) scope.model.measures) _
      (λ measure. gives_on name from_left from_rule (left_bound before scope lists r.left) _ (left_on scope lists r.left d) (behind_on scope mode auto r measure))

  rules_kept : (scope : Scope) (mode : Mode) (auto : Bool) (rules : List RuleTree) → KeptOrReads name from_rules (rules_bound before scope mode auto rules) (rules_bound after scope mode auto rules)
  rules_kept scope mode auto rules =
      with_kept name from_lists (rule_bound before scope mode auto) (rule_bound after scope mode auto) (rule_kept scope mode auto) (rule_on scope mode auto) rules []

  -- ---- references and a MODEL clause
  reference_on : (around : Bool) (r : RefTree) (source : PlainFound) (scope : Scope) → Reads name (from_plain source) → GivesReader name from_reference (lists_over around r source scope)
  reference_on around r source scope d =
      gives_then name from_reference (dims_listed r scope) _ (λ dims.
      gives_then name from_reference (measures_listed r dims scope) _ (λ measures.
      gives_behind name from_reference _ _ _ (gives_ok name from_reference (reference_of around r source dims measures) d)))

  reference_kept : (around : Bool) (earlier : List Name) (r : RefTree) → KeptOrReads name from_reference (reference_bound before around earlier r) (reference_bound after around earlier r)
  reference_kept around earlier r =
      kept_behind name from_reference _ _ _ _ (
      kept_first name from_plain from_reference (plain_bound before r.query) (plain_bound after r.query) _ (plain_kept r.query) (λ source d. reference_on around r source _ d))

  references_kept : (around : Bool) (rs : List RefTree) → KeptOrReads name from_references (references_bound before around rs) (references_bound after around rs)
  references_kept around rs =
      kept_first name from_references from_references
      (each_behind (reference_bound before around) reference_name [] rs) (each_behind (reference_bound after around) reference_name [] rs) _
      (behind_kept name from_reference (reference_bound before around) (reference_bound after around) reference_name (reference_kept around) rs [])
      (λ refs d. gives_behind name from_references _ _ _ (gives_ok name from_references refs d))

  rules_over_kept : (m : ModelTree) (refs : List ReferenceFound) (lists : Lists) (turns : Option ℕ) (scope : Scope)
      → KeptOrReads name tables_of_model (rules_over before m refs lists turns scope) (rules_over after m refs lists turns scope)
  rules_over_kept m refs lists turns scope =
      kept_first name from_rules tables_of_model _ _ _ (rules_kept scope (unwrap_or m.mode mode.Upsert) m.auto m.rules)
      (λ found d. gives_then name tables_of_model (bound_filter scope (standing part.Until) m.until) _
      (λ until. gives_ok name tables_of_model (model_part m refs lists (iterate_of turns until) found)
      (reads_right name (from_parts (map (λ (r : ReferenceFound). r.part) refs)) (from_lists found.1) d)))

  rules_over_on : (m : ModelTree) (refs : List ReferenceFound) (lists : Lists) (turns : Option ℕ) (scope : Scope) → Reads name (from_references refs)
      → GivesReader name tables_of_model (rules_over before m refs lists turns scope)
  rules_over_on m refs lists turns scope d =
      gives_then name tables_of_model (rules_bound before scope (unwrap_or m.mode mode.Upsert) m.auto m.rules) _
      (λ (found : List Rule × List PlainPart). gives_then name tables_of_model (bound_filter scope (standing part.Until) m.until) _
      (λ until. gives_ok name tables_of_model (model_part m refs lists (iterate_of turns until) found)
      (reads_left name (from_parts (map (λ (r : ReferenceFound). r.part) refs)) (from_lists found.1) (ap (list_any (is_name name)) (parts_of refs) ∙ d))))

  model_gives : (group : Option (List ColRef)) (lists : Lists) (p : ModelPart) (items : ModelFound) → items.part ≡ p → Reads name (tables_of_model p) → GivesReader name from_model (Ok items)
  model_gives group lists p items e d = gives_ok name from_model items (ap (λ (x : ModelPart). list_any (is_name name) (tables_of_model x)) e ∙ d)

  lists_and_rules_kept : (group : Option (List ColRef)) (scope : Scope) (m : ModelTree) (refs : List ReferenceFound)
      → KeptOrReads name from_model (lists_and_rules before group scope m refs) (lists_and_rules after group scope m refs)
  lists_and_rules_kept group scope m refs =
      kept_rest name from_model (lists_bound scope m) _ _ (λ lists.
      kept_rest name from_model (head_bound m) _ _ (λ turns.
      kept_first name tables_of_model from_model
      (rules_over before m refs lists turns (rule_scope refs lists (is_some turns))) (rules_over after m refs lists turns (rule_scope refs lists (is_some turns))) _
      (rules_over_kept m refs lists turns (rule_scope refs lists (is_some turns)))
      (λ p d. model_gives group lists p _ refl d)))

  lists_and_rules_on : (group : Option (List ColRef)) (scope : Scope) (m : ModelTree) (refs : List ReferenceFound) → Reads name (from_references refs)
      → GivesReader name from_model (lists_and_rules before group scope m refs)
  lists_and_rules_on group scope m refs d =
      gives_then name from_model (lists_bound scope m) _ (λ lists.
      gives_then name from_model (head_bound m) _ (λ turns.
      gives_on name tables_of_model from_model (rules_over before m refs lists turns (rule_scope refs lists (is_some turns))) _
      (rules_over_on m refs lists turns (rule_scope refs lists (is_some turns)) d)
      (λ p h. model_gives group lists p _ refl h)))

  model_kept : (scope : Scope) (m : ModelTree) → KeptOrReads name from_model (model_over before scope m) (model_over after scope m)
  model_kept scope m =
      kept_behind name from_model _ _ _ _ (
      kept_then name from_references from_model (references_bound before (ignores_nav m.opts false) m.refs) (references_bound after (ignores_nav m.opts false) m.refs) _ _
      (references_kept (ignores_nav m.opts false) m.refs) (lists_and_rules_kept scope.group scope m) (lists_and_rules_on scope.group scope m))

  -- ---- a query
  plain_query_reads : (q : Query) (found : PlainFound) → Reads name (from_plain found) → GivesReader name tables_read (plain_query q found)
  plain_query_reads q found d = gives_then name tables_read (each (printed_key found.printed) q.order) _ (λ order. gives_ok name tables_read _ (reads_left name found.part.from.tables [] d))

  model_query_reads : (q : Query) (from : FromPart) (scope : Scope) (found : ModelFound) → Reads name (from.tables ++ from_model found) → GivesReader name tables_read (model_query q from scope found)
  model_query_reads q from scope found d =
      gives_then name tables_read (few_shown q (shown_scope scope found)) _ (λ print.
      gives_then name tables_read (each (model_key found.columns) q.order) _ (λ order. gives_ok name tables_read _ d))

  model_rows_kept : (q : Query) (m : ModelTree) (from : FromPart) (scope : Scope) → KeptOrReads name tables_read (model_rows before q m from scope) (model_rows after q m from scope)
  model_rows_kept q m from scope =
      kept_first name from_model tables_read (model_over before scope m) (model_over after scope m) _ (model_kept scope m)
      (λ found d. model_query_reads q from scope found (reads_right name from.tables (from_model found) d))

  model_rows_on : (q : Query) (m : ModelTree) (from : FromPart) (scope : Scope) → Reads name from.tables → GivesReader name tables_read (model_rows before q m from scope)
  model_rows_on q m from scope d =
      gives_then name tables_read (model_over before scope m) _ (λ found. model_query_reads q from scope found (reads_left name from.tables (from_model found) d))

  with_model_kept : (q : Query) (m : Option ModelTree) → KeptOrReads name tables_read (query_with before q m) (query_with after q m)
  with_model_kept q None = kept_first name from_plain tables_read (plain_bound before q.plain) (plain_bound after q.plain) _ (plain_kept q.plain) (plain_query_reads q)
  with_model_kept q (Some m) =
      kept_then name from_base tables_read (base_of before q.plain) (base_of after q.plain) _ _ (base_kept q.plain)
      (λ base. model_rows_kept q m base.from (grouped_by (model_group m base) base.scope))
      (λ base. model_rows_on q m base.from (grouped_by (model_group m base) base.scope))

  pub query_kept : (q : Query) → KeptOrReads name tables_read (query_bound before q) (query_bound after q)
  query_kept q = with_model_kept q q.model
