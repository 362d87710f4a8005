-- Without a table each query that does not read it is bound as before.
use Rattle.std.proofs.Common.{◌≡◌, ◌⊎◌, inl, inr, List, [], ◌∷◌, cond, Bool, true, false, not, Option, Some, Ok, refl, sym, ap, ◌∙◌}
use Rattle.std.specs.List.{filter, find}
use Rattle.std.specs.Option.{ok_or, option_map}
use Rattle.mq_ast.specs.declared.queries.Query.{Query}
use Rattle.mq_ir.specs.declared.catalog.Catalog.{Catalog}
use Rattle.mq_ir.specs.declared.catalog.TableEntry.{TableEntry}
use Rattle.mq_ir.specs.declared.query.BoundQuery.{BoundQuery}
use Rattle.mq_ir.specs.Statement.{tables_read}
use Rattle.mq_ir.specs.Tables.{is_name}
use Rattle.mq_bind_scopes.specs.Names.{Name}
use Rattle.mq_bind_scopes.specs.Refusals.{unknown_name}
use Rattle.mq_binder.specs.QueryWalk.{query_bound}
use Rattle.mq_bind_laws.specs.DroppedTables.{QueryOutlastsTable, without_table}
use Rattle.mq_bind_laws.proofs.ReaderLemmas.{SameButFor, query_kept}
use Rattle.mq_bind_laws.proofs.ReadStepLemmas.{Reads}
use Rattle.mq_bind_laws.proofs.TableLemmas.{has_name, name_is}

abbrev is_other : Name → TableEntry → Bool
is_other name t = not (is_name name t.name)

found_among : (name other : Name) → is_name name other ≡ false → (xs : List TableEntry) → find (has_name other) (filter (is_other name) xs) ≡ find (has_name other) xs
found_among name other h [] = refl
found_among name other h (x ∷ xs) = by (is_name name x.name) refl (found_among name other h xs)
  where
    by : (b : Bool) → is_name name x.name ≡ b → find (has_name other) (filter (is_other name) xs) ≡ find (has_name other) xs
        → find (has_name other) (cond (not b) (x ∷ filter (is_other name) xs) (filter (is_other name) xs)) ≡ cond (has_name other x) (Some x) (find (has_name other) xs)
    by true e rest =
        let n : has_name other x ≡ false = ap (λ (m : Name). is_name m other) (sym (name_is name x.name e)) ∙ h in
        rest ∙ sym (ap (λ b. cond b (Some x) (find (has_name other) xs)) n)
    by false e rest = ap (λ (o : Option TableEntry). cond (has_name other x) (Some x) o) rest

same_but_for : (catalog : Catalog) (name : Name) → SameButFor name catalog (without_table catalog name)
same_but_for catalog name other h =
    ap (λ (o : Option TableEntry). ok_or (option_map (λ (entry : TableEntry). entry.schema) o) (unknown_name other)) (found_among name other h catalog.tables)

pub query_outlasts_table : (catalog : Catalog) (name : Name) (q : Query) (b : BoundQuery) → QueryOutlastsTable catalog name q b
query_outlasts_table catalog name q b h n = by (query_kept name catalog (without_table catalog name) (same_but_for catalog name) q b h)
  where
    by : (query_bound (without_table catalog name) q ≡ Ok b) ⊎ Reads name (tables_read b) → query_bound (without_table catalog name) q ≡ Ok b
    by (inl e) = e
    by (inr d) = absurd (let f : true ≡ false = sym d ∙ n in cc)
