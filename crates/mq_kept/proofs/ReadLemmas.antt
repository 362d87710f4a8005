-- The tables that a query reads, searched.
use Rattle.std.proofs.Common.{◌≡◌, ℕ, List, [], ◌∷◌, Bool, ◌||◌, refl, ap, ◌∙◌}
use Rattle.std.specs.List.{flat_map, list_any}
use Rattle.std.specs.Option.{option_map_or}
use Rattle.std.proofs.lemmas.List.Folds.{list_any-append}
use Rattle.mq_ir.specs.declared.query.BoundQuery.{BoundQuery}
use Rattle.mq_ir.specs.declared.query.ModelPart.{ModelPart}
use Rattle.mq_ir.specs.declared.query.PlainPart.{PlainPart}
use Rattle.mq_ir.specs.declared.query.RefPart.{RefPart}
use Rattle.mq_ir.specs.Statement.{tables_of_model, tables_read}

any_flat : {X A : Type 0} (p : A → Bool) (f : X → List A) (xs : List X) → list_any p (flat_map f xs) ≡ list_any (λ x. list_any p (f x)) xs
any_flat p f [] = refl
any_flat p f (x ∷ xs) = list_any-append p (f x) (flat_map f xs) ∙ ap (λ b. list_any p (f x) || b) (any_flat p f xs)

module _ (p : List ℕ → Bool) where
  pub query_uses : (q : BoundQuery) → list_any p (tables_read q) ≡ (list_any p q.from.tables || list_any p (option_map_or tables_of_model q.model []))
  query_uses q = list_any-append p q.from.tables (option_map_or tables_of_model q.model [])

  pub model_uses : (part : ModelPart)
      → list_any p (tables_of_model part) ≡ (list_any (λ (r : RefPart). list_any p r.source.from.tables) part.refs || list_any (λ (list : PlainPart). list_any p list.from.tables) part.lists)
  model_uses part =
      let of_reference : RefPart → List (List ℕ) = λ r. r.source.from.tables in
      let of_list : PlainPart → List (List ℕ) = λ list. list.from.tables in
      list_any-append p (flat_map of_reference part.refs) (flat_map of_list part.lists)
      ∙ (λ i. any_flat p of_reference part.refs i || any_flat p of_list part.lists i)
