-- EXPLAIN CELL: the model, the values that name a place, and what is found there.
use Rattle.std.proofs.Common.{◌≡◌, ℕ, ◌<◌, ◌≤◌, List, [], ◌∷◌, length, get_or, Option, Some, None, Result, Ok, Err, refl, sym, ap, ◌∙◌, subst, arith}
use Rattle.std.proofs.lemmas.Slice.Zip.{get_or-zip, length-zip}
use Rattle.std.specs.List.{find, zip}
use Rattle.std.specs.Option.{ok_or, option_and_then}
use Rattle.mq_values.specs.Answers.{Gives}
use Rattle.mq_values.specs.declared.faults.Refused.{Refused}
use Rattle.mq_values.specs.declared.faults.Refused.TheVariants as refused
use Rattle.mq_values.specs.declared.memory.Fail.{Fail}
use Rattle.mq_values.specs.declared.memory.Fail.TheVariants as fail
use Rattle.mq_values.specs.declared.value.Kind.{Kind}
use Rattle.mq_ir.specs.declared.catalog.Catalog.{Catalog}
use Rattle.mq_ir.specs.declared.catalog.View.{View}
use Rattle.mq_ir.specs.declared.expression.Expr.{Expr}
use Rattle.mq_ir.specs.declared.query.CellName.{CellName}
use Rattle.mq_ir.specs.declared.query.Explained.{Explained}
use Rattle.mq_ir.specs.declared.query.ModelPart.{ModelPart}
use Rattle.mq_ir.specs.declared.statement.CellAsked.{CellAsked}
use Rattle.mq_ir.specs.Explaining.{explain_step, explained_over, explanation, place_values}
use Rattle.mq_ir.specs.Names.{model_of}
use Rattle.mq_ir.specs.Partitions.{Tuple}
use Rattle.mq_ir.specs.Results.{◌>>=◌}
use Rattle.mq_ir.specs.Statement.{Printed, State, view_at}
use Rattle.mq_engine.specs.declared.views.NoView.{NoView}
use Rattle.mq_engine.specs.Catalogs.{catalog_of}
use Rattle.mq_engine.specs.Sessions.{view_explained}
use Rattle.mq_tool.specs.Steps.{Takes}
use Rattle.mq_tool.proofs.CatalogLemmas.{same_found}

-- ---- what is explained, step by step

module _ (state : State) (asked : CellAsked) where
  abbrev unknown : Refused
  unknown = refused.UnknownName asked.view

  abbrev none_of : NoView
  none_of = record { name = asked.view }

  abbrev called : Tuple → CellName
  called cell = record { key = cell; measure = asked.measure }

  abbrev at_cell : View → ModelPart → Tuple → Tuple → Result Printed Refused
  at_cell view part key cell = explanation state part key cell (explained_over state.tables view.query part key (called cell))

  abbrev at_key : View → ModelPart → Tuple → Result Printed Refused
  at_key view part key = place_values part.dims asked.cell >>= at_cell view part key

  abbrev at_model : View → ModelPart → Result Printed Refused
  at_model view part = place_values part.part_kinds asked.part >>= at_key view part

  abbrev at_view : View → Result Printed Refused
  at_view view = ok_or view.query.model unknown >>= at_model view

  abbrev step_by : Option View → Result Printed Refused
  step_by o = ok_or o unknown >>= at_view

  abbrev model_by : Option View → Option ModelPart
  model_by o = option_and_then (λ (v : View). v.query.model) o

  abbrev found_by : Option View → Tuple → CellName → Result Explained NoView
  found_by o key c = ok_or o none_of >>= (λ (v : View). ok_or v.query.model none_of >>= (λ part. Ok (explained_over state.tables v.query part key c)))

  found_model : (o : Option ModelPart) → o ≡ model_of (catalog_of state) asked.view → o ≡ model_by (view_at state asked.view)
  found_model o h = h ∙ ap model_by (sym (same_found (λ (v : View). v.name) state.views asked.view))

  -- the model that the catalog gives
  pub model_seen : (catalog : Catalog) (name : List ℕ) (o : Option ModelPart) → o ≡ model_of catalog name → catalog ≡ catalog_of state → name ≡ asked.view
      → o ≡ model_of (catalog_of state) asked.view
  model_seen catalog name o h k n = h ∙ ap (λ (c : Catalog). model_of c name) k ∙ ap (model_of (catalog_of state)) n

  -- there is no such view, or it has no model
  pub no_model : None ≡ model_of (catalog_of state) asked.view → explain_step state asked ≡ Err unknown
  no_model h = by (view_at state asked.view) (found_model None h)
    where
      by : (o : Option View) → None ≡ model_by o → step_by o ≡ Err unknown
      by None e = refl
      by (Some v) e = ap (λ (m : Option ModelPart). ok_or m unknown >>= at_model v) (sym e)

  module _ (part : ModelPart) (h : Some part ≡ model_of (catalog_of state) asked.view) where
    -- the first value that names the partition has a fault, or the first that names the cell
    pub no_key : (r : Refused) → place_values part.part_kinds asked.part ≡ Err r → explain_step state asked ≡ Err r
    no_key r k = by (view_at state asked.view) (found_model (Some part) h)
      where
        by : (o : Option View) → Some part ≡ model_by o → step_by o ≡ Err r
        by None e = absurd cc
        by (Some v) e =
            ap (λ (m : Option ModelPart). ok_or m unknown >>= at_model v) (sym e)
            ∙ ap (λ (t : Result Tuple Refused). t >>= at_key v part) k

    module _ (key : Tuple) (k : place_values part.part_kinds asked.part ≡ Ok key) where
      with_key : (v : View) → Some part ≡ v.query.model → at_view v ≡ at_key v part key
      with_key v e =
          ap (λ (m : Option ModelPart). ok_or m unknown >>= at_model v) (sym e)
          ∙ ap (λ (t : Result Tuple Refused). t >>= at_key v part) k

      pub no_place : (r : Refused) → place_values part.dims asked.cell ≡ Err r → explain_step state asked ≡ Err r
      no_place r c = by (view_at state asked.view) (found_model (Some part) h)
        where
          by : (o : Option View) → Some part ≡ model_by o → step_by o ≡ Err r
          by None e = absurd cc
          by (Some v) e = with_key v e ∙ ap (λ (t : Result Tuple Refused). t >>= at_cell v part key) c

      module _ (cell : Tuple) (c : place_values part.dims asked.cell ≡ Ok cell) where
        -- what is found of the cell
        pub found_there : (x : Explained) → view_explained state asked.view key (called cell) ≡ Ok x → explain_step state asked ≡ explanation state part key cell x
        found_there x f = by (view_at state asked.view) (found_model (Some part) h) f
          where
            by : (o : Option View) → Some part ≡ model_by o → found_by o key (called cell) ≡ Ok x → step_by o ≡ explanation state part key cell x
            by None e g = absurd cc
            by (Some v) e g =
                let over : Explained = explained_over state.tables v.query part key (called cell) in
                let there : Result Explained NoView = Ok over in
                let given : Result Explained NoView = Ok x in
                let same : there ≡ given =
                ap (λ (m : Option ModelPart). ok_or m none_of >>= (λ part. Ok (explained_over state.tables v.query part key (called cell)))) e ∙ g in
                let is : over ≡ x = cc in
                with_key v e ∙ ap (λ (t : Result Tuple Refused). t >>= at_cell v part key) c ∙ ap (explanation state part key cell) is

        -- and there is such a view
        pub is_found : (none : NoView) → view_explained state asked.view key (called cell) ≡ Err none → ⊥
        is_found none f = by (view_at state asked.view) (found_model (Some part) h) f
          where
            by : (o : Option View) → Some part ≡ model_by o → found_by o key (called cell) ≡ Err none → ⊥
            by None e g = absurd cc
            by (Some v) e g =
                let there : Result Explained NoView = Ok (explained_over state.tables v.query part key (called cell)) in
                let given : Result Explained NoView = Err none in
                let same : there ≡ given =
                ap (λ (m : Option ModelPart). ok_or m none_of >>= (λ part. Ok (explained_over state.tables v.query part key (called cell)))) e ∙ g in
                absurd cc

-- a step that gave no value, whose refusal is the statement's
pub refuses : {A : Type 0} (inner : Result A Refused) (meant : Result Printed Refused) (state : State) (before : List ℕ) (e : Fail Refused) → Gives {T = A} (Err e) inner
    → ((r : Refused) → inner ≡ Err r → meant ≡ Err r) → Takes meant state state before before (Err e)
refuses inner meant state before fail.Memory g h = tt
refuses inner meant state before (fail.Cause r) g h = (h r g, refl, refl)

-- ---- the values that name a place

module _ (kinds : List Kind) (es : List Expr) where
  pub in_pairs : (i : ℕ) → i < length kinds → i < length es → i < length (zip kinds es)
  in_pairs i within less = omega (arith, within, less, length-zip kinds es)

  pub pair_there : (i : ℕ) (k : Kind) (e : Expr) → i < length kinds → k ≡ get_or kinds i k → i < length es → e ≡ get_or es i e
      → (k, e) ≡ get_or (zip kinds es) i (k, e)
  pair_there i k e within is less at = (λ j. (is j, at j)) ∙ sym (get_or-zip kinds es i (k, e) within less)

  pub pairs_end : (i : ℕ) → length es ≤ i → length (zip kinds es) ≤ i
  pairs_end i h = omega (arith, h, length-zip kinds es)

  pub pairs_stop : (i : ℕ) → length kinds ≤ i → length (zip kinds es) ≤ i
  pairs_stop i h = omega (arith, h, length-zip kinds es)
