-- What comes of dropping a table.
use Rattle.std.proofs.Common.{◌≡◌, ℕ, List, [], ◌∷◌, not, Option, Some, None, Result, Ok, Err, refl, sym, ap, subst, ◌∙◌}
use Rattle.std.specs.List.{filter}
use Rattle.std.specs.Option.{option_map, option_map_or}
use Rattle.mq_values.specs.declared.faults.Refused.{Refused}
use Rattle.mq_values.specs.declared.faults.Refused.TheVariants as refused
use Rattle.mq_ir.specs.declared.catalog.Catalog.{Catalog}
use Rattle.mq_ir.specs.declared.catalog.Scenario.{Scenario}
use Rattle.mq_ir.specs.declared.catalog.View.{View}
use Rattle.mq_ir.specs.Lines.{Done}
use Rattle.mq_ir.specs.Statement.{Printed, State, drop_table, first_changer, first_reader, unless_refused, use_of}
use Rattle.mq_ir.specs.Tables.{Table, Tables, is_name}
use Rattle.mq_engine.specs.Catalogs.{state_of, user_of}

module _ (tables : Tables) (k : Catalog) (state : State) (is : state_of tables k ≡ state) (table : List ℕ) where
  abbrev others : Tables
  others = filter (λ (t : Table). not (is_name table t.name)) tables

  abbrev left : Tables → Result Printed Refused
  left after = Ok (state_of after k, Done ∷ [])

  -- the refusal has the name of what uses the table
  use_is : use_of (state_of tables k) table ≡ option_map refused.InUse (user_of k table)
  use_is = by (first_reader k.views table) (first_changer k.scenarios table)
    where
      by : (reader : Option View) (changer : Option Scenario)
          → option_map_or (λ (view : View). Some (refused.InUse view.name)) reader (option_map (λ (s : Scenario). refused.InUse s.name) changer)
          ≡ option_map refused.InUse (option_map_or (λ (view : View). Some view.name) reader (option_map (λ (s : Scenario). s.name) changer))
      by (Some view) changer = refl
      by None (Some s) = refl
      by None None = refl

  drop_is : (user : Option (List ℕ)) → user ≡ user_of k table → drop_table state table ≡ unless_refused (option_map refused.InUse user) (left others)
  drop_is user h =
      subst (λ (s : State). drop_table s table ≡ unless_refused (option_map refused.InUse user) (left others)) is
      (ap (λ (o : Option Refused). unless_refused o (left others)) (use_is ∙ ap (option_map refused.InUse) (sym h)))

  -- a table that something uses, and one that nothing uses
  pub drop_refused : (user : List ℕ) → Some user ≡ user_of k table → drop_table state table ≡ Err (refused.InUse user)
  drop_refused user h = drop_is (Some user) h

  pub dropped : (after : Tables) → None ≡ user_of k table → after ≡ others → drop_table state table ≡ left after
  dropped after h a = drop_is None h ∙ ap left (sym a)

-- a table that nothing uses is not refused
pub not_refused : (state : State) (table : List ℕ) (r : Refused) → drop_table state table ≡ Err r → use_of state table ≡ None → ⊥
not_refused state table r e none =
    let done : Printed = (record state { tables = filter (λ (t : Table). not (is_name table t.name)) state.tables }, Done ∷ []) in
    let d : drop_table state table ≡ Ok done = ap (λ (o : Option Refused). unless_refused o (Ok done)) none in
    let clash : Ok done ≡ Err r = sym d ∙ e in
    absurd cc
