-- A cell that is looked for near a place.
use Rattle.std.proofs.Common.{◌≡◌, ℕ, ◌+◌, Bool, true, false, ◌||◌, cond, List, [], ◌∷◌, get_or, Some, None, Ordering, Less, Equal, Greater, refl, sym, ◌∙◌}
use Rattle.std.specs.BTreeMap.{is_at}
use Rattle.std.specs.List.{list_any, position_from}
use Rattle.std.specs.Ordering.{is_eq}
use Rattle.std.proofs.lemmas.Iterator.Adapters.{position_from-zero}
use Rattle.std.proofs.lemmas.List.Quantifiers.{position-Some}
use Rattle.mq_values.specs.Order.{cmp_key}
use Rattle.mq_values.specs.OrderTells.{same_key}
use Rattle.mq_values.specs.declared.value.Value.TheVariants.{Null}
use Rattle.mq_ir.specs.Keys.{Tuple}
use Rattle.mq_ir.specs.declared.query.CellName.{CellName}
use Rattle.mq_dim_index.specs.Places.{is_there, place_of}
use Rattle.mq_cells.specs.IndexedStores.{IndexedStore, input_in, results_of, value_in}

equal_is : (r : Ordering) → is_eq r ≡ true → r ≡ Equal
equal_is Less h = cc
equal_is Equal h = refl
equal_is Greater h = cc

-- the key at its place
pub at_place : (keys : List Tuple) (key : Tuple) (at : ℕ) → place_of keys key ≡ Some at → get_or keys at [] ≡ key
at_place keys key at e =
    let found = position-Some (is_at (cmp_key key)) keys at [] e in
    sym (same_key key (get_or keys at []) (equal_is (cmp_key key (get_or keys at [])) found.1))

nowhere : (test : Tuple → Bool) (i : ℕ) (keys : List Tuple) → position_from test i keys ≡ None → list_any test keys ≡ false
nowhere test i [] h = refl
nowhere test i (k ∷ ks) h = by (test k) h (λ g. nowhere test (i + 1) ks g)
  where
    by : (b : Bool) → cond b (Some i) (position_from test (i + 1) ks) ≡ None → (position_from test (i + 1) ks ≡ None → list_any test ks ≡ false) → (b || list_any test ks) ≡ false
    by true h rest = cc
    by false h rest = rest h

-- a key that has no place is not there
pub absent : (keys : List Tuple) (key : Tuple) → place_of keys key ≡ None → is_there keys key ≡ false
absent keys key e = nowhere (is_at (cmp_key key)) 0 keys (sym (position_from-zero (is_at (cmp_key key)) keys) ∙ e)

-- where neither the input nor a result has a measure it is worth nothing
pub worth_nothing : (store : IndexedStore) (c : CellName) → input_in store c.key ≡ None → results_of store c ≡ None → value_in store c ≡ Null
worth_nothing store c i r = cc
