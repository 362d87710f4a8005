-- Rows whose keys a change does not alter.
use Rattle.std.proofs.Common.{◌≡◌, ℕ, ◌+◌, List, [], ◌∷◌, Bool, true, false, not, ◌||◌, Option, map, Result, Ok, Err, refl, sym, ap, ◌∙◌}
use Rattle.std.specs.Prelude.{slice_get, slice_index_or, slice_set, nat_eq}
use Rattle.std.specs.List.{enumerate_from, list_all, list_any}
use Rattle.std.specs.Option.{option_map_or}
use Rattle.std.proofs.lemmas.Bool.{eqb-false}
use Rattle.std.proofs.lemmas.List.{get_or-set_other}
use Rattle.mq_values.specs.declared.faults.Refused.{Refused}
use Rattle.mq_values.specs.declared.value.Value.{Value}
use Rattle.mq_values.specs.declared.value.Value.TheVariants.{Null}
use Rattle.mq_ir.specs.declared.expression.Expr.{Expr}
use Rattle.mq_ir.specs.declared.statement.Schema.{Schema}
use Rattle.mq_ir.specs.Changes.{Visited, column_value, is_chosen, row_key, set_values, updated_row, with_values}
use Rattle.mq_ir.specs.Keys.{Tuple}
use Rattle.mq_ir.specs.Results.{◌>>=◌, each}
use Rattle.mq_tables.specs.Columns.{spares_key}
use Rattle.mq_tables.proofs.FitLemmas.{and_left, and_right, both_true, each_cons, each_nil}

abbrev is_spared : List ℕ → ℕ → Bool
is_spared key column = not (list_any (nat_eq column) key)

not_true : (b : Bool) → not b ≡ true → b ≡ false
not_true false h = refl
not_true true h = absurd (cc)

either_false : (a b : Bool) → (a || b) ≡ false → (a ≡ false) × (b ≡ false)
either_false true b h = absurd (cc)
either_false false b h = (refl, h)

-- a column that the key has not
one_set : (key : List ℕ) (row : Tuple) (c : ℕ) (v : Value) → list_any (nat_eq c) key ≡ false
    → map (λ k. slice_index_or (slice_set row c v) k Null) key ≡ map (λ k. slice_index_or row k Null) key
one_set [] row c v h = refl
one_set (k ∷ key) row c v h =
    let p = either_false (nat_eq c k) (list_any (nat_eq c) key) h in
    let first : slice_index_or (slice_set row c v) k Null ≡ slice_index_or row k Null = get_or-set_other row c k v Null (λ e. eqb-false c k p.0 (sym e)) in
    let rest = one_set key row c v p.1 in
    λ i. first i ∷ rest i

all_set : (schema : Schema) (row : Tuple) (values : List (ℕ × Value)) → list_all (λ set. is_spared schema.key set.0) values ≡ true → row_key schema (with_values row values) ≡ row_key schema row
all_set schema row [] h = refl
all_set schema row ((c, v) ∷ values) h =
    all_set schema (slice_set row c v) values (and_right (is_spared schema.key c) (list_all (λ set. is_spared schema.key set.0) values) h)
    ∙ one_set schema.key row c v (not_true (list_any (nat_eq c) schema.key) (and_left (is_spared schema.key c) (list_all (λ set. is_spared schema.key set.0) values) h))

-- the values that are set stand for the columns that SET names
column_is : (r : Result Value Refused) (c : ℕ) (y : ℕ × Value) → (r >>= (λ v. Ok (c, v))) ≡ Ok y → y.0 ≡ c
column_is (Ok v) c y h = let q : (c, v) ≡ y = cc in ap (λ z. z.0) (sym q)
column_is (Err e) c y h = absurd (cc)

columns_set : (p : ℕ → Bool) (f : ℕ × Expr → Result Value Refused) (sets : List (ℕ × Expr)) (values : List (ℕ × Value)) → list_all (λ set. p set.0) sets ≡ true
    → each (λ set. f set >>= (λ v. Ok (set.0, v))) sets ≡ Ok values → list_all (λ set. p set.0) values ≡ true
columns_set p f [] values h e = each_nil (λ set. f set >>= (λ v. Ok (set.0, v))) values (λ values. list_all (λ set. p set.0) values ≡ true) e refl
columns_set p f (set ∷ sets) values h e =
    each_cons (λ set. f set >>= (λ v. Ok (set.0, v))) set sets values (λ values. list_all (λ set. p set.0) values ≡ true) e (λ y ys a b.
    both_true (p y.0) (list_all (λ set. p set.0) ys) (ap p (column_is (f set) set.0 y a) ∙ and_left (p set.0) (list_all (λ set. p set.0) sets) h)
    (columns_set p f sets ys (and_right (p set.0) (list_all (λ set. p set.0) sets) h) b))

pub row_spared : (schema : Schema) (sets : List (ℕ × Expr)) (filter : Option Expr) → spares_key sets schema.key ≡ true
    → (n : ℕ) (row : Tuple) (v : Visited) → updated_row schema sets filter (n, row) ≡ Ok v → row_key schema v.0 ≡ row_key schema row
row_spared schema sets filter s n row v h = by (is_chosen filter (n, row)) h
  where
    found : ℕ × Expr → Result Value Refused
    found = λ set. option_map_or (λ col. column_value (row ∷ []) n col set.1) (slice_get schema.cols set.0) (Ok Null)

    chosen : (r : Result (List (ℕ × Value)) Refused) → set_values schema sets (n, row) ≡ r → (r >>= (λ values. Ok (with_values row values, true))) ≡ Ok v → row_key schema v.0 ≡ row_key schema row
    chosen (Ok values) e g =
        let q : (with_values row values, true) ≡ v = cc in
        ap (λ (w : Visited). row_key schema w.0) (sym q) ∙ all_set schema row values (columns_set (is_spared schema.key) found sets values s e)
    chosen (Err d) e g = absurd (cc)

    by : (r : Result Bool Refused) → (r >>= (λ chosen. elim chosen [ true ↦ set_values schema sets (n, row) >>= (λ values. Ok (with_values row values, true)) | false ↦ Ok (row, false) ])) ≡ Ok v
        → row_key schema v.0 ≡ row_key schema row
    by (Ok true) g = chosen (set_values schema sets (n, row)) refl g
    by (Ok false) g = let q : (row, false) ≡ v = cc in ap (λ (w : Visited). row_key schema w.0) (sym q)
    by (Err d) g = absurd (cc)

pub rows_spared : (key : Tuple → Tuple) (f : ℕ × Tuple → Result Visited Refused) → ((n : ℕ) (row : Tuple) (v : Visited) → f (n, row) ≡ Ok v → key v.0 ≡ key row)
    → (n : ℕ) (xs : List Tuple) (vs : List Visited) → each f (enumerate_from n xs) ≡ Ok vs → map key (map (λ row. row.0) vs) ≡ map key xs
rows_spared key f s n [] vs h = each_nil f vs (λ vs. map key (map (λ row. row.0) vs) ≡ []) h refl
rows_spared key f s n (x ∷ xs) vs h =
    each_cons f (n, x) (enumerate_from (n + 1) xs) vs (λ vs. map key (map (λ row. row.0) vs) ≡ map key (x ∷ xs)) h (λ v rest e g.
    let first = s n x v e in
    let others = rows_spared key f s (n + 1) xs rest g in
    λ i. first i ∷ others i)
