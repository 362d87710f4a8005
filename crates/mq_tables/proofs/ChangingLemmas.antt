-- What a change makes of rows where they stand.
use Rattle.std.proofs.Common.{◌≡◌, ℕ, zero, suc, ◌+◌, List, [], ◌∷◌, ◌++◌, Bool, true, false, length, map, set, Result, Ok, Err, refl, sym, ap, ◌∙◌, arith, append_assoc, length-append}
use Rattle.std.specs.Prelude.{if◌then◌else◌, Option}
use Rattle.std.specs.List.{enumerate_from, filter, zip}
use Rattle.std.proofs.lemmas.List.{length-map}
use Rattle.std.proofs.lemmas.List.FromFn.{length-enumerate_from}
use Rattle.mq_values.specs.Answers.{Gives}
use Rattle.mq_values.specs.declared.faults.Refused.{Refused}
use Rattle.mq_values.specs.declared.memory.Fail.{Fail}
use Rattle.mq_values.specs.declared.value.Value.{Value}
use Rattle.mq_ir.specs.declared.expression.Expr.{Expr}
use Rattle.mq_ir.specs.declared.statement.Schema.{Schema}
use Rattle.mq_ir.specs.Changes.{Changed, Visited, deleted_row, is_chosen, row_key, set_values, updated_row, visited_as, with_values}
use Rattle.mq_ir.specs.Keys.{Tuple}
use Rattle.mq_ir.specs.Results.{◌>>=◌, each}
use Rattle.mq_tables.specs.declared.touched.Touched.{Touched}
use Rattle.mq_tables.specs.declared.touched.Touched.TheVariants as touched
use Rattle.mq_tables.specs.declared.visits.Found.{Found}
use Rattle.mq_tables.specs.declared.visits.Gone.{Gone}
use Rattle.mq_tables.specs.Columns.{spares_key}
use Rattle.mq_tables.specs.Exchanging.{ComesFor}
use Rattle.mq_tables.specs.InPlace.{put_at, rows_gone, rows_left}
use Rattle.mq_tables.specs.KeyOrder.{judged}
use Rattle.mq_tables.specs.Touching.{made_by_delete, made_by_update}
use Rattle.mq_tables.specs.Visits.{flags_of, found, gone, rows_found, rows_taken, taken}
use Rattle.mq_tables.proofs.ExchangeLemmas.{others_stay}
use Rattle.mq_tables.proofs.FitLemmas.{deleted_is, each_cons, each_length, each_nil}
use Rattle.mq_tables.proofs.SparedLemmas.{row_spared, rows_spared}
use Rattle.mq_tables.proofs.Walks.{exit}

pub some_is : {A B E : Type 0} (r : Result A E) (g : A → B) (y : B) → (r >>= (λ x. Ok (g x))) ≡ Ok y → (x : A) × (r ≡ Ok x) × (g x ≡ y)
some_is (Ok x) g y h = (x, refl, (let q : g x ≡ y = cc in q))
some_is (Err e) g y h = absurd (cc)

-- ---- UPDATE
-- a row that is not visited as true stays
pub stays : (schema : Schema) (sets : List (ℕ × Expr)) (filter : Option Expr) (n : ℕ) (row : Tuple) (v : Visited) → updated_row schema sets filter (n, row) ≡ Ok v → v.1 ≡ false → v.0 ≡ row
stays schema sets filter n row v h f = by (is_chosen filter (n, row)) h
  where
    chosen : (r : Result (List (ℕ × Value)) Refused) → (r >>= (λ values. Ok (with_values row values, true))) ≡ Ok v → v.0 ≡ row
    chosen (Ok values) g = let q : (with_values row values, true) ≡ v = cc in absurd (let w : true ≡ false = ap (λ (x : Visited). x.1) q ∙ f in cc)
    chosen (Err e) g = absurd (cc)

    by : (r : Result Bool Refused) → (r >>= (λ chosen. elim chosen [ true ↦ set_values schema sets (n, row) >>= (λ values. Ok (with_values row values, true)) | false ↦ Ok (row, false) ])) ≡ Ok v → v.0 ≡ row
    by (Ok true) g = chosen (set_values schema sets (n, row)) g
    by (Ok false) g = let q : (row, false) ≡ v = cc in ap (λ (x : Visited). x.0) (sym q)
    by (Err e) g = absurd (cc)

abbrev replaced_from : ℕ → List Visited → List (ℕ × Tuple)
replaced_from n visited = map (λ (row : ℕ × Visited). (row.0, row.1.0)) (filter (λ (row : ℕ × Visited). row.1.1) (enumerate_from n visited))

pub set_between : (front : List Tuple) (x y : Tuple) (behind : List Tuple) (n : ℕ) → length front ≡ n → set (front ++ x ∷ behind) n y ≡ front ++ y ∷ behind
set_between [] x y behind zero e = refl
set_between [] x y behind (suc n) e = absurd (cc)
set_between (f ∷ front) x y behind zero e = absurd (cc)
set_between (f ∷ front) x y behind (suc n) e = ap (λ l. f ∷ l) (set_between front x y behind n (omega (arith, e)))

-- the rows in front are as they will be
put_from : (f : ℕ × Tuple → Result Visited Refused) → ((n : ℕ) (row : Tuple) (v : Visited) → f (n, row) ≡ Ok v → v.1 ≡ false → v.0 ≡ row) → (m n : ℕ) (front rows : List Tuple) (visited : List Visited)
    → length front ≡ n → each f (enumerate_from m rows) ≡ Ok visited → put_at (replaced_from n visited) (front ++ rows) ≡ front ++ map (λ row. row.0) visited
put_from f s m n front [] visited l h = each_nil f visited (λ vs. put_at (replaced_from n vs) (front ++ []) ≡ front ++ map (λ row. row.0) vs) h refl
put_from f s m n front (x ∷ rows) visited l h =
    each_cons f (m, x) (enumerate_from (m + 1) rows) visited (λ vs. put_at (replaced_from n vs) (front ++ x ∷ rows) ≡ front ++ map (λ row. row.0) vs) h (λ v rest e g.
    by v.1 v rest refl (s m x v e)
    (ap (put_at (replaced_from (n + 1) rest)) (sym (append_assoc front (x ∷ []) rows))
    ∙ put_from f s (m + 1) (n + 1) (front ++ x ∷ []) rows rest (length-append front (x ∷ []) ∙ ap (λ k. k + 1) l) g
    ∙ append_assoc front (x ∷ []) (map (λ row. row.0) rest)))
  where
    by : (b : Bool) (v : Visited) (rest : List Visited) → v.1 ≡ b → (v.1 ≡ false → v.0 ≡ x) → put_at (replaced_from (n + 1) rest) (front ++ x ∷ rows) ≡ front ++ x ∷ map (λ (row : Visited). row.0) rest
        → put_at (map (λ (row : ℕ × Visited). (row.0, row.1.0)) (if b then (n, v) ∷ filter (λ (row : ℕ × Visited). row.1.1) (enumerate_from (n + 1) rest) else filter (λ (row : ℕ × Visited). row.1.1) (enumerate_from (n + 1) rest))) (front ++ x ∷ rows)
        ≡ front ++ v.0 ∷ map (λ (row : Visited). row.0) rest
    by true v rest e k p = ap (λ l. set l n v.0) p ∙ set_between front x v.0 (map (λ (row : Visited). row.0) rest) n l
    by false v rest e k p = p ∙ ap (λ y. front ++ y ∷ map (λ (row : Visited). row.0) rest) (sym (k e))

-- ---- rows whose keys are judged last, and what was touched of them
-- what the rows come to, with what was touched
module _ (schema : Schema) (rows : List Tuple) (all : Result (List Tuple × Touched) Refused) (t : Touched) (is : all ≡ (judged schema rows >>= (λ after. Ok (after, t)))) where
  pub made_to : (after : List Tuple) → judged schema rows ≡ Ok after → all ≡ Ok (after, t)
  made_to after e = is ∙ ap (λ r. r >>= (λ after. Ok (after, t))) e

  pub made_exit : (e : Fail Refused) → Gives {T = List Tuple} (Err e) (judged schema rows) → Gives {T = List Tuple × Touched} (Err e) all
  made_exit e g = exit (judged schema rows) all e g (λ fault k. is ∙ ap (λ r. r >>= (λ after. Ok (after, t))) k)

-- rows, and what is touched of them, from one result
abbrev pub made_from : {X : Type 0} → Schema → Result X Refused → (X → Changed) → (X → Touched) → Result (List Tuple × Touched) Refused
made_from schema r rows touching =
    (r >>= (λ x. Ok (rows x))) >>= (λ changed. judged schema changed.0 >>= (λ after. (r >>= (λ x. Ok (touching x))) >>= (λ it. Ok (after, it))))

abbrev pub updated_rows : List Visited → Changed
updated_rows vs = (map (λ (row : Visited). row.0) vs, length (visited_as true vs))

abbrev pub left_rows : List Visited → Changed
left_rows vs = (visited_as false vs, length (visited_as true vs))

-- ---- UPDATE
module _ (schema : Schema) (rows : List Tuple) (sets : List (ℕ × Expr)) (filter : Option Expr) (it : Found) (lent : List Tuple) (r : lent ≡ rows) (h : rows_found schema sets filter lent ≡ Ok it) where
  abbrev visits : Result (List Visited) Refused
  visits = each (updated_row schema sets filter) (enumerate_from 1 rows)

  seen : (visited : List Visited) × (visits ≡ Ok visited) × (found rows visited ≡ it)
  seen = some_is visits (found rows) it (ap (rows_found schema sets filter) (sym r) ∙ h)

  put_rows : put_at it.puts rows ≡ map (λ (row : Visited). row.0) seen.0
  put_rows = ap (λ (f : Found). put_at f.puts rows) (sym seen.2) ∙ put_from (updated_row schema sets filter) (stays schema sets filter) 1 0 [] rows seen.0 refl seen.1

  pub keeps_keys : spares_key sets schema.key ≡ true → map (row_key schema) (put_at it.puts rows) ≡ map (row_key schema) rows
  keeps_keys k = ap (map (row_key schema)) put_rows ∙ rows_spared (row_key schema) (updated_row schema sets filter) (row_spared schema sets filter k) 1 rows seen.0 seen.1

  pub comes_for : ComesFor rows it.puts it.were
  comes_for = record {
    visited = seen.0;
    many = each_length (updated_row schema sets filter) (enumerate_from 1 rows) seen.0 seen.1 ∙ length-enumerate_from 1 rows;
    puts_are = ap (λ (f : Found). f.puts) (sym seen.2);
    were_are = ap (λ (f : Found). f.were) (sym seen.2);
    put = put_rows;
    stay = others_stay (updated_row schema sets filter) (stays schema sets filter) 1 rows seen.0 seen.1;
  }

  pub update_is : made_by_update schema sets filter rows ≡ (judged schema (put_at it.puts rows) >>= (λ after. Ok (after, touched.Replaced it.were)))
  update_is =
      ap (λ (r : Result (List Visited) Refused). made_from schema r updated_rows (λ vs. touched.Replaced (taken rows vs))) seen.1
      ∙ ap (λ (l : List Tuple). judged schema l >>= (λ after. Ok (after, touched.Replaced (taken rows seen.0)))) (sym put_rows)
      ∙ ap (λ (f : Found). judged schema (put_at it.puts rows) >>= (λ after. Ok (after, touched.Replaced f.were))) seen.2

-- ---- DELETE
-- each row, and whether it is visited as true
pub zipped : (filter : Option Expr) (n : ℕ) (rows : List Tuple) (visited : List Visited) → each (deleted_row filter) (enumerate_from n rows) ≡ Ok visited → zip rows (flags_of visited) ≡ visited
zipped filter n [] visited h = each_nil (deleted_row filter) visited (λ vs. zip [] (flags_of vs) ≡ vs) h refl
zipped filter n (x ∷ rows) visited h =
    each_cons (deleted_row filter) (n, x) (enumerate_from (n + 1) rows) visited (λ vs. zip (x ∷ rows) (flags_of vs) ≡ vs) h (λ v rest e g.
    let same = deleted_is filter n x v e in
    let others = zipped filter (n + 1) rows rest g in
    λ i. (sym same i, v.1) ∷ others i)

module _ (schema : Schema) (rows : List Tuple) (filter : Option Expr) (it : Gone) (lent : List Tuple) (r : lent ≡ rows) (h : rows_taken schema filter lent ≡ Ok it) where
  abbrev deletes : Result (List Visited) Refused
  deletes = each (deleted_row filter) (enumerate_from 1 rows)

  told : (visited : List Visited) × (deletes ≡ Ok visited) × (gone schema rows visited ≡ it)
  told = some_is deletes (gone schema rows) it (ap (rows_taken schema filter) (sym r) ∙ h)

  flags_are : flags_of told.0 ≡ it.flags
  flags_are = ap (λ (g : Gone). g.flags) told.2

  pairs : zip rows it.flags ≡ told.0
  pairs = ap (zip rows) (sym flags_are) ∙ zipped filter 1 rows told.0 told.1

  pub all_told : length it.flags ≡ length rows
  all_told =
      ap length (sym flags_are)
      ∙ length-map told.0 (λ (row : Visited). row.1)
      ∙ each_length (deleted_row filter) (enumerate_from 1 rows) told.0 told.1
      ∙ length-enumerate_from 1 rows

  pub keys_gone : it.keys ≡ map (row_key schema) (rows_gone rows it.flags)
  keys_gone = sym (ap (λ (g : Gone). g.keys) told.2) ∙ ap (λ vs. map (row_key schema) (visited_as true vs)) (sym pairs)

  pub delete_is : made_by_delete schema filter rows ≡ (judged schema (rows_left rows it.flags) >>= (λ after. Ok (after, touched.Gone it.flags it.rows)))
  delete_is =
      ap (λ (r : Result (List Visited) Refused). made_from schema r left_rows (λ vs. touched.Gone (flags_of vs) (taken rows vs))) told.1
      ∙ ap (λ vs. judged schema (visited_as false vs) >>= (λ after. Ok (after, touched.Gone (flags_of told.0) (taken rows told.0)))) (sym pairs)
      ∙ ap (λ (g : Gone). judged schema (rows_left rows it.flags) >>= (λ after. Ok (after, touched.Gone g.flags g.rows))) told.2
