-- What a change comes to stands on the tables that it was judged by.
use Rattle.std.proofs.Common.{◌≡◌, ℕ, suc, ◌+◌, ◌*◌, ◌≤◌, List, [], ◌∷◌, ◌++◌, Bool, true, false, not, ◌&&◌, Option, Some, None, length, map, Result, Ok, Err, refl, sym, ap, ◌∙◌, subst, arith, length-append, nat_eq}
use Rattle.std.specs.Prelude.{if◌then◌else◌, slice_get, nat_lt}
use Rattle.std.specs.Cmp.Lexicographic.{pointwise}
use Rattle.std.specs.List.{AllZip, enumerate_from, filter, find, list_all, range_with_len}
use Rattle.std.specs.Option.{ok_or, option_map_or}
use Rattle.std.proofs.lemmas.Bool.{eqb-true}
use Rattle.std.proofs.lemmas.Bool.Decides.{nat_tests}
use Rattle.std.proofs.lemmas.List.{length-map}
use Rattle.std.proofs.lemmas.List.Folds.{list_all-append, list_all-map}
use Rattle.std.proofs.lemmas.List.FromFn.{length-enumerate_from}
use Rattle.mq_values.specs.declared.faults.Refused.{Refused}
use Rattle.mq_values.specs.declared.faults.Refused.TheVariants as refused
use Rattle.mq_values.specs.declared.limits.TheConstants.{MAX_ROWS, MAX_VALUES}
use Rattle.mq_ir.specs.declared.limit_numbers.TheConstants.{LIMIT_OF_ROWS, LIMIT_OF_VALUES}
use Rattle.mq_ir.specs.declared.expression.Expr.{Expr}
use Rattle.mq_ir.specs.declared.statement.Change.{Change}
use Rattle.mq_ir.specs.declared.statement.Change.TheVariants.{Insert, Append, Update, Delete}
use Rattle.mq_ir.specs.declared.statement.Schema.{Schema}
use Rattle.mq_ir.specs.Changes.{Changed, Visited, deleted_row, inserted_row, is_chosen, key_fault, rows_added, rows_changed, set_values, size_fault, table_of, updated_row, value_count, visited_as, with_values}
use Rattle.mq_ir.specs.FitsStatement.{change_fits_schema, inserts_fit, is_row_of}
use Rattle.mq_ir.specs.Keys.{Tuple}
use Rattle.mq_values.specs.declared.value.Value.{Value}
use Rattle.mq_ir.specs.Results.{◌>>=◌, each}
use Rattle.mq_ir.specs.Statement.{staged, unless_refused}
use Rattle.mq_ir.specs.Tables.{Table, Tables, is_name, table_at}
use Rattle.mq_tables.specs.Held.{RowsFit}
use Rattle.mq_tables.specs.KeyOrder.{judged}
use Rattle.mq_tables.specs.Pending.{step_of}
use Rattle.mq_tables.specs.Staging.{ChangeFits, Staged, StandsOn, StoodAt, new_places, origins_of, place_unless_true, places_left, staging, stays}
use Rattle.mq_tables.proofs.FitLemmas.{all_filtered, all_pass, both_true, deleted_is, each_cons, each_length, each_nil, inserted_fits, updated_fits}
use Rattle.mq_tables.proofs.StageLemmas.{in_order, inserted_places}

-- ---- the table of a name
pub found_passes : {A : Type 0} (p : A → Bool) (xs : List A) (x : A) → find p xs ≡ Some x → p x ≡ true
found_passes p [] x h = absurd (cc)
found_passes p (y ∷ ys) x h = by (p y) refl (found_passes p ys x) h
  where
    by : (b : Bool) → p y ≡ b → (find p ys ≡ Some x → p x ≡ true) → (if b then Some y else find p ys) ≡ Some x → p x ≡ true
    by true e k g = let q : y ≡ x = cc in subst (λ z. p z ≡ true) q e
    by false e k g = k g

pub name_is : (a b : List ℕ) → is_name a b ≡ true → a ≡ b
name_is [] [] h = refl
name_is [] (y ∷ ys) h = absurd (cc)
name_is (x ∷ xs) [] h = absurd (cc)
name_is (x ∷ xs) (y ∷ ys) h = by (nat_eq x y) refl (name_is xs ys) h
  where
    by : (b : Bool) → nat_eq x y ≡ b → (is_name xs ys ≡ true → xs ≡ ys) → (b && pointwise nat_eq xs ys) ≡ true → x ∷ xs ≡ y ∷ ys
    by true e k g = let p : x ≡ y = eqb-true x y e in let q : xs ≡ ys = k g in cc
    by false e k g = absurd (cc)

pub own_name : (tables : Tables) (name : List ℕ) (t : Table) → table_at tables name ≡ Some t → table_at tables t.name ≡ Some t
own_name tables name t h = ap (table_at tables) (sym (name_is name t.name (found_passes (λ (u : Table). is_name name u.name) tables t h))) ∙ h

pub found_fits : (tables : Tables) (name : List ℕ) (t : Table) → RowsFit tables → table_at tables name ≡ Some t → list_all (is_row_of t.schema) t.rows ≡ true
found_fits [] name t f h = absurd (cc)
found_fits (u ∷ tables) name t f h = by (is_name name u.name) (found_fits tables name t f.1) h
  where
    by : (b : Bool) → (table_at tables name ≡ Some t → list_all (is_row_of t.schema) t.rows ≡ true) → (if b then Some u else table_at tables name) ≡ Some t → list_all (is_row_of t.schema) t.rows ≡ true
    by true k g = let q : u ≡ t = cc in subst (λ (z : Table). list_all (is_row_of z.schema) z.rows ≡ true) q f.0
    by false k g = k g

-- ---- rows stand where they stood
here : (old : List Tuple) (x : Tuple) (xs : List Tuple) (k : ℕ) → ((i : ℕ) → slice_get (x ∷ xs) i ≡ slice_get old (k + i)) → slice_get old k ≡ Some x
here old x xs k h = ap (slice_get old) (let e : k ≡ k + 0 = omega arith in e) ∙ sym (h 0)

further : (old : List Tuple) (x : Tuple) (xs : List Tuple) (k : ℕ) → ((i : ℕ) → slice_get (x ∷ xs) i ≡ slice_get old (k + i)) → (i : ℕ) → slice_get xs i ≡ slice_get old ((k + 1) + i)
further old x xs k h i = h (suc i) ∙ ap (slice_get old) (let e : k + suc i ≡ (k + 1) + i = omega arith in e)

all_of : (old : List Tuple) → (i : ℕ) → slice_get old i ≡ slice_get old (0 + i)
all_of old i = ap (slice_get old) (let e : i ≡ 0 + i = omega arith in e)

stays_stood : (old xs : List Tuple) (k : ℕ) → ((i : ℕ) → slice_get xs i ≡ slice_get old (k + i)) → AllZip (StoodAt old) xs (map Some (range_with_len k (length xs)))
stays_stood old [] k h = tt
stays_stood old (x ∷ xs) k h = (here old x xs k h, stays_stood old xs (k + 1) (further old x xs k h))

new_stood : (old xs : List Tuple) → AllZip (StoodAt old) xs (new_places xs)
new_stood old [] = tt
new_stood old (x ∷ xs) = (tt, new_stood old xs)

all_zip_append : {A B : Type 0} (R : A → B → Type 0) (xs ys : List A) (zs ws : List B) → AllZip R xs zs → AllZip R ys ws → AllZip R (xs ++ ys) (zs ++ ws)
all_zip_append R [] ys [] ws h k = k
all_zip_append R [] ys (z ∷ zs) ws h k = absurd h
all_zip_append R (x ∷ xs) ys [] ws h k = absurd h
all_zip_append R (x ∷ xs) ys (z ∷ zs) ws h k = (h.0, all_zip_append R xs ys zs ws h.1 k)

appended_stood : (old new : List Tuple) → AllZip (StoodAt old) (old ++ new) (stays old ++ new_places new)
appended_stood old new = all_zip_append (StoodAt old) old new (stays old) (new_places new) (stays_stood old old 0 (all_of old)) (new_stood old new)

updated_stood : (f : ℕ × Tuple → Result Visited Refused) → ((n : ℕ) (row : Tuple) (v : Visited) → f (n, row) ≡ Ok v → v.1 ≡ false → v.0 ≡ row) →
    (old xs : List Tuple) (n k : ℕ) (vs : List Visited) → ((i : ℕ) → slice_get xs i ≡ slice_get old (k + i)) → each f (enumerate_from n xs) ≡ Ok vs →
    AllZip (StoodAt old) (map (λ (row : Visited). row.0) vs) (map place_unless_true (enumerate_from k vs))
updated_stood f keeps old [] n k vs s h =
    each_nil f vs (λ vs. AllZip (StoodAt old) (map (λ (row : Visited). row.0) vs) (map place_unless_true (enumerate_from k vs))) h tt
updated_stood f keeps old (x ∷ xs) n k vs s h =
    each_cons f (n, x) (enumerate_from (n + 1) xs) vs (λ vs. AllZip (StoodAt old) (map (λ (row : Visited). row.0) vs) (map place_unless_true (enumerate_from k vs))) h (λ v rest e g.
    (stood v e v.1 refl, updated_stood f keeps old xs (n + 1) (k + 1) rest (further old x xs k s) g))
  where
    stood : (v : Visited) → f (n, x) ≡ Ok v → (b : Bool) → v.1 ≡ b → StoodAt old v.0 (if b then None else Some k)
    stood v e true c = tt
    stood v e false c = here old x xs k s ∙ ap Some (sym (keeps n x v e c))

deleted_stood : (f : ℕ × Tuple → Result Visited Refused) → ((n : ℕ) (row : Tuple) (v : Visited) → f (n, row) ≡ Ok v → v.0 ≡ row) →
    (old xs : List Tuple) (n k : ℕ) (vs : List Visited) → ((i : ℕ) → slice_get xs i ≡ slice_get old (k + i)) → each f (enumerate_from n xs) ≡ Ok vs →
    AllZip (StoodAt old) (map (λ (row : Visited). row.0) (filter (λ (row : Visited). not row.1) vs)) (map (λ (row : ℕ × Visited). Some row.0) (filter (λ (row : ℕ × Visited). not row.1.1) (enumerate_from k vs)))
deleted_stood f keeps old [] n k vs s h =
    each_nil f vs (λ vs. AllZip (StoodAt old) (map (λ (row : Visited). row.0) (filter (λ (row : Visited). not row.1) vs)) (map (λ (row : ℕ × Visited). Some row.0) (filter (λ (row : ℕ × Visited). not row.1.1) (enumerate_from k vs)))) h tt
deleted_stood f keeps old (x ∷ xs) n k vs s h =
    each_cons f (n, x) (enumerate_from (n + 1) xs) vs
    (λ vs. AllZip (StoodAt old) (map (λ (row : Visited). row.0) (filter (λ (row : Visited). not row.1) vs)) (map (λ (row : ℕ × Visited). Some row.0) (filter (λ (row : ℕ × Visited). not row.1.1) (enumerate_from k vs)))) h (λ v rest e g.
    stood v e rest v.1 (deleted_stood f keeps old xs (n + 1) (k + 1) rest (further old x xs k s) g))
  where
    stood : (v : Visited) → f (n, x) ≡ Ok v → (rest : List Visited) → (b : Bool) →
        AllZip (StoodAt old) (map (λ (row : Visited). row.0) (filter (λ (row : Visited). not row.1) rest)) (map (λ (row : ℕ × Visited). Some row.0) (filter (λ (row : ℕ × Visited). not row.1.1) (enumerate_from (k + 1) rest))) →
        AllZip (StoodAt old) (map (λ (row : Visited). row.0) (if not b then v ∷ filter (λ (row : Visited). not row.1) rest else filter (λ (row : Visited). not row.1) rest))
        (map (λ (row : ℕ × Visited). Some row.0) (if not b then (k, v) ∷ filter (λ (row : ℕ × Visited). not row.1.1) (enumerate_from (k + 1) rest) else filter (λ (row : ℕ × Visited). not row.1.1) (enumerate_from (k + 1) rest)))
    stood v e rest true r = r
    stood v e rest false r = (here old x xs k s ∙ ap Some (sym (keeps n x v e)), r)

kept_row : (schema : Schema) (sets : List (ℕ × Expr)) (filter : Option Expr) (n : ℕ) (row : Tuple) (v : Visited) → updated_row schema sets filter (n, row) ≡ Ok v → v.1 ≡ false → v.0 ≡ row
kept_row schema sets filter n row v h c = by (is_chosen filter (n, row)) h
  where
    chosen : (r : Result (List (ℕ × Value)) Refused) → (r >>= (λ values. Ok (with_values row values, true))) ≡ Ok v → v.0 ≡ row
    chosen (Ok values) g = absurd (let q : (with_values row values, true) ≡ v = cc in let t : true ≡ false = ap (λ (w : Visited). w.1) q ∙ c in cc)
    chosen (Err d) g = absurd (cc)

    by : (r : Result Bool Refused) → (r >>= (λ chosen. elim chosen [ true ↦ set_values schema sets (n, row) >>= (λ values. Ok (with_values row values, true)) | false ↦ Ok (row, false) ])) ≡ Ok v → v.0 ≡ row
    by (Ok true) g = chosen (set_values schema sets (n, row)) g
    by (Ok false) g = let q : (row, false) ≡ v = cc in ap (λ (w : Visited). w.0) (sym q)
    by (Err d) g = absurd (cc)

-- ---- what the rows come to
record Sound (t : Table) (change : Change) (rows : List Tuple) (origins : List (Option ℕ)) : Type 0 where
  size : length rows ≤ length t.rows + rows_added change
  fit : list_all (is_row_of t.schema) rows ≡ true
  stood : AllZip (StoodAt t.rows) rows origins

pub then_is : {A B : Type 0} (r : Result A Refused) (f : A → Result B Refused) (y : B) (P : Type 0) → (r >>= f) ≡ Ok y → ((x : A) → r ≡ Ok x → f x ≡ Ok y → P) → P
then_is (Ok x) f y P h k = k x refl h
then_is (Err e) f y P h k = absurd (cc)

pub ok_is : {A : Type 0} (x y : A) → ◌≡◌ {A = Result A Refused} (Ok x) (Ok y) → x ≡ y
ok_is x y h = cc

filtered_le : {A : Type 0} (p : A → Bool) (xs : List A) → length (filter p xs) ≤ length xs
filtered_le p [] = omega arith
filtered_le p (x ∷ xs) = by (p x) (filtered_le p xs)
  where
    by : (b : Bool) → length (filter p xs) ≤ length xs → length (if b then x ∷ filter p xs else filter p xs) ≤ suc (length xs)
    by true h = omega (arith, h)
    by false h = omega (arith, h)

appended_sound : {A : Type 0} (t : Table) (change : Change) (new : List Tuple) (known : List A) → new_places known ≡ new_places new → length new ≡ rows_added change
    → list_all (is_row_of t.schema) t.rows ≡ true → list_all (is_row_of t.schema) new ≡ true → Sound t change (t.rows ++ new) (stays t.rows ++ new_places known)
appended_sound t change new known k n f g = record {
  size = let e = length-append t.rows new in omega (arith, e, n);
  fit = list_all-append (is_row_of t.schema) t.rows new ∙ both_true (list_all (is_row_of t.schema) t.rows) (list_all (is_row_of t.schema) new) f g;
  stood = subst (λ (l : List (Option ℕ)). AllZip (StoodAt t.rows) (t.rows ++ new) (stays t.rows ++ l)) (sym k) (appended_stood t.rows new);
}

sound : (t : Table) (change : Change) (changed : Changed) (origins : List (Option ℕ)) → list_all (is_row_of t.schema) t.rows ≡ true → change_fits_schema t.schema change ≡ true
    → rows_changed t change ≡ Ok changed → origins_of t change ≡ Ok origins → Sound t change changed.0 origins
sound t (Insert name rows) changed origins f c h o =
    then_is (each (inserted_row t.schema) (enumerate_from 1 rows)) (λ new. Ok (t.rows ++ new, length new)) changed (Sound t (Insert name rows) changed.0 origins) h (λ new e g.
    subst (λ (l : List (Option ℕ)). Sound t (Insert name rows) changed.0 l) (ok_is (stays t.rows ++ new_places rows) origins o)
    (subst (λ (it : Changed). Sound t (Insert name rows) it.0 (stays t.rows ++ new_places rows)) (ok_is (t.rows ++ new, length new) changed g)
    (appended_sound t (Insert name rows) new rows (inserted_places (inserted_row t.schema) rows new e)
    (each_length (inserted_row t.schema) (enumerate_from 1 rows) new e ∙ length-enumerate_from 1 rows) f
    (all_pass (inserted_row t.schema) (inserts_fit t.schema) (is_row_of t.schema) (inserted_fits t.schema) 1 rows new c e))))
sound t (Append name rows) changed origins f c h o =
    subst (λ (l : List (Option ℕ)). Sound t (Append name rows) changed.0 l) (ok_is (stays t.rows ++ new_places rows) origins o)
    (subst (λ (it : Changed). Sound t (Append name rows) it.0 (stays t.rows ++ new_places rows)) (ok_is (t.rows ++ rows, length rows) changed h)
    (appended_sound t (Append name rows) rows rows refl refl f c))
sound t (Update name sets filter) changed origins f c h o =
    let step : ℕ × Tuple → Result Visited Refused = updated_row t.schema sets filter in
    then_is (each step (enumerate_from 1 t.rows)) (λ vs. Ok (map (λ (row : Visited). row.0) vs, length (visited_as true vs))) changed (Sound t (Update name sets filter) changed.0 origins) h (λ vs e g.
    let places : List (Option ℕ) = map place_unless_true (enumerate_from 0 vs) in
    subst (λ (l : List (Option ℕ)). Sound t (Update name sets filter) changed.0 l)
    (ok_is places origins (sym (ap (λ (r : Result (List Visited) Refused). r >>= (λ vs. Ok (map place_unless_true (enumerate_from 0 vs)))) e) ∙ o))
    (subst (λ (it : Changed). Sound t (Update name sets filter) it.0 places) (ok_is (map (λ (row : Visited). row.0) vs, length (visited_as true vs)) changed g) (record {
      size = let n = each_length step (enumerate_from 1 t.rows) vs e ∙ length-enumerate_from 1 t.rows in let m = length-map vs (λ (row : Visited). row.0) in omega (arith, n, m);
      fit =
          list_all-map (is_row_of t.schema) (λ (row : Visited). row.0) vs
          ∙ all_pass step (is_row_of t.schema) (λ (row : Visited). is_row_of t.schema row.0) (λ n x y q e. updated_fits t.schema sets filter n x y q e) 1 t.rows vs f e;
      stood = updated_stood step (kept_row t.schema sets filter) t.rows t.rows 1 0 vs (all_of t.rows) e;
    })))
sound t (Delete name where_) changed origins f c h o =
    let step : ℕ × Tuple → Result Visited Refused = deleted_row where_ in
    then_is (each step (enumerate_from 1 t.rows)) (λ vs. Ok (visited_as false vs, length (visited_as true vs))) changed (Sound t (Delete name where_) changed.0 origins) h (λ vs e g.
    let left : List Visited = filter (λ (row : Visited). not row.1) vs in
    subst (λ (l : List (Option ℕ)). Sound t (Delete name where_) changed.0 l)
    (ok_is (places_left vs) origins (sym (ap (λ (r : Result (List Visited) Refused). r >>= (λ vs. Ok (places_left vs))) e) ∙ o))
    (subst (λ (it : Changed). Sound t (Delete name where_) it.0 (places_left vs)) (ok_is (visited_as false vs, length (visited_as true vs)) changed g) (record {
      size =
          let n = each_length step (enumerate_from 1 t.rows) vs e ∙ length-enumerate_from 1 t.rows in
          let m = length-map left (λ (row : Visited). row.0) in
          let l = filtered_le (λ (row : Visited). not row.1) vs in
          omega (arith, n, m, l);
      fit =
          list_all-map (is_row_of t.schema) (λ (row : Visited). row.0) left
          ∙ all_filtered (λ (row : Visited). is_row_of t.schema row.0) (λ (row : Visited). not row.1) vs
          (all_pass step (is_row_of t.schema) (λ (row : Visited). is_row_of t.schema row.0) (λ n x y q e. ap (is_row_of t.schema) (deleted_is where_ n x y e) ∙ q) 1 t.rows vs f e);
      stood = deleted_stood step (deleted_is where_) t.rows t.rows 1 0 vs (all_of t.rows) e;
    })))

-- ---- what is judged
unless_is : {A : Type 0} (o : Option Refused) (r : Result A Refused) (x : A) (P : Type 0) → unless_refused o r ≡ Ok x → (o ≡ None → r ≡ Ok x → P) → P
unless_is None r x P h k = k refl h
unless_is (Some e) r x P h k = absurd (cc)

first_none : (b c : Bool) (x y : Refused) → (if b then Some x else (if c then Some y else None)) ≡ None → b ≡ false
first_none true c x y h = absurd (cc)
first_none false c x y h = refl

pub within_limit : (tables : Tables) (t : Table) (added : ℕ) → size_fault tables t added ≡ None → length t.rows + added ≤ MAX_ROWS
within_limit tables t added h =
    let e : nat_lt MAX_ROWS (length t.rows + added) ≡ false =
    first_none (nat_lt MAX_ROWS (length t.rows + added)) (nat_lt MAX_VALUES (value_count tables + added * length t.schema.cols)) (refused.Limit LIMIT_OF_ROWS) (refused.Limit LIMIT_OF_VALUES) h in
    at_most MAX_ROWS (length t.rows + added) e
  where
    at_most : (a b : ℕ) → nat_lt a b ≡ false → b ≤ a
    at_most a b e = grind (arith, nat_tests)

pub judged_stands : (tables : Tables) (name : List ℕ) (t : Table) (change : Change) (s : Staged) → table_at tables name ≡ Some t → list_all (is_row_of t.schema) t.rows ≡ true
    → change_fits_schema t.schema change ≡ true → unless_refused (size_fault tables t (rows_added change)) (step_of t change) ≡ Ok s → StandsOn tables s
judged_stands tables name t change s there f c h =
    unless_is (size_fault tables t (rows_added change)) (step_of t change) s (StandsOn tables s) h (λ size g.
    then_is (rows_changed t change) (λ changed. judged t.schema changed.0 >>= placed changed) s (StandsOn tables s) g (λ changed d k.
    then_is (judged t.schema changed.0) (placed changed) s (StandsOn tables s) k (λ after j l.
    unless_is (key_fault t.schema changed.0) (Ok changed.0) after (StandsOn tables s) j (λ apart same.
    then_is (origins_of t change) (λ origins. Ok (noted changed after origins)) s (StandsOn tables s) l (λ origins o e.
    subst (StandsOn tables) (ok_is (noted changed after origins) s e)
    (stands changed after origins (sym (ok_is changed.0 after same)) (sound t change changed origins f c d o) size apart))))))
  where
    noted : Changed → List Tuple → List (Option ℕ) → Staged
    noted changed after origins = record { table = t.name; had = length t.rows; rows = after; counted = changed.1; origins = origins }

    placed : Changed → List Tuple → Result Staged Refused
    placed changed after = origins_of t change >>= (λ origins. Ok (noted changed after origins))

    stands : (changed : Changed) (after : List Tuple) (origins : List (Option ℕ)) → after ≡ changed.0 → Sound t change changed.0 origins → size_fault tables t (rows_added change) ≡ None
        → key_fault t.schema changed.0 ≡ None → StandsOn tables (noted changed after origins)
    stands changed after origins same d size apart = subst (λ (l : List Tuple). StandsOn tables (noted changed l origins)) (sym same) (record {
      table = t;
      is_there = own_name tables name t there;
      as_many = refl;
      kept = d.stood;
      within = let l = d.size in let m = within_limit tables t (rows_added change) size in omega (arith, l, m);
      fit = d.fit;
      apart = apart;
    })

pub staging_stands : (tables : Tables) (change : Change) (s : Staged) → RowsFit tables → ChangeFits tables change → staging tables change ≡ Ok s → StandsOn tables s
staging_stands tables change s f c h = by (table_at tables (table_of change)) refl c h
  where
    by : (o : Option Table) → table_at tables (table_of change) ≡ o → option_map_or (λ (t : Table). change_fits_schema t.schema change) o false ≡ true
        → (ok_or o (refused.UnknownName (table_of change)) >>= (λ (t : Table).
        staged tables t change >>= (λ changed. origins_of t change >>= (λ origins.
        Ok (record { table = t.name; had = length t.rows; rows = changed.0; counted = changed.1; origins = origins })))))
        ≡ Ok s → StandsOn tables s
    by None e c g = absurd (cc)
    by (Some t) e c g =
        judged_stands tables (table_of change) t change s e (found_fits tables (table_of change) t f e) c
        (sym (in_order (size_fault tables t (rows_added change)) t (rows_changed t change) (origins_of t change)) ∙ g)
