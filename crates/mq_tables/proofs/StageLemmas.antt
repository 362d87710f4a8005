-- What a change of one table comes to, and what it touches.
use Rattle.std.proofs.Common.{◌≡◌, ℕ, suc, ◌+◌, ◌≤◌, List, [], ◌∷◌, ◌++◌, Bool, true, false, Option, Some, None, length, map, Result, Ok, Err, refl, sym, ap, ◌∙◌, subst, arith, length-append}
use Rattle.std.specs.Prelude.{if◌then◌else◌}
use Rattle.std.specs.List.{enumerate_from, filter, zip}
use Rattle.std.proofs.lemmas.List.{length-map}
use Rattle.std.proofs.lemmas.List.FromFn.{length-enumerate_from}
use Rattle.mq_values.specs.declared.faults.Refused.{Refused}
use Rattle.mq_ir.specs.declared.statement.Change.{Change}
use Rattle.mq_ir.specs.declared.statement.Change.TheVariants.{Insert, Append, Update, Delete}
use Rattle.mq_ir.specs.Changes.{Changed, Visited, deleted_row, inserted_row, key_fault, updated_row, visited_as}
use Rattle.mq_ir.specs.Keys.{Tuple}
use Rattle.mq_ir.specs.Results.{◌>>=◌, each}
use Rattle.mq_ir.specs.Statement.{unless_refused}
use Rattle.mq_ir.specs.Tables.{Table}
use Rattle.mq_tables.specs.declared.touched.Touched.{Touched}
use Rattle.mq_tables.specs.declared.touched.Touched.TheVariants as touched
use Rattle.mq_tables.specs.KeyOrder.{judged}
use Rattle.mq_tables.specs.OldPlaces.{with_none}
use Rattle.mq_tables.specs.Pending.{step_of, through}
use Rattle.mq_tables.specs.Staging.{Staged, new_places, origins_of, place_unless_true, places_left, stays}
use Rattle.mq_tables.specs.Touching.{IsOf, count_of, made, noted}
use Rattle.mq_tables.specs.Visits.{flags_of, taken}
use Rattle.mq_tables.proofs.ChangingLemmas.{left_rows, made_from, updated_rows, zipped}
use Rattle.mq_tables.proofs.FitLemmas.{each_length}
use Rattle.mq_tables.proofs.NoteLemmas.{behind_first, behind_through, delete_first, delete_noted, left_short, update_first, update_noted, update_short, with_new, with_none_long}
use Rattle.mq_tables.proofs.VisitLemmas.{is_true, stood}

-- ---- the size is judged first, and the keys last
abbrev pub staged_with : Table → List Tuple → ℕ → List (Option ℕ) → Staged
staged_with t after counted places = record { table = t.name; had = length t.rows; rows = after; counted = counted; origins = places }

abbrev pub step_with : Table → Result Changed Refused → Result (List (Option ℕ)) Refused → Result Staged Refused
step_with t rows origins = rows >>= (λ changed. judged t.schema changed.0 >>= (λ after. origins >>= (λ o. Ok (staged_with t after changed.1 o))))

keys_last : (t : Table) (changed : Changed) (origins : Result (List (Option ℕ)) Refused) (o : Option Refused)
    → (unless_refused o (Ok changed) >>= (λ changed. origins >>= (λ o. Ok (staged_with t changed.0 changed.1 o))))
    ≡ (unless_refused o (Ok changed.0) >>= (λ after. origins >>= (λ o. Ok (staged_with t after changed.1 o))))
keys_last t changed origins None = refl
keys_last t changed origins (Some e) = refl

-- a change whose size is judged first
pub in_order : (o : Option Refused) (t : Table) (rows : Result Changed Refused) (origins : Result (List (Option ℕ)) Refused) →
    (unless_refused o (rows >>= (λ changed. unless_refused (key_fault t.schema changed.0) (Ok changed))) >>= (λ changed.
    origins >>= (λ o. Ok (staged_with t changed.0 changed.1 o))))
    ≡ unless_refused o (step_with t rows origins)
in_order None t (Ok changed) origins = keys_last t changed origins (key_fault t.schema changed.0)
in_order None t (Err e) origins = refl
in_order (Some e) t rows origins = refl

-- ---- as many rows as expressions for them
each_as_many : {A B E : Type 0} (f : A → Result B E) (xs : List A) (ys : List B) → each f xs ≡ Ok ys → new_places xs ≡ new_places ys
each_as_many f [] ys e = ap new_places (let h : [] ≡ ys = cc in h)
each_as_many {B = B} {E = E} f (x ∷ xs) ys e = by (f x) (each f xs) refl (λ zs. each_as_many f xs zs) e
  where
    by : (r : Result B E) (rest : Result (List B) E) → each f xs ≡ rest → ((zs : List B) → each f xs ≡ Ok zs → new_places xs ≡ new_places zs) → (r >>= (λ y. rest >>= (λ ys. Ok (y ∷ ys)))) ≡ Ok ys → new_places (x ∷ xs) ≡ new_places ys
    by (Ok y) (Ok zs) h k g = ap (λ l. None ∷ l) (k zs h) ∙ ap new_places (let q : y ∷ zs ≡ ys = cc in q)
    by (Ok y) (Err e) h k g = absurd (cc)
    by (Err e) rest h k g = absurd (cc)

numbered_places : {A : Type 0} (n : ℕ) (xs : List A) → new_places (enumerate_from n xs) ≡ new_places xs
numbered_places n [] = refl
numbered_places n (x ∷ xs) = ap (λ l. None ∷ l) (numbered_places (n + 1) xs)

pub inserted_places : {A : Type 0} (f : ℕ × A → Result Tuple Refused) (rows : List A) (new : List Tuple) → each f (enumerate_from 1 rows) ≡ Ok new → new_places rows ≡ new_places new
inserted_places f rows new e = sym (numbered_places 1 rows) ∙ each_as_many f (enumerate_from 1 rows) new e

-- as many rows are told as are counted
counted_from : (n : ℕ) (rows : List Tuple) (vs : List Visited) → length vs ≡ length rows → length (map stood (filter is_true (enumerate_from n (zip rows (flags_of vs))))) ≡ length (visited_as true vs)
counted_from n [] [] l = refl
counted_from n [] (v ∷ vs) l = absurd (omega (arith, l))
counted_from n (x ∷ rows) [] l = absurd (omega (arith, l))
counted_from n (x ∷ rows) (v ∷ vs) l = by v.1 (counted_from (n + 1) rows vs (omega (arith, l)))
  where
    rest : List (ℕ × (Tuple × Bool))
    rest = filter is_true (enumerate_from (n + 1) (zip rows (flags_of vs)))

    by : (b : Bool) → length (map stood rest) ≡ length (visited_as true vs)
        → length (map stood (if b then (n, (x, b)) ∷ rest else rest)) ≡ length (map (λ (row : Visited). row.0) (if b then v ∷ filter (λ (row : Visited). row.1) vs else filter (λ (row : Visited). row.1) vs))
    by true e = ap suc e
    by false e = e

-- ---- what is made of rows is a step of their table
-- the step of a table whose rows are made so, with the notes of what was touched
pub record Stepped (t : Table) (change : Change) (after : List Tuple) (it : Touched) : Type 0 where
  pub places : List (Option ℕ)
  pub is : step_of t change ≡ Ok (record { table = t.name; had = length t.rows; rows = after; counted = count_of it; origins = places })
  pub later : (known : List (Option ℕ)) → length known ≤ length t.rows → with_none (noted known it) after ≡ map (through (with_none known t.rows)) places
  pub short : (known : List (Option ℕ)) → length known ≤ length t.rows → length (noted known it) ≤ length after
  pub first : map (through (stays t.rows)) places ≡ places
  pub whole : IsOf (length t.rows) it

-- one kind of change: its rows, what it touches and its places come from one result
module _ {X : Type 0} (t : Table) (r : Result X Refused) (rows : X → Changed) (touching : X → Touched) (origins : Result (List (Option ℕ)) Refused) (places : X → List (Option ℕ))
    (known : (x : X) → r ≡ Ok x → origins ≡ Ok (places x)) (count : (x : X) → r ≡ Ok x → (rows x).1 ≡ count_of (touching x)) where
  abbrev outcome : X → List Tuple → Touched → Staged
  outcome x after it = staged_with t after (count_of it) (places x)

  kind_made : (after : List Tuple) (it : Touched) (P : List Tuple → Touched → Type 0) → made_from t.schema r rows touching ≡ Ok (after, it)
      → ((x : X) → r ≡ Ok x → step_with t (r >>= (λ x. Ok (rows x))) origins ≡ Ok (outcome x (rows x).0 (touching x)) → P (rows x).0 (touching x)) → P after it
  kind_made after it P h k = by r refl h
    where
      keys : (x : X) → r ≡ Ok x → (o : Option Refused) → key_fault t.schema (rows x).0 ≡ o → ◌>>=◌ {B = List Tuple × Touched} (unless_refused o (Ok (rows x).0)) (λ after. Ok (after, touching x)) ≡ Ok (after, it) → P after it
      keys x e None n g =
          let q : ((rows x).0, touching x) ≡ (after, it) = cc in
          subst (λ (m : List Tuple × Touched). P m.0 m.1) q
          (k x e
          (ap (λ (s : Result X Refused). step_with t (s >>= (λ x. Ok (rows x))) origins) e
          ∙ ap (λ o. unless_refused o (Ok (rows x).0) >>= (λ after. origins >>= (λ o. Ok (staged_with t after (rows x).1 o)))) n
          ∙ ap (λ (s : Result (List (Option ℕ)) Refused). s >>= (λ o. Ok (staged_with t (rows x).0 (rows x).1 o))) (known x e)
          ∙ ap (λ n. Ok (staged_with t (rows x).0 n (places x))) (count x e)))
      keys x e (Some d) n g = absurd (cc)

      by : (s : Result X Refused) → r ≡ s → made_from t.schema s rows touching ≡ Ok (after, it) → P after it
      by (Ok x) e g = keys x e (key_fault t.schema (rows x).0) refl g
      by (Err d) e g = absurd (cc)

  kind_refused : (d : Refused) → made_from t.schema r rows touching ≡ Err d → step_with t (r >>= (λ x. Ok (rows x))) origins ≡ Err d
  kind_refused d h = by r refl h
    where
      keys : (x : X) → (o : Option Refused) → ◌≡◌ {A = Result (List Tuple × Touched) Refused} (unless_refused o (Ok (rows x).0) >>= (λ after. Ok (after, touching x))) (Err d)
          → ◌≡◌ {A = Result Staged Refused} (unless_refused o (Ok (rows x).0) >>= (λ after. origins >>= (λ o. Ok (staged_with t after (rows x).1 o)))) (Err d)
      keys x None g = absurd (cc)
      keys x (Some e) g = ap Err (let q : e ≡ d = cc in q)

      by : (s : Result X Refused) → r ≡ s → made_from t.schema s rows touching ≡ Err d → step_with t (s >>= (λ x. Ok (rows x))) origins ≡ Err d
      by (Ok x) e g = keys x (key_fault t.schema (rows x).0) g
      by (Err f) e g = ap Err (let q : f ≡ d = cc in q)

-- ---- each kind of change
abbrev behind_rows : List Tuple → List Tuple → Changed
behind_rows rows new = (rows ++ new, length new)

behind : {A : Type 0} (t : Table) (change : Change) (new : List Tuple) (known : List A) → new_places known ≡ new_places new
    → step_of t change ≡ Ok (record { table = t.name; had = length t.rows; rows = t.rows ++ new; counted = length new; origins = stays t.rows ++ new_places known })
    → Stepped t change (t.rows ++ new) (touched.Added (length t.rows) (length new))
behind t change new known n e = record {
  places = stays t.rows ++ new_places known;
  is = e;
  later = λ places l. with_new places t.rows new known l n ∙ sym (behind_through (with_none places t.rows) t.rows known (with_none_long places t.rows l));
  short = λ places l. let m = length-append t.rows new in omega (arith, l, m);
  first = behind_first t.rows known;
  whole = tt;
}

module _ (t : Table) (vs : List Visited) (m : length vs ≡ length t.rows) where
  after_update : (change : Change)
      → step_of t change ≡ Ok (record { table = t.name; had = length t.rows; rows = map (λ (row : Visited). row.0) vs; counted = length (taken t.rows vs); origins = map place_unless_true (enumerate_from 0 vs) })
      → Stepped t change (map (λ (row : Visited). row.0) vs) (touched.Replaced (taken t.rows vs))
  after_update change e =
      let rows = map (λ (row : Visited). row.0) vs in
      let l = length-map vs (λ (row : Visited). row.0) ∙ m in
      record {
        places = map place_unless_true (enumerate_from 0 vs);
        is = e;
        later = λ places p. update_noted places t.rows rows vs p l m;
        short = λ places p. update_short places t.rows rows vs p l m;
        first = update_first t.rows vs m;
        whole = tt;
      }

  after_delete : (change : Change) → zip t.rows (flags_of vs) ≡ vs
      → step_of t change ≡ Ok (record { table = t.name; had = length t.rows; rows = visited_as false vs; counted = length (taken t.rows vs); origins = places_left vs })
      → Stepped t change (visited_as false vs) (touched.Gone (flags_of vs) (taken t.rows vs))
  after_delete change z e = record {
    places = places_left vs;
    is = e;
    later = λ places p. ap (λ l. with_none (noted places (touched.Gone (flags_of vs) (taken t.rows vs))) (visited_as false l)) (sym z) ∙ delete_noted places t.rows vs p m;
    short = λ places p. subst (λ (l : List Visited). length (noted places (touched.Gone (flags_of vs) (taken t.rows vs))) ≤ length (visited_as false l)) z (left_short places t.rows (flags_of vs) p);
    first = delete_first t.rows vs m;
    whole = let n = length-map vs (λ (row : Visited). row.1) in omega (arith, n, m);
  }

all_visited : (f : ℕ × Tuple → Result Visited Refused) (rows : List Tuple) (vs : List Visited) → each f (enumerate_from 1 rows) ≡ Ok vs → length vs ≡ length rows
all_visited f rows vs e = each_length f (enumerate_from 1 rows) vs e ∙ length-enumerate_from 1 rows

pub step_made : (t : Table) (change : Change) (after : List Tuple) (it : Touched) → made t.schema t.rows change ≡ Ok (after, it) → Stepped t change after it
step_made t (Insert name rows) after it h =
    let f = inserted_row t.schema in
    kind_made t (each f (enumerate_from 1 rows)) (behind_rows t.rows) (λ new. touched.Added (length t.rows) (length new)) (Ok (stays t.rows ++ new_places rows))
    (λ new. stays t.rows ++ new_places rows) (λ x e. refl) (λ x e. refl) after it (Stepped t (Insert name rows)) h (λ new e g. behind t (Insert name rows) new rows (inserted_places f rows new e) g)
step_made t (Append name rows) after it h =
    kind_made t (Ok rows) (behind_rows t.rows) (λ new. touched.Added (length t.rows) (length new)) (Ok (stays t.rows ++ new_places rows))
    (λ new. stays t.rows ++ new_places rows) (λ x e. refl) (λ x e. refl) after it (Stepped t (Append name rows)) h
    (λ new e g. behind t (Append name rows) new rows (ap new_places (let q : rows ≡ new = cc in q)) g)
step_made t (Update name sets filter) after it h =
    let f = updated_row t.schema sets filter in
    kind_made t (each f (enumerate_from 1 t.rows)) updated_rows (λ vs. touched.Replaced (taken t.rows vs)) (origins_of t (Update name sets filter))
    (λ vs. map place_unless_true (enumerate_from 0 vs)) (λ vs e. ap (λ (r : Result (List Visited) Refused). r >>= (λ vs. Ok (map place_unless_true (enumerate_from 0 vs)))) e)
    (λ vs e. sym (counted_from 0 t.rows vs (all_visited f t.rows vs e))) after it (Stepped t (Update name sets filter)) h
    (λ vs e g. after_update t vs (all_visited f t.rows vs e) (Update name sets filter) g)
step_made t (Delete name filter) after it h =
    let f = deleted_row filter in
    kind_made t (each f (enumerate_from 1 t.rows)) left_rows (λ vs. touched.Gone (flags_of vs) (taken t.rows vs)) (origins_of t (Delete name filter))
    places_left (λ vs e. ap (λ (r : Result (List Visited) Refused). r >>= (λ vs. Ok (places_left vs))) e)
    (λ vs e. sym (counted_from 0 t.rows vs (all_visited f t.rows vs e))) after it (Stepped t (Delete name filter)) h
    (λ vs e g. after_delete t vs (all_visited f t.rows vs e) (Delete name filter) (zipped filter 1 t.rows vs e) g)

pub step_refused : (t : Table) (change : Change) (d : Refused) → made t.schema t.rows change ≡ Err d → step_of t change ≡ Err d
step_refused t (Insert name rows) d h =
    kind_refused t (each (inserted_row t.schema) (enumerate_from 1 rows)) (behind_rows t.rows) (λ new. touched.Added (length t.rows) (length new)) (Ok (stays t.rows ++ new_places rows))
    (λ new. stays t.rows ++ new_places rows) (λ x e. refl) (λ x e. refl) d h
step_refused t (Append name rows) d h =
    kind_refused t (Ok rows) (behind_rows t.rows) (λ new. touched.Added (length t.rows) (length new)) (Ok (stays t.rows ++ new_places rows))
    (λ new. stays t.rows ++ new_places rows) (λ x e. refl) (λ x e. refl) d h
step_refused t (Update name sets filter) d h =
    let f = updated_row t.schema sets filter in
    kind_refused t (each f (enumerate_from 1 t.rows)) updated_rows (λ vs. touched.Replaced (taken t.rows vs)) (origins_of t (Update name sets filter))
    (λ vs. map place_unless_true (enumerate_from 0 vs)) (λ vs e. ap (λ (r : Result (List Visited) Refused). r >>= (λ vs. Ok (map place_unless_true (enumerate_from 0 vs)))) e)
    (λ vs e. sym (counted_from 0 t.rows vs (all_visited f t.rows vs e))) d h
step_refused t (Delete name filter) d h =
    let f = deleted_row filter in
    kind_refused t (each f (enumerate_from 1 t.rows)) left_rows (λ vs. touched.Gone (flags_of vs) (taken t.rows vs)) (origins_of t (Delete name filter))
    places_left (λ vs e. ap (λ (r : Result (List Visited) Refused). r >>= (λ vs. Ok (places_left vs))) e)
    (λ vs e. sym (counted_from 0 t.rows vs (all_visited f t.rows vs e))) d h
