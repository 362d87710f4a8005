-- Keys of which some are exchanged for others.
use Rattle.std.proofs.Common.{◌≡◌, ℕ, ◌+◌, ◌<◌, ◌≤◌, List, [], ◌∷◌, ◌++◌, Bool, true, false, not, ◌&&◌, ◌||◌, length, map, get_or, Some, None, Result, Ok, refl, sym, ap, ◌∙◌, subst, arith}
use Rattle.std.specs.Prelude.{if◌then◌else◌}
use Rattle.std.specs.List.{enumerate_from, filter, zip}
use Rattle.std.proofs.lemmas.List.{append-nil, drop_all, get_or-map, length-map}
use Rattle.mq_values.specs.declared.faults.Refused.{Refused}
use Rattle.mq_ir.specs.declared.statement.Schema.{Schema}
use Rattle.mq_ir.specs.Changes.{Visited, first_repeated, row_key, visited_as}
use Rattle.mq_ir.specs.Keys.{Tuple, is_among, is_same}
use Rattle.mq_ir.specs.Results.{each}
use Rattle.mq_tables.specs.Exchanging.{AddsBeside, ComesFor, Exchanged, keys_put}
use Rattle.mq_tables.specs.InPlace.{put_at, rows_gone}
use Rattle.mq_tables.specs.KeyOrder.{AreKeys, HoldsSame, Loses, PutsTo}
use Rattle.mq_tables.specs.Visits.{flags_of}
use Rattle.mq_tables.proofs.AscendingLemmas.{others_kept}
use Rattle.mq_tables.proofs.FitLemmas.{each_cons, each_nil}
use Rattle.mq_tables.proofs.KeyLemmas.{repeated_alike, swapped}
use Rattle.mq_tables.proofs.KeyOrderLemmas.{Adding, adding_next, moved, or_false}
use Rattle.mq_tables.proofs.LoseLemmas.{left_kept, same_turned}
use Rattle.mq_tables.proofs.SeekLemmas.{either_false, next_apart}

-- keys that repeat none repeat none behind another key that is none of them
apart_still : (earlier keys : List Tuple) (y : Tuple) → first_repeated earlier keys ≡ None → is_among keys y ≡ false → first_repeated (y ∷ earlier) keys ≡ None
apart_still earlier [] y n a = refl
apart_still earlier (k ∷ keys) y n a =
    let p = next_apart earlier keys k n in
    let q = either_false (is_same y k) (is_among keys y) a in
    ap (λ b. if b then Some k else first_repeated (k ∷ (y ∷ earlier)) keys) (ap (λ b. b || is_among earlier k) (same_turned k y ∙ q.0) ∙ p.0)
    ∙ repeated_alike (k ∷ (y ∷ earlier)) (y ∷ (k ∷ earlier)) (λ z. swapped (is_same z k) (is_same z y) (is_among earlier z)) keys
    ∙ apart_still (k ∷ earlier) keys y p.1 q.1

module _ (key : Tuple → Tuple) where
  abbrev keys_left : List Visited → List Tuple
  keys_left visited = map key (visited_as false visited)

  abbrev keys_new : List Visited → List Tuple
  keys_new visited = map key (visited_as true visited)

  abbrev keys_all : List Visited → List Tuple
  keys_all visited = map key (map (λ (row : Visited). row.0) visited)

  -- a key is that of a row that was visited as true or of another one
  pub in_both : (visited : List Visited) (q : Tuple) → is_among (keys_all visited) q ≡ (is_among (keys_new visited) q || is_among (keys_left visited) q)
  in_both [] q = refl
  in_both ((row, true) ∷ visited) q = ap (λ b. is_same q (key row) || b) (in_both visited q) ∙ grouped (is_same q (key row)) (is_among (keys_new visited) q) (is_among (keys_left visited) q)
    where
      grouped : (a b c : Bool) → (a || (b || c)) ≡ ((a || b) || c)
      grouped true b c = refl
      grouped false b c = refl
  in_both ((row, false) ∷ visited) q = ap (λ b. is_same q (key row) || b) (in_both visited q) ∙ swapped (is_same q (key row)) (is_among (keys_new visited) q) (is_among (keys_left visited) q)

  -- where the others repeat none, and those that were visited as true repeat none behind them, no two are the same
  pub woven : (earlier : List Tuple) (visited : List Visited) → first_repeated earlier (keys_left visited) ≡ None → (behind : List Tuple) → ((q : Tuple) → is_among behind q ≡ (is_among (keys_left visited) q || is_among earlier q))
      → first_repeated behind (keys_new visited) ≡ None → first_repeated earlier (keys_all visited) ≡ None
  woven earlier [] n behind b m = refl
  woven earlier ((row, false) ∷ visited) n behind b m =
      let k = key row in
      let p = next_apart earlier (keys_left visited) k n in
      ap (λ t. if t then Some k else first_repeated (k ∷ earlier) (keys_all visited)) p.0
      ∙ woven (k ∷ earlier) visited p.1 behind (λ q. b q ∙ moved (is_same q k) (is_among (keys_left visited) q) (is_among earlier q)) m
  woven earlier ((row, true) ∷ visited) n behind b m =
      let k = key row in
      let p = next_apart behind (keys_new visited) k m in
      let o = either_false (is_among (keys_left visited) k) (is_among earlier k) (sym (b k) ∙ p.0) in
      ap (λ t. if t then Some k else first_repeated (k ∷ earlier) (keys_all visited)) o.1
      ∙ woven (k ∷ earlier) visited (apart_still earlier (keys_left visited) k n o.0) (k ∷ behind)
      (λ q. ap (λ t. is_same q k || t) (b q) ∙ swapped (is_same q k) (is_among (keys_left visited) q) (is_among earlier q)) p.1

-- ---- new keys, row by row
pub adding_start : (schema : Schema) (earlier rows keys : List Tuple) → keys ≡ [] → Adding schema earlier rows 0 keys
adding_start schema earlier rows keys e = record {
  is = ap (λ (k : List Tuple). first_repeated (earlier ++ k) (map (row_key schema) rows)) e ∙ ap (λ (l : List Tuple). first_repeated l (map (row_key schema) rows)) (append-nil earlier);
  among = λ q. ap (λ (k : List Tuple). is_among (map (row_key schema) rows) q || is_among k q) e ∙ or_false (is_among (map (row_key schema) rows) q);
}

pub adding_end : (schema : Schema) (earlier rows keys : List Tuple) (i : ℕ) → length rows ≤ i → Adding schema earlier rows i keys
    → (first_repeated earlier (map (row_key schema) rows) ≡ None) × ((q : Tuple) → is_among keys q ≡ is_among (map (row_key schema) rows) q)
adding_end schema earlier rows keys i h a = (
  sym a.is ∙ ap (λ (l : List Tuple). first_repeated (earlier ++ keys) (map (row_key schema) l)) (drop_all i rows h),
  λ q. sym (ap (λ (l : List Tuple). is_among (map (row_key schema) l) q || is_among keys q) (drop_all i rows h)) ∙ a.among q,
)

abbrev pub rows_put : List (ℕ × Tuple) → List Tuple
rows_put puts = map (λ (put : ℕ × Tuple). put.1) puts

keys_fused : (schema : Schema) (puts : List (ℕ × Tuple)) → map (row_key schema) (rows_put puts) ≡ keys_put schema puts
keys_fused schema [] = refl
keys_fused schema (put ∷ puts) = ap (λ l. row_key schema put.1 ∷ l) (keys_fused schema puts)

-- the new keys so far, whatever is left of the others
abbrev pub AddingBeside : Schema → List Tuple → List Tuple → List (ℕ × Tuple) → ℕ → List Tuple → Type 0
AddingBeside schema order old puts i keys = (left : List Tuple) → Loses order old left → Adding schema left (rows_put puts) i keys

pub beside_next : (schema : Schema) (order old : List Tuple) (puts : List (ℕ × Tuple)) (keys after : List Tuple) (i : ℕ) (put : ℕ × Tuple) (key : Tuple) (gone : List Tuple) (added : Bool)
    → i < length puts → put ≡ get_or puts i put → key ≡ row_key schema put.1 → HoldsSame old gone → added ≡ not ((is_among order key && not (is_among gone key)) || is_among keys key) → added ≡ true → PutsTo key keys after
    → AddingBeside schema order old puts i keys → AddingBeside schema order old puts (i + 1) after
beside_next schema order old puts keys after i put key gone added h e k g a t n adding left lost =
    adding_next schema left (rows_put puts) keys after i put.1 key added (let m = length-map puts (λ (p : ℕ × Tuple). p.1) in omega (arith, m, h))
    (ap (λ (p : ℕ × Tuple). p.1) e ∙ sym (get_or-map (λ (p : ℕ × Tuple). p.1) puts i put put.1 h)) k
    (a ∙ ap (λ b. not ((is_among order key && not b) || is_among keys key)) (g key) ∙ ap (λ b. not (b || is_among keys key)) (sym (lost key))) t n (adding left lost)

-- what is left of keys, for one
abbrev without : List Tuple → List Tuple → List Tuple
without order old = filter (λ k. not (is_among old k)) order

without_lost : (order old : List Tuple) → Loses order old (without order old)
without_lost order old = others_kept order old (without order old) refl

pub beside_end : (schema : Schema) (order old : List Tuple) (puts : List (ℕ × Tuple)) (keys : List Tuple) (i : ℕ) → length puts ≤ i → AddingBeside schema order old puts i keys
    → AddsBeside order old (keys_put schema puts) keys
beside_end schema order old puts keys i h adding = record {
  apart = λ left lost. ap (first_repeated left) (sym (keys_fused schema puts)) ∙ (adding_end schema left (rows_put puts) keys i (long h) (adding left lost)).0;
  among = λ q. (adding_end schema (without order old) (rows_put puts) keys i (long h) (adding (without order old) (without_lost order old))).1 q ∙ ap (λ (l : List Tuple). is_among l q) (keys_fused schema puts);
}
  where
    long : length puts ≤ i → length (rows_put puts) ≤ i
    long g = let m = length-map puts (λ (p : ℕ × Tuple). p.1) in omega (arith, m, g)

-- ---- rows that come for others
told_rows : (schema : Schema) (n : ℕ) (xs : List Visited)
    → map (λ (put : ℕ × Tuple). row_key schema put.1) (map (λ (row : ℕ × Visited). (row.0, row.1.0)) (filter (λ (row : ℕ × Visited). row.1.1) (enumerate_from n xs))) ≡ map (row_key schema) (visited_as true xs)
told_rows schema n [] = refl
told_rows schema n ((row, true) ∷ xs) = ap (λ l. row_key schema row ∷ l) (told_rows schema (n + 1) xs)
told_rows schema n ((row, false) ∷ xs) = told_rows schema (n + 1) xs

module _ (schema : Schema) (rows order : List Tuple) (known : AreKeys (map (row_key schema) rows) order) (puts were : List (ℕ × Tuple)) (come : ComesFor rows puts were) where
  abbrev visited : List Visited
  visited = come.visited

  old_are : keys_put schema were ≡ map (row_key schema) (rows_gone rows (flags_of visited))
  old_are = ap (keys_put schema) come.were_are ∙ told_rows schema 0 (zip rows (flags_of visited))

  new_are : keys_put schema puts ≡ map (row_key schema) (visited_as true visited)
  new_are = ap (keys_put schema) come.puts_are ∙ told_rows schema 0 visited

  many : length (flags_of visited) ≡ length rows
  many = length-map visited (λ (row : Visited). row.1) ∙ come.many

  module _ (after : List Tuple) (done : Exchanged order (keys_put schema were) (keys_put schema puts) after) where
    others : AreKeys (map (row_key schema) (visited_as false visited)) done.left
    others =
        subst (λ (l : List Tuple). AreKeys (map (row_key schema) l) done.left) come.stay
        (left_kept (row_key schema) rows (flags_of visited) order done.left many known (subst (λ (keys : List Tuple). Loses order keys done.left) old_are done.lost))

    pub exchanged : AreKeys (map (row_key schema) (put_at puts rows)) after
    exchanged = subst (λ (l : List Tuple). AreKeys (map (row_key schema) l) after) (sym come.put) (record {
      all = λ q.
          done.both q
          ∙ ap (λ (l : List Tuple). is_among l q || is_among done.left q) new_are
          ∙ ap (λ b. is_among (map (row_key schema) (visited_as true visited)) q || b) (others.all q)
          ∙ sym (in_both (row_key schema) visited q);
      apart =
          woven (row_key schema) [] visited others.apart done.left (λ q. others.all q ∙ sym (or_false (is_among (map (row_key schema) (visited_as false visited)) q)))
          (ap (first_repeated done.left) (sym new_are) ∙ done.apart);
    })

-- rows of an UPDATE that are not visited as true stay
pub others_stay : (f : ℕ × Tuple → Result Visited Refused) → ((n : ℕ) (row : Tuple) (v : Visited) → f (n, row) ≡ Ok v → v.1 ≡ false → v.0 ≡ row) → (n : ℕ) (rows : List Tuple) (visited : List Visited)
    → each f (enumerate_from n rows) ≡ Ok visited → visited_as false (zip rows (flags_of visited)) ≡ visited_as false visited
others_stay f s n [] visited h = each_nil f visited (λ vs. visited_as false (zip [] (flags_of vs)) ≡ visited_as false vs) h refl
others_stay f s n (x ∷ rows) visited h =
    each_cons f (n, x) (enumerate_from (n + 1) rows) visited (λ vs. visited_as false (zip (x ∷ rows) (flags_of vs)) ≡ visited_as false vs) h (λ v rest e g.
    by v.1 v rest refl (s n x v e) (others_stay f s (n + 1) rows rest g))
  where
    by : (b : Bool) (v : Visited) (rest : List Visited) → v.1 ≡ b → (v.1 ≡ false → v.0 ≡ x) → visited_as false (zip rows (flags_of rest)) ≡ visited_as false rest
        → visited_as false ((x, v.1) ∷ zip rows (flags_of rest)) ≡ visited_as false (v ∷ rest)
    by true v rest e k p = subst (λ b. ◌≡◌ {A = List Tuple} (map (λ (row : Visited). row.0) (if not b then (x, v.1) ∷ filter (λ (row : Visited). not row.1) (zip rows (flags_of rest)) else filter (λ (row : Visited). not row.1) (zip rows (flags_of rest)))) (map (λ (row : Visited). row.0) (if not b then v ∷ filter (λ (row : Visited). not row.1) rest else filter (λ (row : Visited). not row.1) rest))) (sym e) p
    by false v rest e k p = subst (λ b. ◌≡◌ {A = List Tuple} (map (λ (row : Visited). row.0) (if not b then (x, v.1) ∷ filter (λ (row : Visited). not row.1) (zip rows (flags_of rest)) else filter (λ (row : Visited). not row.1) (zip rows (flags_of rest)))) (map (λ (row : Visited). row.0) (if not b then v ∷ filter (λ (row : Visited). not row.1) rest else filter (λ (row : Visited). not row.1) rest))) (sym e) (λ i. sym (k e) i ∷ p i)
