-- Each base row is in one group.
use Rattle.std.proofs.Common.{◌≡◌, ◌≢◌, ℕ, zero, suc, ◌+◌, ◌<◌, ◌≤◌, ◌==◌, List, [], ◌∷◌, Bool, true, false, ◌||◌, cond, length, map, refl, ap, ◌∙◌, arith}
use Rattle.std.specs.Cmp.{unsigned_Decides}
use Rattle.std.specs.List.{enumerate_from, filter, list_any, range_with_len}
use Rattle.std.proofs.lemmas.Bool.Decides.{nat_tests}
use Rattle.mq_ir.specs.declared.query.ColRef.{ColRef}
use Rattle.mq_ir.specs.Items.{BaseRow, group_key, rows_with}
use Rattle.mq_ir.specs.Keys.{Tuple, each_first, is_among, is_same}
use Rattle.mq_ir.specs.RowLaws.{RowsHaveOneGroup, groups_with, times}
use Rattle.mq_ir.proofs.KeyLemmas.{once_if, same_is, same_itself, times_first}

abbrev is_number : ℕ → ℕ → Bool
is_number n k = k == n

number_itself : (n : ℕ) → is_number n n ≡ true
number_itself n = grind (arith, nat_tests)

other_number : (n k : ℕ) → k ≢ n → is_number n k ≡ false
other_number n k h = by (is_number n k) refl
  where
    by : (b : Bool) → is_number n k ≡ b → b ≡ false
    by true e = absurd (h ((unsigned_Decides k n).0 e))
    by false e = refl

-- a number that is another one comes later
later_number : (s n : ℕ) → s ≤ n → is_number n s ≡ false → s + 1 ≤ n
later_number s n low e = omega (arith, low, differ)
  where
    differ : s ≢ n
    differ g = let k : is_number n s ≡ true = ap (is_number n) g ∙ number_itself n in cc

-- a number of a range stands in it
in_range : (s len n : ℕ) → s ≤ n → n < s + len → list_any (is_number n) (range_with_len s len) ≡ true
in_range s zero n low high = absurd (omega arith)
in_range s (suc len) n low high = by (is_number n s) refl (λ l. in_range (s + 1) len n l (omega (arith, high)))
  where
    by : (b : Bool) → is_number n s ≡ b → (s + 1 ≤ n → list_any (is_number n) (range_with_len (s + 1) len) ≡ true) → b || list_any (is_number n) (range_with_len (s + 1) len) ≡ true
    by true e r = refl
    by false e r = r (later_number s n low e)

module _ (key : BaseRow → Tuple) where
  -- the numbers, from s on, of the rows whose key is k
  abbrev numbers : ℕ → List BaseRow → Tuple → List ℕ
  numbers s rows k = map (λ (row : ℕ × BaseRow). row.0) (filter (λ (row : ℕ × BaseRow). is_same k (key row.1)) (enumerate_from s rows))

  none_below : (s n : ℕ) (rows : List BaseRow) (k : Tuple) → n < s → list_any (is_number n) (numbers s rows k) ≡ false
  none_below s n [] k h = refl
  none_below s n (x ∷ xs) k h = by (is_same k (key x)) (none_below (s + 1) n xs k (omega (arith, h)))
    where
      by : (b : Bool) → list_any (is_number n) (numbers (s + 1) xs k) ≡ false → list_any (is_number n) (map (λ (row : ℕ × BaseRow). row.0) (cond b ((s, x) ∷ filter (λ (row : ℕ × BaseRow). is_same k (key row.1)) (enumerate_from (s + 1) xs)) (filter (λ (row : ℕ × BaseRow). is_same k (key row.1)) (enumerate_from (s + 1) xs)))) ≡ false
      by true r = ap (λ b. b || list_any (is_number n) (numbers (s + 1) xs k)) (other_number n s (λ e. absurd (omega (arith, h, e)))) ∙ r
      by false r = r

  -- the row of a number: its key is among all, and its number stands with just the keys that are the same
  record RowAt (s n : ℕ) (rows : List BaseRow) : Type 0 where
    row : BaseRow
    among : is_among (map key rows) (key row) ≡ true
    stands : (k : Tuple) → list_any (is_number n) (numbers s rows k) ≡ is_same k (key row)

  row_at : (s n : ℕ) (rows : List BaseRow) → s ≤ n → n < s + length rows → RowAt s n rows
  row_at s n [] low high = absurd (omega arith)
  row_at s n (x ∷ xs) low high = by (is_number n s) refl (λ l. row_at (s + 1) n xs l (omega (arith, high)))
    where
      stands_with : (k : Tuple) (b : Bool) → ℕ → Bool
      stands_with k b d = list_any (is_number n) (map (λ (row : ℕ × BaseRow). row.0) (cond b ((s, x) ∷ filter (λ (row : ℕ × BaseRow). is_same k (key row.1)) (enumerate_from (s + 1) xs)) (filter (λ (row : ℕ × BaseRow). is_same k (key row.1)) (enumerate_from (s + 1) xs))))

      by : (b : Bool) → is_number n s ≡ b → (s + 1 ≤ n → RowAt (s + 1) n xs) → RowAt s n (x ∷ xs)
      by true e f =
          record {
            row = x;
            among = ap (λ b. b || is_among (map key xs) (key x)) (same_itself (key x));
            stands = λ k. here k (is_same k (key x));
          }
        where
          here : (k : Tuple) (b : Bool) → stands_with k b 0 ≡ b
          here k true = ap (λ b. b || list_any (is_number n) (numbers (s + 1) xs k)) e
          here k false = none_below (s + 1) n xs k (omega (arith, (unsigned_Decides s n).0 e))
      by false e f =
          let r = f (later_number s n low e) in
          record {
            row = r.row;
            among = later (is_same (key r.row) (key x)) r.among;
            stands = λ k. there k (is_same k (key x)) ∙ r.stands k;
          }
        where
          later : (b : Bool) {c : Bool} → c ≡ true → b || c ≡ true
          later true h = refl
          later false h = h

          there : (k : Tuple) (b : Bool) → stands_with k b 0 ≡ list_any (is_number n) (numbers (s + 1) xs k)
          there k true = ap (λ b. b || list_any (is_number n) (numbers (s + 1) xs k)) e
          there k false = refl

same_turned : (a b : Tuple) → is_same a b ≡ is_same b a
same_turned a b = by (is_same a b) refl (is_same b a) refl
  where
    by : (s : Bool) → is_same a b ≡ s → (t : Bool) → is_same b a ≡ t → s ≡ t
    by true e true f = refl
    by false e false f = refl
    by true e false f = let g : is_same b a ≡ true = ap (λ k. is_same b k) (same_is a b e) ∙ same_itself b in cc
    by false e true f = let g : is_same a b ≡ true = ap (λ k. is_same a k) (same_is b a f) ∙ same_itself a in cc

-- as many groups hold the number as keys are the same
count_groups : (n : ℕ) (f : Tuple → List ℕ) (q : Tuple) → ((k : Tuple) → list_any (is_number n) (f k) ≡ is_same k q) → (ks : List Tuple) → groups_with n (map f ks) ≡ times q ks
count_groups n f q h [] = refl
count_groups n f q h (k ∷ ks) =
    ap (λ b. length (cond b (f k ∷ filter (list_any (is_number n)) (map f ks)) (filter (list_any (is_number n)) (map f ks)))) (h k ∙ same_turned k q)
    ∙ by (is_same q k) (count_groups n f q h ks)
  where
    by : (b : Bool) → groups_with n (map f ks) ≡ times q ks → length (cond b (f k ∷ filter (list_any (is_number n)) (map f ks)) (filter (list_any (is_number n)) (map f ks))) ≡ length (cond b (k ∷ filter (is_same q) ks) (filter (is_same q) ks))
    by true r = ap suc r
    by false r = r

pub rows_have_one_group : (cols : List ColRef) (rows : List BaseRow) → RowsHaveOneGroup cols rows
rows_have_one_group [] rows n h = ap (λ b. length (cond b (range_with_len 0 (length rows) ∷ []) [])) (in_range 0 (length rows) n (omega arith) (omega (arith, h)))
rows_have_one_group (c ∷ cs) rows n h =
    let key = group_key (c ∷ cs) in
    let r = row_at key 0 n rows (omega arith) (omega (arith, h)) in
    count_groups n (rows_with key rows) (key r.row) r.stands (each_first (map key rows)) ∙ times_first (key r.row) (map key rows) ∙ ap once_if r.among
