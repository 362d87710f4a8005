-- Rows in the order of their partition keys, run by run.
use Rattle.std.proofs.Common.{◌≡◌, ℕ, zero, suc, ◌+◌, ◌<◌, ◌≤◌, List, [], ◌∷◌, ◌++◌, Bool, true, false, not, cond, length, map, take, take_all, drop, get_or, Ordering, Less, Equal, Greater, refl, sym, ap, subst, ◌∙◌, add-one, drop-cons, arith}
use Rattle.std.specs.Prelude.{if◌then◌else◌, ◌==◌}
use Rattle.std.proofs.lemmas.List.{append-nil, take_more}
use Rattle.std.specs.Cmp.{IsTotalOrder, on_total, tied_itself}
use Rattle.std.specs.List.{filter}
use Rattle.std.specs.Ordering.{is_eq, is_gt, is_lt, is_ne, ordering_reverse}
use Rattle.mq_values.specs.Order.{cmp_key}
use Rattle.mq_values.specs.OrderLaws.{key_total}
use Rattle.mq_ir.specs.declared.query.ModelPart.{ModelPart}
use Rattle.mq_ir.specs.Keys.{Tuple, each_first, is_same}
use Rattle.mq_ir.specs.Partitions.{ascending, input_of, partitions}
use Rattle.mq_ir.specs.Rising.{Low, Rising}
use Rattle.mq_shape.specs.Runs.{by_parts, has_parts, input_from, inputs_in}
use Rattle.mq_shape.proofs.KeyLemmas.{first_ascending, first_kept, kept_mapped, kept_twice, same_is, same_itself}
use Rattle.mq_ir.specs.SortLaws.{kept_ascending, less_on, mapped_ascending, none_front}

next_item : {A : Type 0} (xs : List A) (i : ℕ) (x : A) → i < length xs → x ≡ get_or xs i x → drop i xs ≡ x ∷ drop (i + 1) xs
next_item xs i x h e = drop-cons xs i x h ∙ (λ j. sym e j ∷ drop (sym (add-one i) j) xs)

one_more : {A : Type 0} (xs : List A) (i : ℕ) (x : A) → i < length xs → x ≡ get_or xs i x → take (i + 1) xs ≡ take i xs ++ x ∷ []
one_more xs i x h e = take_more xs i x h ∙ ap (λ y. take i xs ++ y ∷ []) (sym e)

pub all_taken : {A : Type 0} (i : ℕ) (xs : List A) → length xs ≤ i → take i xs ≡ xs
all_taken i xs h = take_all i xs h

pub parts_total : (parts : ℕ) → IsTotalOrder (by_parts parts)
parts_total parts = on_total (take parts) key_total

module _ (parts : ℕ) where
  -- the rows of one partition are not told apart
  parts_alike : (key x y : Tuple) → has_parts parts key x ≡ true → has_parts parts key y ≡ true → is_gt (by_parts parts x y) ≡ false
  parts_alike key x y h g = ap is_gt (equal_is (by_parts parts x y) (ap (λ a. is_same a (take parts y)) (sym (same_is key (take parts x) h)) ∙ g))
    where
      equal_is : (r : Ordering) → is_eq r ≡ true → r ≡ Equal
      equal_is Less e = cc
      equal_is Equal e = refl
      equal_is Greater e = cc

  pub rows_ascending : (key : Tuple) (rows : List Tuple) → filter (has_parts parts key) (ascending (by_parts parts) rows) ≡ filter (has_parts parts key) rows
  rows_ascending key = kept_ascending (by_parts parts) (has_parts parts key) (parts_alike key)

-- ---- the partitions as those of the rows in order
module _ (part : ModelPart) where
  pub partitions_in : (items : List Tuple) → (part.parts == 0) ≡ false → partitions part items ≡ inputs_in part (ascending (by_parts part.parts) items)
  partitions_in items h =
      ap (λ b. map (input_of part items) (if b then [] ∷ [] else ascending cmp_key (each_first (map (take part.parts) items)))) h
      ∙ (λ i. map (λ key. input_from part key (sym (rows_ascending part.parts key items) i)) (keys_are i))
    where
      keys_are : ascending cmp_key (each_first (map (take part.parts) items)) ≡ each_first (map (take part.parts) (ascending (by_parts part.parts) items))
      keys_are = first_ascending (map (take part.parts) items) ∙ ap each_first (sym (mapped_ascending (take part.parts) cmp_key items))

  -- ---- one run more
  mapped_kept : {A B : Type 0} (f g : A → B) (p : A → Bool) → ((z : A) → p z ≡ true → f z ≡ g z) → (xs : List A) → map f (filter p xs) ≡ map g (filter p xs)
  mapped_kept f g p h [] = refl
  mapped_kept f g p h (x ∷ xs) = by (p x) refl (mapped_kept f g p h xs)
    where
      by : (b : Bool) → p x ≡ b → map f (filter p xs) ≡ map g (filter p xs) → map f (cond b (x ∷ filter p xs) (filter p xs)) ≡ map g (cond b (x ∷ filter p xs) (filter p xs))
      by true e r = λ i. h x e i ∷ r i
      by false e r = r

  pub next_run : (r : Tuple) (rs run others : List Tuple)
      → run ≡ filter (has_parts part.parts (take part.parts r)) (r ∷ rs)
      → others ≡ filter (λ row. not (has_parts part.parts (take part.parts r) row)) (r ∷ rs)
      → inputs_in part (r ∷ rs) ≡ input_from part (take part.parts r) run ∷ inputs_in part others
  next_run r rs run others e g = λ i. input_from part key (sym e i) ∷ tails i
    where
      key : Tuple
      key = take part.parts r

      other : Tuple → Bool
      other k = not (is_same key k)

      left : List Tuple
      left = filter (λ row. other (take part.parts row)) (r ∷ rs)

      passes : (z : Tuple) → other z ≡ true → (row : Tuple) → has_parts part.parts z row ≡ true → other (take part.parts row) ≡ true
      passes z h row f = ap other (sym (same_is z (take part.parts row) f)) ∙ h

      alike : (z : Tuple) → other z ≡ true → input_of part (r ∷ rs) z ≡ input_of part left z
      alike z h = ap (input_from part z) (sym (kept_twice (has_parts part.parts z) (λ row. other (take part.parts row)) (passes z h) (r ∷ rs)))

      left_is : left ≡ filter (λ row. other (take part.parts row)) rs
      left_is = ap (λ b. cond (not b) (r ∷ filter (λ row. other (take part.parts row)) rs) (filter (λ row. other (take part.parts row)) rs)) (same_itself key)

      keys_are : filter other (each_first (map (take part.parts) rs)) ≡ each_first (map (take part.parts) left)
      keys_are =
          first_kept other (map (take part.parts) rs)
          ∙ ap each_first (kept_mapped (take part.parts) other rs)
          ∙ ap (λ l. each_first (map (take part.parts) l)) (sym left_is)

      tails : map (input_of part (r ∷ rs)) (filter other (each_first (map (take part.parts) rs))) ≡ inputs_in part others
      tails =
          mapped_kept (input_of part (r ∷ rs)) (input_of part left) other alike (each_first (map (take part.parts) rs))
          ∙ ap (map (input_of part left)) keys_are
          ∙ ap (inputs_in part) (sym g)

-- ---- where a run ends
module _ (parts : ℕ) (first : Tuple) where
  abbrev own : Tuple → Bool
  own = has_parts parts (take parts first)

  -- the first i rows are all of the run
  pub record InRun (rows : List Tuple) (i : ℕ) : Type 0 where
    pub run : filter own rows ≡ take i rows ++ filter own (drop i rows)
    pub others : filter (λ row. not (own row)) rows ≡ filter (λ row. not (own row)) (drop i rows)
    pub least : Low (by_parts parts) first (drop i rows)
    pub rising : Rising (by_parts parts) (drop i rows)

  less_is : (r s : Ordering) → is_ne r ≡ true → s ≡ ordering_reverse r → is_lt s ≡ false → r ≡ Less
  less_is Less s h e l = refl
  less_is Equal s h e l = cc
  less_is Greater s h e l = let t : is_lt s ≡ true = ap is_lt e in cc

  -- the run ends before this row, or with all rows
  pub record RunIs (rows : List Tuple) (i : ℕ) : Type 0 where
    pub run : take i rows ≡ filter own rows
    pub others : drop i rows ≡ filter (λ row. not (own row)) rows

  all_other : (x y : Tuple) (ys : List Tuple) → by_parts parts first y ≡ Less → Low (by_parts parts) y ys → filter (λ row. not (own row)) ys ≡ ys
  all_other x y [] h l = refl
  all_other x y (z ∷ zs) h l =
      ap (λ r. cond (not (is_eq r)) (z ∷ filter (λ row. not (own row)) zs) (filter (λ row. not (own row)) zs)) (less_on (parts_total parts) first y z h l.0)
      ∙ ap (λ l. z ∷ l) (all_other x y zs h l.1)

  pub in_run_stop : (rows : List Tuple) (i : ℕ) (row : Tuple) → i < length rows → row ≡ get_or rows i row → is_ne (by_parts parts first row) ≡ true → InRun rows i → RunIs rows i
  in_run_stop rows i row h e n w =
      let at : drop i rows ≡ row ∷ drop (i + 1) rows = next_item rows i row h e in
      let l = subst (Low (by_parts parts) first) at w.least in
      let r = subst (Rising (by_parts parts)) at w.rising in
      let less : by_parts parts first row ≡ Less = less_is (by_parts parts first row) (by_parts parts row first) n ((parts_total parts).antisymm row first) l.0 in
      record {
        run =
            sym (w.run
            ∙ ap (λ l. take i rows ++ filter own l) at
            ∙ ap (λ l. take i rows ++ l) (none_front (parts_total parts) first row (drop (i + 1) rows) less r.0)
            ∙ append-nil (take i rows));
        others =
            sym (w.others
            ∙ ap (filter (λ row. not (own row))) at
            ∙ ap (λ r. cond (not (is_eq r)) (row ∷ filter (λ row. not (own row)) (drop (i + 1) rows)) (filter (λ row. not (own row)) (drop (i + 1) rows))) less
            ∙ ap (λ l. row ∷ l) (all_other row row (drop (i + 1) rows) less r.0)
            ∙ sym at);
      }

-- ---- the loop over the runs
module _ (parts : ℕ) where
  itself : (x : Tuple) → is_lt (by_parts parts x x) ≡ false
  itself x = ap is_lt (tied_itself (parts_total parts) x)

  pub low_first : (first : Tuple) (rest : List Tuple) → first ≡ get_or rest 0 first → Rising (by_parts parts) rest → Low (by_parts parts) first rest
  low_first first [] e r = tt
  low_first first (x ∷ xs) e r = subst (λ f. Low (by_parts parts) f (x ∷ xs)) (sym e) (itself x, r.0)

  -- a run has a row at least
  pub run_some : (first : Tuple) (rest : List Tuple) (n : ℕ) → 0 < length rest → first ≡ get_or rest 0 first → take n rest ≡ filter (has_parts parts (take parts first)) rest → 0 < n
  run_some first [] n h e t = absurd (omega arith)
  run_some first (x ∷ xs) zero h e t = absurd (none (t ∙ ap (λ b. cond b (x ∷ filter (has_parts parts (take parts first)) xs) (filter (has_parts parts (take parts first)) xs)) own))
    where
      own : has_parts parts (take parts first) x ≡ true
      own = ap (λ k. is_same (take parts k) (take parts x)) e ∙ same_itself (take parts x)

      none : {A : Type 0} {y : A} {ys : List A} → [] ≡ y ∷ ys → ⊥
      none h = absurd (cc)
  run_some first (x ∷ xs) (suc n) h e t = omega arith

module _ (part : ModelPart) where
  pub run_taken : (first : Tuple) (rest : List Tuple) (n : ℕ) → 0 < length rest → first ≡ get_or rest 0 first
      → take n rest ≡ filter (has_parts part.parts (take part.parts first)) rest
      → drop n rest ≡ filter (λ row. not (has_parts part.parts (take part.parts first) row)) rest
      → inputs_in part rest ≡ input_from part (take part.parts first) (take n rest) ∷ inputs_in part (drop n rest)
  run_taken first [] n h e t d = absurd (omega arith)
  run_taken first (x ∷ xs) n h e t d =
      subst (λ (f : Tuple). take n (x ∷ xs) ≡ filter (has_parts part.parts (take part.parts f)) (x ∷ xs)
      → drop n (x ∷ xs) ≡ filter (λ row. not (has_parts part.parts (take part.parts f) row)) (x ∷ xs)
      → inputs_in part (x ∷ xs) ≡ input_from part (take part.parts f) (take n (x ∷ xs)) ∷ inputs_in part (drop n (x ∷ xs)))
      (sym e) (next_run part x xs (take n (x ∷ xs)) (drop n (x ∷ xs))) t d

  -- ---- without PARTITION BY
  all_kept : (rows : List Tuple) → filter (has_parts 0 []) rows ≡ rows
  all_kept [] = refl
  all_kept (x ∷ xs) = ap (λ b. cond b (x ∷ filter (has_parts 0 []) xs) (filter (has_parts 0 []) xs)) (same_itself []) ∙ ap (λ l. x ∷ l) (all_kept xs)

  pub undivided_is : (items : List Tuple) → part.parts ≡ 0 → partitions part items ≡ input_from part [] items ∷ []
  undivided_is items h =
      ap (λ n. map (input_of part items) (if n == 0 then [] ∷ [] else ascending cmp_key (each_first (map (take n) items)))) h
      ∙ ap (λ l. input_from part [] l ∷ []) (ap (λ n. filter (has_parts n []) items) h ∙ all_kept items)
