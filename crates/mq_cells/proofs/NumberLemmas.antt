-- The numbers of cells once a key came, and those of keys that are numbered in their order.
use Rattle.std.proofs.Common.{◌≡◌, ℕ, zero, suc, ◌+◌, ◌<◌, ◌≤◌, ◌||◌, ◌++◌, Bool, true, false, cond, List, [], ◌∷◌, length, get_or, Option, Some, None, Ordering, Less, Equal, Greater, if◌then◌else◌, slice_get, refl, sym, ap, subst, ◌∙◌, inl, inr, ◌⊎◌, arith}
use Rattle.std.specs.BTreeSet.{insert_key}
use Rattle.std.specs.Cmp.{eq_by_cmp_equiv}
use Rattle.std.specs.List.{insert, list_any, position_from, range_with_len, zip}
use Rattle.std.specs.List.Sorted.{IsStrictlySortedBy}
use Rattle.std.specs.Map.{lookup}
use Rattle.std.specs.Option.{option_and_then, unwrap_or}
use Rattle.std.specs.Ordering.{is_eq, match_ordering}
use Rattle.std.specs.Set.{remove_key}
use Rattle.std.proofs.lemmas.Iterator.Adapters.{position_from-zero}
use Rattle.std.proofs.lemmas.List.Edits.{length-insert}
use Rattle.std.proofs.lemmas.List.FromFn.{get_or-range_with_len, length-range_with_len}
use Rattle.std.proofs.lemmas.List.Quantifiers.{position-Some}
use Rattle.std.proofs.lemmas.Map.Keys.{Less-from_sorted}
use Rattle.std.proofs.lemmas.Option.{slice_get-get_or}
use Rattle.mq_values.specs.Order.{cmp_key}
use Rattle.mq_values.specs.OrderLaws.{key_total}
use Rattle.mq_values.specs.OrderTells.{key_itself}
use Rattle.mq_dim_index.specs.Places.{is_there, place_of, with_key}
use Rattle.mq_ir.specs.Keys.{Tuple, is_same}
use Rattle.mq_cells.specs.Numberings.{AreNumbered, Came, Grows, Numbering, number_of}
use Rattle.mq_cells.specs.AscentLaws.{turned}
use Rattle.mq_cells.proofs.KeyLemmas.{one_key, same_tuple}

-- what stands beside the first key that passes, where f gives what stands beside a place
beside : (test : Tuple → Bool) (f : ℕ → Option ℕ) (n : ℕ) (keys : List Tuple) (numbers : List ℕ) → length numbers ≡ length keys
    → ((i : ℕ) → f (n + i) ≡ slice_get numbers i) → option_and_then f (position_from test n keys) ≡ lookup test (zip keys numbers)
beside test f n [] numbers long h = refl
beside test f n (k ∷ keys) [] long h = absurd (omega (arith, long))
beside test f n (k ∷ keys) (x ∷ numbers) long h = by (test k) (beside test f (n + 1) keys numbers (omega (arith, long)) (λ i. let e : n + 1 + i ≡ n + suc i = omega arith in ap f e ∙ h (suc i)))
  where
    first : f n ≡ Some x
    first = let e : n ≡ n + 0 = omega arith in ap f e ∙ h 0

    by : (b : Bool) → option_and_then f (position_from test (n + 1) keys) ≡ lookup test (zip keys numbers)
        → option_and_then f (cond b (Some n) (position_from test (n + 1) keys)) ≡ cond b (Some x) (lookup test (zip keys numbers))
    by true rest = first
    by false rest = rest

-- a number is that of the first entry of its key
pub as_entries : (cells : Numbering) (key : Tuple) → length cells.numbers ≡ length cells.keys → number_of cells key ≡ lookup (is_same key) (zip cells.keys cells.numbers)
as_entries cells key long =
    ap (option_and_then (slice_get cells.numbers)) (position_from-zero (is_same key) cells.keys)
    ∙ beside (is_same key) (slice_get cells.numbers) 0 cells.keys cells.numbers long (λ i. let e : 0 + i ≡ i = omega arith in ap (slice_get cells.numbers) e)

-- where no key passes, none is found, and the other way round
none_passes : (test : Tuple → Bool) (n : ℕ) (keys : List Tuple) → position_from test n keys ≡ None → list_any test keys ≡ false
none_passes test n [] h = refl
none_passes test n (k ∷ keys) h = by (test k) h (none_passes test (n + 1) keys)
  where
    by : (b : Bool) → cond b (Some n) (position_from test (n + 1) keys) ≡ None → (position_from test (n + 1) keys ≡ None → list_any test keys ≡ false) → (b || list_any test keys) ≡ false
    by true e rest = absurd cc
    by false e rest = rest e

none_found : (test : Tuple → Bool) (n : ℕ) (keys : List Tuple) → list_any test keys ≡ false → position_from test n keys ≡ None
none_found test n [] h = refl
none_found test n (k ∷ keys) h = by (test k) h (none_found test (n + 1) keys)
  where
    by : (b : Bool) → (b || list_any test keys) ≡ false → (list_any test keys ≡ false → position_from test (n + 1) keys ≡ None) → cond b (Some n) (position_from test (n + 1) keys) ≡ None
    by true e rest = absurd cc
    by false e rest = rest e

-- a key without a place is not there
pub lacks_key : (keys : List Tuple) (key : Tuple) → place_of keys key ≡ None → is_there keys key ≡ false
lacks_key keys key h = none_passes (is_same key) 0 keys (sym (position_from-zero (is_same key) keys) ∙ h)

-- a key that is not there has no number
pub lacks_number : (cells : Numbering) (key : Tuple) → is_there cells.keys key ≡ false → number_of cells key ≡ None
lacks_number cells key h = ap (option_and_then (slice_get cells.numbers)) (position_from-zero (is_same key) cells.keys ∙ none_found (is_same key) 0 cells.keys h)

module _ (key : Tuple) where
  -- how many keys stand before the one that comes
  abbrev before : List Tuple → ℕ
  before [] = 0
  before (x ∷ keys) = match_ordering (cmp_key key x) 0 0 (suc (before keys))

  pub itself : is_same key key ≡ true
  itself = ap is_eq (key_itself key)

  apart : (x : Tuple) (keys : List Tuple) → (is_same key x || list_any (is_same key) keys) ≡ false → (is_same key x ≡ false) × (list_any (is_same key) keys ≡ false)
  apart x keys h = by (is_same key x) h
    where
      by : (b : Bool) → (b || list_any (is_same key) keys) ≡ false → (b ≡ false) × (list_any (is_same key) keys ≡ false)
      by true e = absurd cc
      by false e = (refl, e)

  -- its place is behind them
  placed : (n : ℕ) (keys : List Tuple) → list_any (is_same key) keys ≡ false → position_from (is_same key) n (insert_key cmp_key keys key) ≡ Some (n + before keys)
  placed n [] h = let e : n ≡ n + 0 = omega arith in ap (λ b. cond b (Some n) None) itself ∙ ap (λ m. Some m) e
  placed n (x ∷ keys) h = by (cmp_key key x) refl (placed (n + 1) keys (apart x keys h).1)
    where
      by : (r : Ordering) → cmp_key key x ≡ r → position_from (is_same key) (n + 1) (insert_key cmp_key keys key) ≡ Some (n + 1 + before keys)
          → position_from (is_same key) n (match_ordering r (key ∷ x ∷ keys) (x ∷ keys) (x ∷ insert_key cmp_key keys key)) ≡ Some (n + match_ordering r 0 0 (suc (before keys)))
      by Less e rest = let s : n ≡ n + 0 = omega arith in ap (λ b. cond b (Some n) (position_from (is_same key) (n + 1) (x ∷ keys))) itself ∙ ap (λ m. Some m) s
      by Equal e rest = let f : is_eq (cmp_key key x) ≡ true = ap is_eq e in let g = (apart x keys h).0 in absurd cc
      by Greater e rest = let s : n + 1 + before keys ≡ n + suc (before keys) = omega arith in ap (λ b. cond b (Some n) (position_from (is_same key) (n + 1) (insert_key cmp_key keys key))) (ap is_eq e) ∙ rest ∙ ap (λ m. Some m) s

  pub one_more : (keys : List Tuple) → list_any (is_same key) keys ≡ false → length (insert_key cmp_key keys key) ≡ length keys + 1
  one_more [] h = refl
  one_more (x ∷ keys) h = by (cmp_key key x) refl (one_more keys (apart x keys h).1)
    where
      by : (r : Ordering) → cmp_key key x ≡ r → length (insert_key cmp_key keys key) ≡ length keys + 1
          → length (match_ordering r (key ∷ x ∷ keys) (x ∷ keys) (x ∷ insert_key cmp_key keys key)) ≡ length (x ∷ keys) + 1
      by Less e rest = omega arith
      by Equal e rest = let f : is_eq (cmp_key key x) ≡ true = ap is_eq e in let g = (apart x keys h).0 in absurd cc
      by Greater e rest = omega (arith, rest)

  -- it goes as it came
  pub taken_back : (keys : List Tuple) → list_any (is_same key) keys ≡ false → remove_key (is_same key) (insert_key cmp_key keys key) ≡ keys
  taken_back [] h = ap (λ b. cond b [] (key ∷ [])) itself
  taken_back (x ∷ keys) h = by (cmp_key key x) refl (taken_back keys (apart x keys h).1)
    where
      by : (r : Ordering) → cmp_key key x ≡ r → remove_key (is_same key) (insert_key cmp_key keys key) ≡ keys
          → remove_key (is_same key) (match_ordering r (key ∷ x ∷ keys) (x ∷ keys) (x ∷ insert_key cmp_key keys key)) ≡ x ∷ keys
      by Less e rest = ap (λ b. cond b (x ∷ keys) (key ∷ remove_key (is_same key) (x ∷ keys))) itself
      by Equal e rest = let f : is_eq (cmp_key key x) ≡ true = ap is_eq e in let g = (apart x keys h).0 in absurd cc
      by Greater e rest = ap (λ b. cond b (insert_key cmp_key keys key) (x ∷ remove_key (is_same key) (insert_key cmp_key keys key))) (ap is_eq e) ∙ ap (λ l. x ∷ l) rest

  -- the entries with one more
  found_with : (q : Tuple) (number : ℕ) (keys : List Tuple) (numbers : List ℕ) → length numbers ≡ length keys → list_any (is_same key) keys ≡ false
      → lookup (is_same q) (zip (insert_key cmp_key keys key) (insert numbers (before keys) number)) ≡ (if is_same key q then Some number else lookup (is_same q) (zip keys numbers))
  found_with q number [] [] long h = ap (λ b. cond b (Some number) None) ((eq_by_cmp_equiv key_total).symm q key)
  found_with q number [] (n ∷ numbers) long h = absurd (omega (arith, long))
  found_with q number (x ∷ keys) [] long h = absurd (omega (arith, long))
  found_with q number (x ∷ keys) (n ∷ numbers) long h = by (cmp_key key x) refl (found_with q number keys numbers (omega (arith, long)) (apart x keys h).1)
    where
      old : Option ℕ
      old = lookup (is_same q) (zip keys numbers)

      other : cmp_key key x ≡ Greater → (b : Bool) → is_same key q ≡ b → cond (is_same q x) (Some n) (cond b (Some number) old) ≡ cond b (Some number) (cond (is_same q x) (Some n) old)
      other e true f = let g : is_same q x ≡ false = ap (λ k. is_same k x) (sym (same_tuple key q f)) ∙ ap is_eq e in ap (λ b. cond b (Some n) (Some number)) g
      other e false f = refl

      by : (r : Ordering) → cmp_key key x ≡ r
          → lookup (is_same q) (zip (insert_key cmp_key keys key) (insert numbers (before keys) number)) ≡ cond (is_same key q) (Some number) old
          → lookup (is_same q) (zip (match_ordering r (key ∷ x ∷ keys) (x ∷ keys) (x ∷ insert_key cmp_key keys key)) (insert (n ∷ numbers) (match_ordering r 0 0 (suc (before keys))) number))
          ≡ cond (is_same key q) (Some number) (cond (is_same q x) (Some n) old)
      by Less e rest = ap (λ b. cond b (Some number) (cond (is_same q x) (Some n) old)) ((eq_by_cmp_equiv key_total).symm q key)
      by Equal e rest = let f : is_eq (cmp_key key x) ≡ true = ap is_eq e in let g = (apart x keys h).0 in absurd cc
      by Greater e rest = ap (cond (is_same q x) (Some n)) rest ∙ other e (is_same key q) refl

-- nothing beside a place that is there is no number
pub lacks_place : (cells : Numbering) (key : Tuple) → length cells.numbers ≡ length cells.keys → number_of cells key ≡ None → list_any (is_same key) cells.keys ≡ false
lacks_place cells key long h = walk (zip_none cells.keys cells.numbers long (sym (as_entries cells key long) ∙ h))
  where
    walk : list_any (is_same key) cells.keys ≡ false → list_any (is_same key) cells.keys ≡ false
    walk e = e

    zip_none : (keys : List Tuple) (numbers : List ℕ) → length numbers ≡ length keys → lookup (is_same key) (zip keys numbers) ≡ None → list_any (is_same key) keys ≡ false
    zip_none [] numbers l e = refl
    zip_none (k ∷ keys) [] l e = absurd (omega (arith, l))
    zip_none (k ∷ keys) (x ∷ numbers) l e = by (is_same key k) e (zip_none keys numbers (omega (arith, l)))
      where
        by : (b : Bool) → cond b (Some x) (lookup (is_same key) (zip keys numbers)) ≡ None → (lookup (is_same key) (zip keys numbers) ≡ None → list_any (is_same key) keys ≡ false) → (b || list_any (is_same key) keys) ≡ false
        by true e rest = absurd cc
        by false e rest = rest e

-- a cell came behind all others, its key at its place and its number beside it
module _ (cells after : Numbering) (key : Tuple) (number at : ℕ) (numbered : AreNumbered cells) (lacking : number_of cells key ≡ None) (keys : after.keys ≡ with_key cells.keys key)
    (place : place_of after.keys key ≡ Some at) (own : number ≡ length cells.keys) (numbers : after.numbers ≡ insert cells.numbers at number) where
  absent : list_any (is_same key) cells.keys ≡ false
  absent = lacks_place cells key numbered.long lacking

  there : at ≡ before key cells.keys
  there =
      let e : Some at ≡ Some (0 + before key cells.keys) = sym place ∙ ap (λ ks. place_of ks key) keys ∙ position_from-zero (is_same key) (with_key cells.keys key) ∙ placed key 0 cells.keys absent in
      let f : at ≡ 0 + before key cells.keys = ap (λ (o : Option ℕ). unwrap_or o at) e in
      omega (arith, f)

  numbers_are : after.numbers ≡ insert cells.numbers (before key cells.keys) number
  numbers_are = numbers ∙ ap (λ p. insert cells.numbers p number) there

  within : at ≤ length cells.numbers
  within =
      let b : at < length after.keys = (position-Some (is_same key) after.keys at key place).0 in
      let e = ap length keys ∙ one_more key cells.keys absent in let l = numbered.long in omega (arith, b, e, l)

  more : length after.numbers ≡ length cells.numbers + 1
  more = ap length numbers ∙ length-insert cells.numbers at number within

  longer : length after.numbers ≡ length after.keys
  longer = let e = ap length keys ∙ one_more key cells.keys absent in let l = numbered.long in let m = more in omega (arith, e, l, m)

  number_is : number ≡ length cells.numbers
  number_is = own ∙ sym numbered.long

  found_after : (q : Tuple) → number_of after q ≡ (if is_same key q then Some number else number_of cells q)
  found_after q =
      as_entries after q longer ∙ (λ i. lookup (is_same q) (zip (keys i) (numbers_are i))) ∙ found_with key q number cells.keys cells.numbers numbered.long absent
      ∙ ap (λ o. if is_same key q then Some number else o) (sym (as_entries cells q numbered.long))

  pub came : number_of after key ≡ Some number
  came = found_after key ∙ ap (λ b. if b then Some number else number_of cells key) (itself key)

  pub grown : Grows cells after
  grown = record { further = let m = more in omega (arith, m); each = λ q. by q (is_same key q) refl }
    where
      by : (q : Tuple) (b : Bool) → is_same key q ≡ b → (number_of after q ≡ number_of cells q) ⊎ Came cells after q
      by q true e =
          let i = number_is in
          inr (subst (λ k. number_of cells k ≡ None) (same_tuple key q e) lacking, (number, found_after q ∙ ap (λ b. if b then Some number else number_of cells q) e, omega (arith, i)))
      by q false e = inl (found_after q ∙ ap (λ b. if b then Some number else number_of cells q) e)

  pub numbered_after : AreNumbered after
  numbered_after = record { long = longer; below = λ q n h. low q n (is_same key q) refl h; once = λ a b n h k. one a b n (is_same key a) (is_same key b) refl refl h k }
    where
      of : (q : Tuple) (b : Bool) (n : ℕ) → is_same key q ≡ b → number_of after q ≡ Some n → (if b then Some number else number_of cells q) ≡ Some n
      of q b n e h = ap (λ c. if c then Some number else number_of cells q) (sym e) ∙ sym (found_after q) ∙ h

      low : (q : Tuple) (n : ℕ) (b : Bool) → is_same key q ≡ b → number_of after q ≡ Some n → n < length after.numbers
      low q n true e h = let f : number ≡ n = ap (λ (o : Option ℕ). unwrap_or o n) (of q true n e h) in let m = more in let g = number_is in omega (arith, f, m, g)
      low q n false e h = let f : n < length cells.numbers = numbered.below q n (of q false n e h) in let m = more in omega (arith, f, m)

      one : (a b : Tuple) (n : ℕ) (x y : Bool) → is_same key a ≡ x → is_same key b ≡ y → number_of after a ≡ Some n → number_of after b ≡ Some n → is_same a b ≡ true
      one a b n true true e f h k = subst (λ c. is_same c b ≡ true) (same_tuple key a e) f
      one a b n true false e f h k =
          let g : number ≡ n = ap (λ (o : Option ℕ). unwrap_or o n) (of a true n e h) in
          let l : n < length cells.numbers = numbered.below b n (of b false n f k) in let i = number_is in absurd (omega (arith, g, l, i))
      one a b n false true e f h k =
          let g : number ≡ n = ap (λ (o : Option ℕ). unwrap_or o n) (of b true n f k) in
          let l : n < length cells.numbers = numbered.below a n (of a false n e h) in let i = number_is in absurd (omega (arith, g, l, i))
      one a b n false false e f h k = numbered.once a b n (of a false n e h) (of b false n f k)

-- more came behind those that came
pub grown_on : (a b c : Numbering) → Grows a b → Grows b c → Grows a c
grown_on a b c f g = record { further = let x = f.further in let y = g.further in omega (arith, x, y); each = λ q. by q (f.each q) (g.each q) }
  where
    by : (q : Tuple) → (number_of b q ≡ number_of a q) ⊎ Came a b q → (number_of c q ≡ number_of b q) ⊎ Came b c q → (number_of c q ≡ number_of a q) ⊎ Came a c q
    by q (inl e) (inl h) = inl (h ∙ e)
    by q (inl e) (inr (none, (n, found, l))) = let x = f.further in inr (sym e ∙ none, (n, found, omega (arith, x, l)))
    by q (inr (none, (n, found, l))) (inl h) = inr (none, (n, h ∙ found, l))
    by q (inr (none, (n, found, l))) (inr (lacking, rest)) = let e : Some n ≡ None = sym found ∙ lacking in absurd cc

-- nothing came
pub grown_none : (cells after : Numbering) → after ≡ cells → Grows cells after
grown_none cells after e = subst (λ c. Grows cells c) (sym e) (record { further = omega arith; each = λ q. inl refl })

-- ascending keys
module _ where
  -- a key stands before those behind it
  later : (x : Tuple) (keys : List Tuple) (at : ℕ) (d : Tuple) → IsStrictlySortedBy cmp_key (x ∷ keys) → at < length keys → cmp_key (get_or keys at d) x ≡ Greater
  later x keys at d s l = turned x (get_or keys at d) Less (Less-from_sorted cmp_key (x ∷ keys) 0 (suc at) d s (omega arith) (omega (arith, l)))

  placed_itself : (keys : List Tuple) (n at : ℕ) (d : Tuple) → IsStrictlySortedBy cmp_key keys → at < length keys → position_from (is_same (get_or keys at d)) n keys ≡ Some (n + at)
  unfolding IsStrictlySortedBy
  placed_itself [] n at d s l = absurd (omega (arith, l))
  placed_itself (x ∷ keys) n zero d s l = let e : n ≡ n + 0 = omega arith in ap (λ b. cond b (Some n) (position_from (is_same x) (n + 1) keys)) (itself x) ∙ ap (λ m. Some m) e
  placed_itself (x ∷ keys) n (suc at) d s l =
      let e : n + 1 + at ≡ n + suc at = omega arith in
      ap (λ b. cond b (Some n) (position_from (is_same (get_or keys at d)) (n + 1) keys)) (ap is_eq (later x keys at d s (omega (arith, l))))
      ∙ placed_itself keys (n + 1) at d s.1 (omega (arith, l)) ∙ ap (λ m. Some m) e

  -- each key stands at its place alone
  pub place_itself : (keys : List Tuple) (at : ℕ) (d : Tuple) → IsStrictlySortedBy cmp_key keys → at < length keys → place_of keys (get_or keys at d) ≡ Some at
  place_itself keys at d s l = let e : 0 + at ≡ at = omega arith in position_from-zero (is_same (get_or keys at d)) keys ∙ placed_itself keys 0 at d s l ∙ ap (λ m. Some m) e

  kept_at : (keys : List Tuple) (at : ℕ) (d : Tuple) → IsStrictlySortedBy cmp_key keys → at < length keys → insert_key cmp_key keys (get_or keys at d) ≡ keys
  unfolding IsStrictlySortedBy
  kept_at [] at d s l = absurd (omega (arith, l))
  kept_at (x ∷ keys) zero d s l = ap (λ r. match_ordering r (x ∷ x ∷ keys) (x ∷ keys) (x ∷ insert_key cmp_key keys x)) (key_itself x)
  kept_at (x ∷ keys) (suc at) d s l =
      let key = get_or keys at d in
      ap (λ r. match_ordering r (key ∷ x ∷ keys) (x ∷ keys) (x ∷ insert_key cmp_key keys key)) (later x keys at d s (omega (arith, l)))
      ∙ ap (λ ks. x ∷ ks) (kept_at keys at d s.1 (omega (arith, l)))

  -- a key that is there changes nothing
  pub kept : (cells : Numbering) (key : Tuple) (n : ℕ) → IsStrictlySortedBy cmp_key cells.keys → number_of cells key ≡ Some n → with_key cells.keys key ≡ cells.keys
  kept cells key n s h = by (place_of cells.keys key) refl h
    where
      by : (o : Option ℕ) → place_of cells.keys key ≡ o → option_and_then (slice_get cells.numbers) o ≡ Some n → with_key cells.keys key ≡ cells.keys
      by None e f = absurd cc
      by (Some at) e f =
          let found = position-Some (is_same key) cells.keys at key e in
          let same = same_tuple key (get_or cells.keys at key) found.1 in
          subst (λ k. with_key cells.keys k ≡ cells.keys) (sym same) (kept_at cells.keys at key s found.0)

-- one number more
next_from : (a n : ℕ) → range_with_len a (n + 1) ≡ range_with_len a n ++ (a + n) ∷ []
next_from a zero = let e : a ≡ a + 0 = omega arith in ap (λ m. m ∷ []) e
next_from a (suc n) =
    let f : suc n + 1 ≡ suc (n + 1) = omega arith in let e : a + 1 + n ≡ a + suc n = omega arith in
    ap (range_with_len a) f ∙ ap (λ l. a ∷ l) (next_from (a + 1) n ∙ ap (λ m. range_with_len (a + 1) n ++ m ∷ []) e)

pub next_number : (n : ℕ) → range_with_len 0 (n + 1) ≡ range_with_len 0 n ++ n ∷ []
next_number n = let e : 0 + n ≡ n = omega arith in next_from 0 n ∙ ap (λ m. range_with_len 0 n ++ m ∷ []) e

-- keys that are numbered in their order
module _ (keys : List Tuple) where
  abbrev pub in_order : Numbering
  in_order = record { keys = keys; numbers = range_with_len 0 (length keys) }

  pub number_is_place : (key : Tuple) (o : Option ℕ) → place_of keys key ≡ o → number_of in_order key ≡ o
  number_is_place key None e = ap (option_and_then (slice_get (range_with_len 0 (length keys)))) e
  number_is_place key (Some at) e =
      let below = (position-Some (is_same key) keys at key e).0 in
      let long = length-range_with_len 0 (length keys) in
      ap (option_and_then (slice_get (range_with_len 0 (length keys)))) e ∙ slice_get-get_or (range_with_len 0 (length keys)) at at (omega (arith, below, long))
      ∙ ap (λ n. Some n) (let e : 0 + at ≡ at = omega arith in get_or-range_with_len 0 (length keys) at at below ∙ e)

  at_place : (key : Tuple) (n : ℕ) → number_of in_order key ≡ Some n → place_of keys key ≡ Some n
  at_place key n h = sym (number_is_place key (place_of keys key) refl) ∙ h

  pub numbered_in_order : AreNumbered in_order
  numbered_in_order = record {
    long = length-range_with_len 0 (length keys);
    below = λ key n h. let b = (position-Some (is_same key) keys n key (at_place key n h)).0 in let l = length-range_with_len 0 (length keys) in omega (arith, b, l);
    once = λ a b n h k. one_key keys a b n (at_place a n h) (at_place b n k);
  }
