-- One row more in its group.
use Rattle.std.proofs.Common.{◌≡◌, ℕ, zero, suc, ◌+◌, ◌<◌, ◌≤◌, List, [], ◌∷◌, ◌++◌, Bool, true, false, ◌||◌, cond, length, map, take, get_or, Option, Some, None, refl, sym, ap, subst, add-one, ◌∙◌, arith}
use Rattle.std.specs.Prelude.{if◌then◌else◌, slice_set}
use Rattle.std.specs.BTreeMap.{BTreeMap, get, is_at}
use Rattle.std.specs.List.{enumerate_from, filter}
use Rattle.std.specs.Option.{option_map}
use Rattle.std.proofs.lemmas.List.{append-nil, length-map, length-take, take_more}
use Rattle.mq_values.specs.Order.{cmp_key}
use Rattle.mq_ir.specs.declared.query.ColRef.{ColRef}
use Rattle.mq_ir.specs.Items.{BaseRow, group_key, groups_of}
use Rattle.mq_ir.specs.Keys.{Tuple, each_first, is_among, is_same}
use Rattle.mq_group.specs.Columns.{keys_in}
use Rattle.mq_group.specs.Numbering.{AreGrouped, place_in, places_from}
use Rattle.mq_group.proofs.KeyLemmas.{Distinct, among_first, distinct_first, no_places, none_among, other_way, pushed_first, pushed_place, pushed_places, same_is, same_itself, some_among, same_turned}

abbrev or_zero : Option ℕ → ℕ
or_zero None = 0
or_zero (Some n) = n

some_is : (a b : ℕ) → Some a ≡ Some b → a ≡ b
some_is a b h = ap or_zero h

-- a group gains the number n where its key is k
abbrev gained : (Tuple → List ℕ) → Tuple → ℕ → Tuple → List ℕ
gained f k n q = f q ++ cond (is_same q k) (n ∷ []) []

none_gains : (f : Tuple → List ℕ) (k : Tuple) (n : ℕ) (ks : List Tuple) → is_among ks k ≡ false → map (gained f k n) ks ≡ map f ks
none_gains f k n [] h = refl
none_gains f k n (x ∷ xs) h = by (is_same k x) refl (is_same x k) refl (none_gains f k n xs)
  where
    by : (b : Bool) → is_same k x ≡ b → (c : Bool) → is_same x k ≡ c → (is_among xs k ≡ false → map (gained f k n) xs ≡ map f xs) → (f x ++ cond c (n ∷ []) []) ∷ map (gained f k n) xs ≡ f x ∷ map f xs
    by true e c g r = let no : true ≡ false = sym (ap (λ s. s || is_among xs k) e) ∙ h in cc
    by false e true g r = let no : is_same k x ≡ true = same_turned x k g in cc
    by false e false g r = λ i. append-nil (f x) i ∷ r (sym (ap (λ s. s || is_among xs k) e) ∙ h) i

pub one_gains : (f : Tuple → List ℕ) (k : Tuple) (n g : ℕ) (ks : List Tuple) → Distinct ks → place_in ks k ≡ Some g → slice_set (map f ks) g (get_or (map f ks) g [] ++ n ∷ []) ≡ map (gained f k n) ks
one_gains f k n g [] d h = absurd (cc)
one_gains f k n g (x ∷ xs) d h = by (is_same k x) refl (place_in xs k) refl h (λ m. one_gains f k n m xs d.1)
  where
    Gains : ℕ → Type 0
    Gains g = slice_set (map f (x ∷ xs)) g (get_or (map f (x ∷ xs)) g [] ++ n ∷ []) ≡ map (gained f k n) (x ∷ xs)

    unmoved : (k x : Tuple) → is_same k x ≡ false → gained f k n x ≡ f x
    unmoved k x e = ap (λ b. f x ++ cond b (n ∷ []) []) (other_way k x e) ∙ append-nil (f x)

    Later : Type 0
    Later = (m : ℕ) → place_in xs k ≡ Some m → slice_set (map f xs) m (get_or (map f xs) m [] ++ n ∷ []) ≡ map (gained f k n) xs

    by : (b : Bool) → is_same k x ≡ b → (o : Option ℕ) → place_in xs k ≡ o → (if b then Some 0 else option_map (λ n. n + 1) o) ≡ Some g → Later → Gains g
    by true e o p h r =
        subst Gains (some_is 0 g h)
        (λ i. (f x ++ cond (sym (same_turned k x e) i) (n ∷ []) []) ∷ sym (none_gains f k n xs (ap (is_among xs) (same_is k x e) ∙ d.0)) i)
    by false e None p h r = absurd (cc)
    by false e (Some m) p h r =
        subst Gains (sym (add-one m) ∙ some_is (m + 1) g h)
        (λ i. sym (unmoved k x e) i ∷ r m p i)

key_at : {A B : Type 0} (f : A → B) (xs : List A) (i : ℕ) (x : A) (d : B) → i < length xs → x ≡ get_or xs i x → get_or (map f xs) i d ≡ f x
key_at f [] i x d h e = absurd (omega arith)
key_at f (y ∷ ys) zero x d h e = ap f (sym e)
key_at f (y ∷ ys) (suc i) x d h e = key_at f ys i x d (omega arith) e

map_push : {A B : Type 0} (f : A → B) (xs : List A) (x : A) → map f (xs ++ x ∷ []) ≡ map f xs ++ f x ∷ []
map_push f [] x = refl
map_push f (y ∷ ys) x = ap (λ l. f y ∷ l) (map_push f ys x)

-- ---- one key more
module _ (keys : List Tuple) (n : ℕ) (k : Tuple) (h : n < length keys) (at : get_or keys n k ≡ k) where
  taken : take (n + 1) keys ≡ take n keys ++ k ∷ []
  taken = take_more keys n k h ∙ ap (λ q. take n keys ++ q ∷ []) at

  long : 0 + length (take n keys) ≡ n
  long = omega (arith, h, length-take n keys)

  all_gain : (q : Tuple) → gained (places_from 0 (take n keys)) k n q ≡ places_from 0 (take (n + 1) keys) q
  all_gain q =
      ap (λ m. places_from 0 (take n keys) q ++ cond (is_same q k) (m ∷ []) []) (sym long)
      ∙ sym (pushed_places 0 k q (take n keys))
      ∙ ap (λ l. places_from 0 l q) (sym taken)

  firsts_are : (b : Bool) → is_among (take n keys) k ≡ b → each_first (take (n + 1) keys) ≡ each_first (take n keys) ++ cond b [] (k ∷ [])
  firsts_are b e = ap each_first taken ∙ pushed_first k (take n keys) ∙ ap (λ b. each_first (take n keys) ++ cond b [] (k ∷ [])) e

  -- the key is there
  pub joined : (numbers : BTreeMap Tuple ℕ) (groups after : List (List ℕ)) (g : ℕ) → AreGrouped keys n numbers groups → get cmp_key numbers k ≡ Some g
      → after ≡ slice_set groups g (get_or groups g [] ++ n ∷ []) → AreGrouped keys (n + 1) numbers after
  joined numbers groups after g a e w = record {
    numbered = λ q. a.numbered q ∙ ap (λ l. place_in l q) (sym same);
    grouped =
        w
        ∙ ap (λ l. slice_set l g (get_or l g [] ++ n ∷ [])) a.grouped
        ∙ one_gains (places_from 0 (take n keys)) k n g (each_first (take n keys)) (distinct_first (take n keys)) place
        ∙ (λ i. map (λ q. all_gain q i) (sym same i));
  }
    where
      place : place_in (each_first (take n keys)) k ≡ Some g
      place = sym (a.numbered k) ∙ e

      among : is_among (take n keys) k ≡ true
      among = sym (among_first k (take n keys)) ∙ some_among (each_first (take n keys)) k g place

      same : each_first (take (n + 1) keys) ≡ each_first (take n keys)
      same = firsts_are true among ∙ append-nil (each_first (take n keys))

  -- the key is new
  pub opened : (numbers later : BTreeMap Tuple ℕ) (groups after : List (List ℕ)) → AreGrouped keys n numbers groups → get cmp_key numbers k ≡ None
      → ((q : Tuple) → get cmp_key later q ≡ cond (is_at (cmp_key k) q) (Some (length groups)) (get cmp_key numbers q))
      → after ≡ groups ++ (n ∷ []) ∷ [] → AreGrouped keys (n + 1) later after
  opened numbers later groups after a e u w = record {
    numbered = λ q.
        u q
        ∙ (λ i. cond (is_same k q) (Some (count i)) (a.numbered q i))
        ∙ sym (pushed_place k q (each_first (take n keys)) apart)
        ∙ ap (λ l. place_in l q) (sym more);
    grouped =
        w
        ∙ (λ i. (a.grouped ∙ sym (none_gains (places_from 0 (take n keys)) k n (each_first (take n keys)) apart)) i ++ sym alone i ∷ [])
        ∙ sym (map_push (gained (places_from 0 (take n keys)) k n) (each_first (take n keys)) k)
        ∙ (λ i. map (λ q. all_gain q i) (sym more i));
  }
    where
      apart : is_among (each_first (take n keys)) k ≡ false
      apart = none_among (each_first (take n keys)) k (sym (a.numbered k) ∙ e)

      new : is_among (take n keys) k ≡ false
      new = sym (among_first k (take n keys)) ∙ apart

      more : each_first (take (n + 1) keys) ≡ each_first (take n keys) ++ k ∷ []
      more = firsts_are false new

      count : length groups ≡ length (each_first (take n keys))
      count = ap length a.grouped ∙ length-map (each_first (take n keys)) (places_from 0 (take n keys))

      alone : gained (places_from 0 (take n keys)) k n k ≡ n ∷ []
      alone = (λ i. no_places 0 k (take n keys) new i ++ cond (same_itself k i) (n ∷ []) [])

-- a group's number is the place of one
pub number_below : (keys : List Tuple) (n : ℕ) (numbers : BTreeMap Tuple ℕ) (groups : List (List ℕ)) (q : Tuple) (g : ℕ) → AreGrouped keys n numbers groups → get cmp_key numbers q ≡ Some g → g < length groups
number_below keys n numbers groups q g a e =
    let below = place_below (each_first (take n keys)) q g (sym (a.numbered q) ∙ e) in
    omega (arith, below, ap length a.grouped, length-map (each_first (take n keys)) (places_from 0 (take n keys)))
  where
    place_below : (ks : List Tuple) (q : Tuple) (g : ℕ) → place_in ks q ≡ Some g → g < length ks
    place_below [] q g h = absurd (cc)
    place_below (x ∷ xs) q g h = by (is_same q x) (place_in xs q) refl h (place_below xs q)
      where
        by : (b : Bool) (o : Option ℕ) → place_in xs q ≡ o → (if b then Some 0 else option_map (λ n. n + 1) o) ≡ Some g → ((m : ℕ) → place_in xs q ≡ Some m → m < length xs) → g < length (x ∷ xs)
        by true o p h r = omega (arith, some_is 0 g h)
        by false None p h r = absurd (cc)
        by false (Some m) p h r = omega (arith, some_is (m + 1) g h, r m p)

-- ---- groups of rows as groups of keys
module _ {R : Type 0} (values : R → BaseRow) where
  numbers_are : (key : BaseRow → Tuple) (s : ℕ) (rows : List R) (k : Tuple)
      → map (λ (row : ℕ × BaseRow). row.0) (filter (λ (row : ℕ × BaseRow). is_same k (key row.1)) (enumerate_from s (map values rows))) ≡ places_from s (map (λ row. key (values row)) rows) k
  numbers_are key s [] k = refl
  numbers_are key s (x ∷ xs) k = by (is_same k (key (values x))) (numbers_are key (s + 1) xs k)
    where
      kept : List (ℕ × BaseRow)
      kept = filter (λ (row : ℕ × BaseRow). is_same k (key row.1)) (enumerate_from (s + 1) (map values xs))

      tested : List (ℕ × Tuple)
      tested = filter (λ (p : ℕ × Tuple). is_same k p.1) (enumerate_from (s + 1) (map (λ row. key (values row)) xs))

      by : (b : Bool) → map (λ (row : ℕ × BaseRow). row.0) kept ≡ map (λ (p : ℕ × Tuple). p.0) tested
          → map (λ (row : ℕ × BaseRow). row.0) (cond b ((s, values x) ∷ kept) kept) ≡ map (λ (p : ℕ × Tuple). p.0) (cond b ((s, key (values x)) ∷ tested) tested)
      by true h = ap (λ l. s ∷ l) h
      by false h = h

  keys_are : (key : BaseRow → Tuple) (rows : List R) → map key (map values rows) ≡ map (λ row. key (values row)) rows
  keys_are key [] = refl
  keys_are key (x ∷ xs) = ap (λ l. key (values x) ∷ l) (keys_are key xs)

  pub groups_are : (cols : List ColRef) (rows : List R) → (cols ≡ [] → ⊥) → groups_of cols (map values rows) ≡ map (places_from 0 (keys_in values cols rows)) (each_first (keys_in values cols rows))
  groups_are [] rows h = absurd (h refl)
  groups_are (c ∷ cs) rows h = λ i. map (λ k. numbers_are (group_key (c ∷ cs)) 0 rows k i) (each_first (keys_are (group_key (c ∷ cs)) rows i))

-- the key of the row of number n
pub key_here : {R : Type 0} (values : R → BaseRow) (cols : List ColRef) (rows : List R) (n : ℕ) (row : R) (k : Tuple) → n < length rows → row ≡ get_or rows n row → k ≡ group_key cols (values row)
    → get_or (keys_in values cols rows) n k ≡ k
key_here values cols rows n row k h e g = key_at (λ row. group_key cols (values row)) rows n row k h e ∙ sym g

pub keys_long : {R : Type 0} (values : R → BaseRow) (cols : List ColRef) (rows : List R) → length (keys_in values cols rows) ≡ length rows
keys_long values cols rows = length-map rows (λ row. group_key cols (values row))
