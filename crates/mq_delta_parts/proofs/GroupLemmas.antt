-- Changes in the order of their partition keys, run by run.
use Rattle.std.proofs.Common.{◌≡◌, ℕ, zero, suc, ◌<◌, Bool, true, false, not, ◌||◌, cond, List, [], ◌∷◌, ◌++◌, map, take, drop, length, get_or, Ordering, Less, Equal, Greater, refl, sym, ap, subst, ◌∙◌, arith}
use Rattle.std.specs.Cmp.{IsTotalOrder, on_total}
use Rattle.std.specs.List.{filter, list_any}
use Rattle.std.specs.List.Sorted.{IsPartitionPoint, IsPartitionedBy, IsStrictlySortedBy}
use Rattle.std.specs.Ordering.{is_eq, is_gt, is_lt}
use Rattle.std.proofs.lemmas.Bool.{or_from}
use Rattle.std.proofs.lemmas.List.{map-append}
use Rattle.std.proofs.lemmas.List.Elements.{filter-append}
use Rattle.mq_values.specs.Order.{cmp_key}
use Rattle.mq_values.specs.OrderLaws.{key_total}
use Rattle.mq_values.specs.OrderTells.{key_itself}
use Rattle.mq_ir.specs.EachLaws.{Each, each_append, each_kept}
use Rattle.mq_ir.specs.Keys.{Tuple, is_among, is_same}
use Rattle.mq_ir.specs.Partitions.{ascending}
use Rattle.mq_ir.specs.Rising.{Low, Rising}
use Rattle.mq_ir.specs.SortLaws.{kept_ascending, rising_ascending, rising_kept}
use Rattle.mq_shape.specs.Runs.{has_parts}
use Rattle.mq_change_laws.specs.KeyLaws.{any_append, any_ascending, each_map, same_itself, same_turned}
use Rattle.mq_change_laws.specs.SoundLaws.{same_is}
use Rattle.mq_delta_parts.specs.Groups.{AreGroups, Change, Grouped, NoneLess, by_key, changes_of, group_from, group_of, has_key, is_touched, keys_in, rows_marked, with_mark}
use Rattle.mq_delta_parts.specs.declared.groups.PartChange.{PartChange}
use Rattle.mq_delta_parts.proofs.ListLemmas.{kept_all, kept_mapped}
use Rattle.mq_delta_parts.proofs.EditLemmas.{turned}

-- ---- what a partition point cuts
module _ {A : Type 0} (p : A → Bool) where
  all_pass : (xs : List A) → ((k : ℕ) (d : A) → k < length xs → p (get_or xs k d) ≡ true) → (filter p xs ≡ xs) × (filter (λ x. not (p x)) xs ≡ [])
  all_pass [] h = (refl, refl)
  all_pass (x ∷ xs) h =
      let r = all_pass xs (λ k d l. h (suc k) d (omega arith)) in
      let first : p x ≡ true = h 0 x (omega arith) in (
        (λ i. cond (first i) (x ∷ r.0 i) (r.0 i)),
        ap (λ b. cond (not b) (x ∷ filter (λ y. not (p y)) xs) (filter (λ y. not (p y)) xs)) first ∙ r.1,
      )

  none_pass : (xs : List A) → ((k : ℕ) (d : A) → k < length xs → p (get_or xs k d) ≡ false) → (filter p xs ≡ []) × (filter (λ x. not (p x)) xs ≡ xs)
  none_pass [] h = (refl, refl)
  none_pass (x ∷ xs) h =
      let r = none_pass xs (λ k d l. h (suc k) d (omega arith)) in
      let first : p x ≡ false = h 0 x (omega arith) in (
        ap (λ b. cond b (x ∷ filter p xs) (filter p xs)) first ∙ r.0,
        (λ i. cond (not (first i)) (x ∷ r.1 i) (r.1 i)),
      )

  pub parted : (n : ℕ) (xs : List A) → IsPartitionPoint (λ y. p y ≡ true) (λ y. p y ≡ false) xs n → (take n xs ≡ filter p xs) × (drop n xs ≡ filter (λ x. not (p x)) xs)
  parted zero xs h = let r = none_pass xs (λ k d l. h.1 k d (omega arith) l) in (sym r.0, sym r.1)
  parted (suc n) [] h = (refl, refl)
  parted (suc n) (x ∷ xs) h =
      let r = parted n xs ((λ k d a l. h.0 (suc k) d (omega arith) (omega arith)), (λ k d a l. h.1 (suc k) d (omega arith) (omega arith))) in
      let first : p x ≡ true = h.0 0 x (omega arith) (omega arith) in (
        (λ i. cond (sym first i) (x ∷ r.0 i) (r.0 i)),
        r.1 ∙ ap (λ b. cond (not b) (x ∷ filter (λ y. not (p y)) xs) (filter (λ y. not (p y)) xs)) (sym first),
      )

-- ---- rows by their keys
module _ (parts : ℕ) where
  abbrev key_of : Change → Tuple
  key_of change = take parts change.0

  pub total : IsTotalOrder (by_key parts)
  total = on_total key_of key_total

  -- a row behind one that is of the partition is of it, or of a greater one
  module _ (key : Tuple) where
    equal_on : (b : Change) → is_lt (cmp_key (key_of b) key) ≡ false → (a : Change) → is_lt (by_key parts a b) ≡ false → has_key parts key a ≡ true → has_key parts key b ≡ true
    equal_on b n a l h = by (cmp_key key (key_of b)) refl
      where
        by : (r : Ordering) → cmp_key key (key_of b) ≡ r → is_eq r ≡ true
        by Equal e = refl
        by Greater e = let k : true ≡ false = sym (ap is_lt (turned key (key_of b) Greater e)) ∙ n in cc
        by Less e = let k : true ≡ false = sym (ap is_lt e) ∙ ap (λ u. is_lt (cmp_key u (key_of b))) (same_is key (key_of a) h) ∙ l in cc

    low_at : (x : Change) (xs : List Change) → Low (by_key parts) x xs → (j : ℕ) (d : Change) → j < length xs → is_lt (by_key parts (get_or xs j d) x) ≡ false
    low_at x [] l j d m = absurd (omega arith)
    low_at x (y ∷ ys) l zero d m = l.0
    low_at x (y ∷ ys) l (suc j) d m = low_at x ys l.1 j d (omega arith)

    pub is_parted : (xs : List Change) → NoneLess parts key xs → Rising (by_key parts) xs → IsPartitionedBy (has_key parts key) xs
    is_parted [] n r i j d a l h = absurd (omega arith)
    is_parted (x ∷ xs) n r zero zero d a l h = h
    is_parted (x ∷ xs) n r zero (suc j) d a l h = equal_on x n.0 (get_or xs j d) (low_at x xs r.0 j d (omega arith)) h
    is_parted (x ∷ xs) n r (suc i) zero d a l h = absurd (omega arith)
    is_parted (x ∷ xs) n r (suc i) (suc j) d a l h = is_parted xs n.1 r.1 i j d (omega arith) (omega arith) h

  low_none : (x : Change) (xs : List Change) → Low (by_key parts) x xs → NoneLess parts (key_of x) xs
  low_none x [] l = tt
  low_none x (y ∷ ys) l = (l.0, low_none x ys l.1)

  pub first_least : (first : Change) (rest : List Change) → 0 < length rest → first ≡ get_or rest 0 first → Rising (by_key parts) rest → NoneLess parts (key_of first) rest
  first_least first [] n e r = absurd (omega arith)
  first_least first (x ∷ xs) n e r = subst (λ (f : Change). NoneLess parts (key_of f) (x ∷ xs)) (sym e) (ap is_lt (key_itself (key_of x)), low_none x xs r.0)

  -- a run has a row at least
  pub run_some : (first : Change) (rest : List Change) (n : ℕ) → 0 < length rest → first ≡ get_or rest 0 first → take n rest ≡ filter (has_key parts (key_of first)) rest → 0 < n
  run_some first [] n h e t = absurd (omega arith)
  run_some first (x ∷ xs) zero h e t = absurd (none (t ∙ ap (λ b. cond b (x ∷ filter (has_key parts (key_of first)) xs) (filter (has_key parts (key_of first)) xs)) own))
    where
      own : has_key parts (key_of first) x ≡ true
      own = ap (λ (f : Change). is_same (key_of f) (key_of x)) e ∙ same_itself (key_of x)

      none : {A : Type 0} {y : A} {ys : List A} → [] ≡ y ∷ ys → ⊥
      none h = absurd (cc)
  run_some first (x ∷ xs) (suc n) h e t = omega arith

  -- ---- the loop over the runs
  abbrev Ahead : List Change → Tuple → Type 0
  Ahead rest key = Each (λ change. cmp_key key (key_of change) ≡ Less) rest

  pub record Stage (all rest : List Change) (groups : List PartChange) : Type 0 where
    pub rising : Rising (by_key parts) rest
    pub ahead : Each (Ahead rest) (keys_in groups)
    pub left : (q : Tuple) → is_among (keys_in groups) q ≡ false → filter (has_key parts q) rest ≡ filter (has_key parts q) all
    pub done : Grouped parts all rest groups

  none_ascends : IsStrictlySortedBy cmp_key []
  unfolding IsStrictlySortedBy
  none_ascends = tt

  pub stage_start : (all : List Change) (groups : List PartChange) → groups ≡ [] → Rising (by_key parts) all → Stage all all groups
  stage_start all groups e r = subst (Stage all all) (sym e) start
    where
      start : Stage all all []
      start = record { rising = r; ahead = tt; left = λ q h. refl; done = record { ascend = none_ascends; touched = λ q. refl; rows = refl } }

  -- a key behind others
  strict_push : (keys : List Tuple) (key : Tuple) → IsStrictlySortedBy cmp_key keys → Each (λ q. cmp_key q key ≡ Less) keys → IsStrictlySortedBy cmp_key (keys ++ key ∷ [])
  unfolding IsStrictlySortedBy
  strict_push [] key s a = (tt, tt)
  strict_push (x ∷ xs) key s a = (each_append (λ y. cmp_key x y ≡ Less) xs (key ∷ []) s.0 (a.0, tt), strict_push xs key s.1 a.1)

  apart : (keys : List Tuple) (key : Tuple) → Each (λ q. cmp_key q key ≡ Less) keys → is_among keys key ≡ false
  apart [] key a = refl
  apart (x ∷ xs) key a = or_from (is_same key x) (is_among xs key) (ap is_eq (turned x key Less a.0)) (apart xs key a.1)

  -- what is kept of other changes
  any_others : (q key : Tuple) (xs : List Change) → is_same q key ≡ false → list_any (has_key parts q) (filter (λ change. not (has_key parts key change)) xs) ≡ list_any (has_key parts q) xs
  any_others q key [] n = refl
  any_others q key (x ∷ xs) n = by (has_key parts key x) refl (any_others q key xs n)
    where
      by : (b : Bool) → has_key parts key x ≡ b → list_any (has_key parts q) (filter (λ change. not (has_key parts key change)) xs) ≡ list_any (has_key parts q) xs
          → list_any (has_key parts q) (cond (not b) (x ∷ filter (λ change. not (has_key parts key change)) xs) (filter (λ change. not (has_key parts key change)) xs)) ≡ (has_key parts q x || list_any (has_key parts q) xs)
      by true e h = h ∙ sym (ap (λ b. b || list_any (has_key parts q) xs) (sym (ap (is_same q) (same_is key (key_of x) e)) ∙ n))
      by false e h = ap (λ b. has_key parts q x || b) h

  above_others : (key : Tuple) (xs : List Change) → NoneLess parts key xs → Ahead (filter (λ change. not (has_key parts key change)) xs) key
  above_others key [] n = tt
  above_others key (x ∷ xs) n = by (cmp_key key (key_of x)) refl (above_others key xs n.1)
    where
      others : List Change
      others = filter (λ change. not (has_key parts key change)) xs

      by : (r : Ordering) → cmp_key key (key_of x) ≡ r → Ahead others key → Ahead (cond (not (is_eq r)) (x ∷ others) others) key
      by Less e h = (e, h)
      by Equal e h = h
      by Greater e h = let k : true ≡ false = sym (ap is_lt (turned key (key_of x) Greater e)) ∙ n.0 in absurd (cc)

  module _ (all rest : List Change) (groups : List PartChange) (first : Change) (long : 0 < length rest) (is : first ≡ get_or rest 0 first) (w : Stage all rest groups) where
    abbrev next : List Change
    next = filter (λ change. not (has_key parts (key_of first) change)) rest

    least : NoneLess parts (key_of first) rest
    least = first_least first rest long is w.rising

    -- the key of the run is behind all keys so far
    ahead_first : (xs : List Change) (q : Tuple) → 0 < length xs → first ≡ get_or xs 0 first → Ahead xs q → cmp_key q (key_of first) ≡ Less
    ahead_first [] q n e a = absurd (omega arith)
    ahead_first (x ∷ xs) q n e a = ap (λ (f : Change). cmp_key q (key_of f)) e ∙ a.0

    behind : Each (λ q. cmp_key q (key_of first) ≡ Less) (keys_in groups)
    behind = each_map (Ahead rest) (λ q. cmp_key q (key_of first) ≡ Less) (λ q a. ahead_first rest q long is a) (keys_in groups) w.ahead

    not_yet : is_among (keys_in groups) (key_of first) ≡ false
    not_yet = apart (keys_in groups) (key_of first) behind

    module _ (more : List PartChange) (group : PartChange) (pushed : more ≡ groups ++ group ∷ []) (made : group ≡ group_from (key_of first) (filter (has_key parts (key_of first)) rest)) where
      keys_more : keys_in more ≡ keys_in groups ++ key_of first ∷ []
      keys_more =
          ap keys_in pushed
          ∙ map-append (λ (g : PartChange). g.key) groups (group ∷ [])
          ∙ ap (λ (g : PartChange). keys_in groups ++ g.key ∷ []) made

      among_more : (q : Tuple) → is_among (keys_in more) q ≡ (is_among (keys_in groups) q || is_same q (key_of first))
      among_more q = ap (λ l. is_among l q) keys_more ∙ any_append (is_same q) (keys_in groups) (key_of first ∷ []) ∙ ap (λ b. is_among (keys_in groups) q || b) (or_none (is_same q (key_of first)))
        where
          or_none : (b : Bool) → (b || false) ≡ b
          or_none true = refl
          or_none false = refl

      any_first : list_any (has_key parts (key_of first)) rest ≡ true
      any_first = there rest long is
        where
          there : (xs : List Change) → 0 < length xs → first ≡ get_or xs 0 first → list_any (has_key parts (key_of first)) xs ≡ true
          there [] n e = absurd (omega arith)
          there (x ∷ xs) n e = ap (λ b. b || list_any (has_key parts (key_of first)) xs) (ap (λ (f : Change). is_same (key_of f) (key_of x)) e ∙ same_itself (key_of x))

      stays_touched : (q : Tuple) → (is_among (keys_in more) q || list_any (has_key parts q) next) ≡ list_any (has_key parts q) all
      stays_touched q = ap (λ b. b || list_any (has_key parts q) next) (among_more q) ∙ by (is_same q (key_of first)) refl ∙ w.done.touched q
        where
          whole : (a b c : Bool) → c ≡ true → ((a || true) || b) ≡ (a || c)
          whole true b true e = refl
          whole false b true e = refl
          whole a b false e = cc

          rest_of : (a b c : Bool) → b ≡ c → ((a || false) || b) ≡ (a || c)
          rest_of true b c e = refl
          rest_of false b c e = e

          by : (s : Bool) → is_same q (key_of first) ≡ s → ((is_among (keys_in groups) q || is_same q (key_of first)) || list_any (has_key parts q) next) ≡ (is_among (keys_in groups) q || list_any (has_key parts q) rest)
          by true e =
              ap (λ s. (is_among (keys_in groups) q || s) || list_any (has_key parts q) next) e
              ∙ whole (is_among (keys_in groups) q) (list_any (has_key parts q) next) (list_any (has_key parts q) rest)
              (ap (λ u. list_any (has_key parts u) rest) (same_is q (key_of first) e) ∙ any_first)
          by false e =
              ap (λ s. (is_among (keys_in groups) q || s) || list_any (has_key parts q) next) e
              ∙ rest_of (is_among (keys_in groups) q) (list_any (has_key parts q) next) (list_any (has_key parts q) rest) (any_others q (key_of first) rest e)

      stays_left : (q : Tuple) → is_among (keys_in more) q ≡ false → filter (has_key parts q) next ≡ filter (has_key parts q) all
      stays_left q n = let p = parts_of (is_among (keys_in groups) q) (is_same q (key_of first)) (sym (among_more q) ∙ n) in
          kept_all (has_key parts q) (λ change. not (has_key parts (key_of first) change)) (λ z h. ap not (other z h p.1)) rest ∙ w.left q p.0
        where
          parts_of : (a b : Bool) → (a || b) ≡ false → (a ≡ false) × (b ≡ false)
          parts_of true b e = cc
          parts_of false b e = (refl, e)

          other : (z : Change) → has_key parts q z ≡ true → is_same q (key_of first) ≡ false → has_key parts (key_of first) z ≡ false
          other z h e = ap (is_same (key_of first)) (sym (same_is q (key_of z) h)) ∙ same_turned (key_of first) q ∙ e

      abbrev f : Tuple → PartChange
      f k = group_from k (filter (has_key parts k) all)

      stays_rows : more ≡ map f (keys_in more)
      stays_rows =
          pushed
          ∙ (λ i. w.done.rows i ++ (made ∙ ap (group_from (key_of first)) (w.left (key_of first) not_yet)) i ∷ [])
          ∙ sym (map-append f (keys_in groups) (key_of first ∷ []))
          ∙ ap (map f) (sym keys_more)

      -- a run more
      pub stage_next : (others : List Change) → others ≡ next → Stage all others more
      stage_next others e = subst (λ l. Stage all l more) (sym e) (record {
        rising = rising_kept total (λ change. not (has_key parts (key_of first) change)) rest w.rising;
        ahead =
            subst (Each (Ahead next)) (sym keys_more)
            (each_append (Ahead next) (keys_in groups) (key_of first ∷ [])
            (each_map (Ahead rest) (Ahead next) (λ q a. each_kept (λ change. cmp_key q (key_of change) ≡ Less) (λ change. not (has_key parts (key_of first) change)) rest a) (keys_in groups) w.ahead)
            (above_others (key_of first) rest least, tt));
        left = stays_left;
        done = record { ascend = subst (IsStrictlySortedBy cmp_key) (sym keys_more) (strict_push (keys_in groups) (key_of first) w.done.ascend behind); touched = stays_touched; rows = stays_rows };
      })

  -- no run more
  pub stage_end : (all rest : List Change) (groups : List PartChange) → rest ≡ [] → Stage all rest groups → Grouped parts all [] groups
  stage_end all rest groups e w = subst (λ l. Grouped parts all l groups) e w.done

  -- ---- groups of changes in order are those of the rows
  alike : (key : Tuple) (x y : Change) → has_key parts key x ≡ true → has_key parts key y ≡ true → is_gt (by_key parts x y) ≡ false
  alike key x y h g = ap is_gt ((λ i. cmp_key (sym (same_is key (key_of x) h) i) (sym (same_is key (key_of y) g) i)) ∙ key_itself key)

  marked : (gone come : List Tuple) → (rows_marked false (changes_of gone come) ≡ gone) × (rows_marked true (changes_of gone come) ≡ come)
  marked [] [] = (refl, refl)
  marked [] (row ∷ come) = let r = marked [] come in (r.0, ap (λ l. row ∷ l) r.1)
  marked (row ∷ gone) come = let r = marked gone come in (ap (λ l. row ∷ l) r.0, r.1)

  module _ (gone come : List Tuple) where
    kept_changes : (key : Tuple) → filter (has_key parts key) (ascending (by_key parts) (changes_of gone come)) ≡ changes_of (filter (has_parts parts key) gone) (filter (has_parts parts key) come)
    kept_changes key =
        kept_ascending (by_key parts) (has_key parts key) (alike key) (changes_of gone come)
        ∙ filter-append (has_key parts key) (map (with_mark false) gone) (map (with_mark true) come)
        ∙ (λ i. kept_mapped (with_mark false) (has_key parts key) gone i ++ kept_mapped (with_mark true) (has_key parts key) come i)

    group_is : (key : Tuple) → group_from key (filter (has_key parts key) (ascending (by_key parts) (changes_of gone come))) ≡ group_of parts gone come key
    group_is key =
        let r = marked (filter (has_parts parts key) gone) (filter (has_parts parts key) come) in
        ap (group_from key) (kept_changes key) ∙ (λ i. record { key = key; gone = r.0 i; come = r.1 i })

    any_mapped : {A B : Type 0} (f : A → B) (p : B → Bool) (xs : List A) → list_any p (map f xs) ≡ list_any (λ x. p (f x)) xs
    any_mapped f p [] = refl
    any_mapped f p (x ∷ xs) = ap (λ b. p (f x) || b) (any_mapped f p xs)

    touched_is : (key : Tuple) → list_any (has_key parts key) (ascending (by_key parts) (changes_of gone come)) ≡ is_touched parts gone come key
    touched_is key =
        any_ascending (by_key parts) (has_key parts key) (changes_of gone come)
        ∙ any_append (has_key parts key) (map (with_mark false) gone) (map (with_mark true) come)
        ∙ (λ i. any_mapped (with_mark false) (has_key parts key) gone i || any_mapped (with_mark true) (has_key parts key) come i)

    pub in_order : Rising (by_key parts) (ascending (by_key parts) (changes_of gone come))
    in_order = rising_ascending total (changes_of gone come)

    pub are_groups : (groups : List PartChange) → Grouped parts (ascending (by_key parts) (changes_of gone come)) [] groups → AreGroups parts gone come groups
    are_groups groups g = record {
      ascend = g.ascend;
      touched = λ key. sym (or_none (is_among (keys_in groups) key)) ∙ g.touched key ∙ touched_is key;
      rows = g.rows ∙ (λ i. map (λ key. group_is key i) (keys_in groups));
    }
      where
        or_none : (b : Bool) → (b || false) ≡ b
        or_none true = refl
        or_none false = refl
