-- The assigned measures, round by round, are those that ascend by their rounds.
use Rattle.std.proofs.Common.{◌≡◌, ℕ, zero, suc, ◌+◌, ◌-◌, ◌<◌, ◌≤◌, Bool, true, false, not, ◌||◌, List, [], ◌∷◌, ◌++◌, cond, drop, get_or, length, map, Option, Some, None, IsSome, slice_get, slice_index_or, Ordering, Less, Equal, Greater, refl, sym, ap, subst, ◌∙◌, arith}
use Rattle.std.specs.Prelude.{is_none}
use Rattle.std.specs.Cmp.{IsTotalOrder, nat_cmp_total, on_total, then_total}
use Rattle.std.specs.List.{All, cons_option, filter, filter_map, find, list_any, range_with_len}
use Rattle.std.specs.Option.{option_and_then, option_map, option_map_or}
use Rattle.std.specs.Ordering.{is_eq, is_lt, nat_cmp, ordering_then}
use Rattle.std.proofs.lemmas.Bool.{and_parts}
use Rattle.std.proofs.lemmas.List.Elements.{filter-append}
use Rattle.mq_values.specs.ListLaws.{next_item}
use Rattle.mq_values.specs.Order.{cmp_key}
use Rattle.mq_values.specs.OrderLaws.{key_total}
use Rattle.mq_ir.specs.declared.query.CellName.{CellName}
use Rattle.mq_ir.specs.declared.query.Look.{Look}
use Rattle.mq_ir.specs.declared.query.PartShape.{PartShape}
use Rattle.mq_ir.specs.declared.query.Rule.{Rule}
use Rattle.mq_ir.specs.Derivations.{assigned_names, cmp_name, is_same_measure, round_of}
use Rattle.mq_ir.specs.EachLaws.{Each, all_of, each_in, each_kept}
use Rattle.mq_ir.specs.Looks.{looks_of}
use Rattle.mq_ir.specs.Partitions.{ascending}
use Rattle.mq_ir.specs.Rising.{Low, Rising}
use Rattle.mq_ir.specs.Shape.{Assignment, assigns, cmp_assignment}
use Rattle.mq_ir.specs.Slots.{site_in}
use Rattle.mq_ir.specs.SortLaws.{one_rising, rising_ascending, rising_kept, tied, tied_ascending}
use Rattle.mq_ir.specs.Unfolding.{Model}
use Rattle.mq_cells.specs.Stores.{name_assigned}
use Rattle.mq_change_laws.specs.SoundLaws.{found_has}
use Rattle.mq_auto_shape.specs.Found as found
use Rattle.mq_auto_shape.specs.Found.{AreRoundsOf, IsRuled, comes_in, is_levelled}
use Rattle.mq_lineage.specs.Found.{IsFound}
use Rattle.mq_lineage.specs.Ordered.{AreWithin, by_rounds, cmp_by_round, names_at, names_in}
use Rattle.mq_lineage.proofs.LevelLemmas.{level, level_stays, round_is}
use Rattle.mq_lineage.proofs.NodeLemmas.{named_itself, named_same}
use Rattle.mq_lineage.proofs.RoundLemmas.{comes, round, rounds, rounds_keep, rounds_rise}
use Rattle.mq_lineage.proofs.SetLemmas.{one_name}

-- ---- what tests keep
pub kept_swapped : {X : Type 0} (p q : X → Bool) (xs : List X) → filter p (filter q xs) ≡ filter q (filter p xs)
kept_swapped p q [] = refl
kept_swapped p q (x ∷ xs) = by (p x) refl (q x) refl (kept_swapped p q xs)
  where
    by : (a : Bool) → p x ≡ a → (b : Bool) → q x ≡ b → filter p (filter q xs) ≡ filter q (filter p xs)
        → filter p (cond b (x ∷ filter q xs) (filter q xs)) ≡ filter q (cond a (x ∷ filter p xs) (filter p xs))
    by true e true f h =
        ap (λ c. cond c (x ∷ filter p (filter q xs)) (filter p (filter q xs))) e ∙ ap (λ l. x ∷ l) h
        ∙ sym (ap (λ c. cond c (x ∷ filter q (filter p xs)) (filter q (filter p xs))) f)
    by true e false f h = h ∙ sym (ap (λ c. cond c (x ∷ filter q (filter p xs)) (filter q (filter p xs))) f)
    by false e true f h = ap (λ c. cond c (x ∷ filter p (filter q xs)) (filter p (filter q xs))) e ∙ h
    by false e false f h = h

map_kept : {X Y : Type 0} (f : X → Y) (p : Y → Bool) (xs : List X) → map f (filter (λ x. p (f x)) xs) ≡ filter p (map f xs)
map_kept f p [] = refl
map_kept f p (x ∷ xs) = by (p (f x)) (map_kept f p xs)
  where
    by : (b : Bool) → map f (filter (λ x. p (f x)) xs) ≡ filter p (map f xs)
        → map f (cond b (x ∷ filter (λ x. p (f x)) xs) (filter (λ x. p (f x)) xs)) ≡ cond b (f x ∷ filter p (map f xs)) (filter p (map f xs))
    by true h = ap (λ l. f x ∷ l) h
    by false h = h

none_passes : {X : Type 0} (p : X → Bool) (xs : List X) → list_any p xs ≡ false → filter p xs ≡ []
none_passes p [] h = refl
none_passes p (x ∷ xs) h = by (p x) h (none_passes p xs)
  where
    by : (b : Bool) → (b || list_any p xs) ≡ false → (list_any p xs ≡ false → filter p xs ≡ []) → cond b (x ∷ filter p xs) (filter p xs) ≡ []
    by true h rest = cc
    by false h rest = rest h

-- the items at the places that pass, from place a on
places_kept : {X Y : Type 0} (f : X → Y) (t : X → Bool) (all xs : List X) (a : ℕ) → ((i : ℕ) → slice_get all (a + i) ≡ slice_get xs i)
    → filter_map (λ place. option_map f (slice_get all place)) (filter (λ place. option_map_or t (slice_get all place) false) (range_with_len a (length xs)))
    ≡ map f (filter t xs)
places_kept f t all [] a h = refl
places_kept {X} {Y} f t all (x ∷ xs) a h = ap (λ o. filter_map item (cond (option_map_or t o false) (a ∷ others) others)) at ∙ by (t x) (places_kept f t all xs (a + 1) next)
  where
    item : ℕ → Option Y
    item place = option_map f (slice_get all place)

    others : List ℕ
    others = filter (λ place. option_map_or t (slice_get all place) false) (range_with_len (a + 1) (length xs))

    at : slice_get all a ≡ Some x
    at = let same : a ≡ a + 0 = omega arith in ap (slice_get all) same ∙ h 0

    next : (i : ℕ) → slice_get all (a + 1 + i) ≡ slice_get xs i
    next i = let same : a + 1 + i ≡ a + suc i = omega arith in ap (slice_get all) same ∙ h (suc i)

    by : (b : Bool) → filter_map item others ≡ map f (filter t xs)
        → filter_map item (cond b (a ∷ others) others) ≡ map f (cond b (x ∷ filter t xs) (filter t xs))
    by true e = ap (λ o. cons_option (option_map f o) (filter_map item others)) at ∙ ap (λ l. f x ∷ l) e
    by false e = e

places_below : (n a b : ℕ) → a + n ≤ b → Each (λ place. place < b) (range_with_len a n)
places_below zero a b h = tt
places_below (suc n) a b h = (omega (arith, h), places_below n (a + 1) b (omega (arith, h)))

-- ---- one name more, and those of one round more
pub names_next : (assigned : List Assignment) (round : List ℕ) (i place : ℕ) (a : Assignment) → i < length round → place ≡ get_or round i place
    → slice_get assigned place ≡ Some a → names_at assigned (drop i round) ≡ (name_assigned a ∷ []) ++ names_at assigned (drop (i + 1) round)
names_next assigned round i place a lt is at =
    ap (names_at assigned) (next_item round i place lt is)
    ∙ ap (λ (o : Option Assignment). cons_option (option_map name_assigned o) (names_at assigned (drop (i + 1) round))) at

pub round_next : (assigned : List Assignment) (list : List (List ℕ)) (i : ℕ) (round : List ℕ) → i < length list → round ≡ get_or list i round
    → names_in assigned (drop i list) ≡ names_at assigned round ++ names_in assigned (drop (i + 1) list)
round_next assigned list i round lt is = ap (names_in assigned) (next_item list i round lt is)

-- ---- orders
pub name_total : IsTotalOrder cmp_name
name_total = then_total (on_total (λ (c : CellName). c.key) key_total) (on_total (λ (c : CellName). c.measure) nat_cmp_total)

pub order_total : (model : Model) (shape : PartShape) → IsTotalOrder (cmp_by_round model shape)
order_total model shape = then_total (on_total (round_of model shape) nat_cmp_total) name_total

not_less : (a b c : Ordering) → is_lt (ordering_then a (ordering_then b c)) ≡ false → is_lt (ordering_then a b) ≡ false
not_less Less b c h = h
not_less Greater b c h = refl
not_less Equal Less c h = h
not_less Equal Equal c h = refl
not_less Equal Greater c h = refl

low_names : (x : Assignment) (xs : List Assignment) → Low cmp_assignment x xs → Low cmp_name (name_assigned x) (map name_assigned xs)
low_names x [] l = tt
low_names x (y ∷ ys) l = (not_less (cmp_key y.0 x.0) (nat_cmp y.1 x.1) (nat_cmp y.2 x.2) l.0, low_names x ys l.1)

rising_names : (xs : List Assignment) → Rising cmp_assignment xs → Rising cmp_name (map name_assigned xs)
rising_names [] r = tt
rising_names (x ∷ xs) r = (low_names x xs r.0, rising_names xs r.1)

not_true : (b : Bool) → not b ≡ true → b ≡ false
not_true true h = cc
not_true false h = refl

equal_is : (r : Ordering) → is_eq r ≡ true → r ≡ Equal
equal_is Less h = cc
equal_is Equal h = refl
equal_is Greater h = cc

second : (a b : Ordering) → ordering_then a b ≡ Equal → b ≡ Equal
second Less b h = cc
second Equal b h = h
second Greater b h = cc

none_of : {X Y : Type 0} (f : X → Y) (o : Option X) → IsSome o → is_none (option_map f o) ≡ false
none_of f None h = cc
none_of f (Some x) h = refl

module _ (model : Model) (shape : PartShape) where
  abbrev o : IsTotalOrder (cmp_by_round model shape)
  o = order_total model shape

  -- measures that the order does not tell apart are one
  pub one_by_round : (a b : CellName) → cmp_by_round model shape a b ≡ Equal → a ≡ b
  one_by_round a b h = one_name a b (second _ (cmp_name a b) h)

  pub tied_name : (q x : CellName) → tied o q x ≡ true → q ≡ x
  tied_name q x h = one_by_round q x (equal_is (cmp_by_round model shape q x) h)

  -- the assignment of a measure among these
  assignment_at : (q : CellName) (xs : List Assignment) → list_any (tied o q) (map name_assigned xs) ≡ true
      → (a : Assignment) × (find (assigns q.measure q.key) xs ≡ Some a)
  assignment_at q [] h = cc
  assignment_at q (x ∷ xs) h = by (assigns q.measure q.key x) refl (tied o q (name_assigned x)) refl h (assignment_at q xs)
    where
      by : (b : Bool) → assigns q.measure q.key x ≡ b → (t : Bool) → tied o q (name_assigned x) ≡ t
          → (t || list_any (tied o q) (map name_assigned xs)) ≡ true
          → (list_any (tied o q) (map name_assigned xs) ≡ true → (a : Assignment) × (find (assigns q.measure q.key) xs ≡ Some a))
          → (a : Assignment) × (cond b (Some x) (find (assigns q.measure q.key) xs) ≡ Some a)
      by true e t f h rest = (x, refl)
      by false e true f h rest =
          let same = tied_name q (name_assigned x) f in
          let k : true ≡ false = sym (named_itself q) ∙ ap (is_same_measure q) same ∙ e in cc
      by false e false f h rest = rest h

  -- the measures of a round
  names_round : (n : ℕ) → names_at shape.assigned (found.round_of model shape n) ≡ round (level model shape) (assigned_names shape) n
  names_round n =
      places_kept name_assigned (comes_in model shape n) shape.assigned shape.assigned 0 (λ i. let same : 0 + i ≡ i = omega arith in ap (slice_get shape.assigned) same)
      ∙ map_kept name_assigned (comes (level model shape) (assigned_names shape) n) shape.assigned

  names_rounds : (xs : List (List ℕ)) (a : ℕ) → ((n : ℕ) → slice_index_or xs n [] ≡ found.round_of model shape (a + n))
      → names_in shape.assigned xs ≡ rounds (level model shape) (assigned_names shape) a (length xs)
  names_rounds [] a h = refl
  names_rounds (x ∷ xs) a h =
      let same : a + 0 ≡ a = omega arith in
      let one = ap (names_at shape.assigned) (h 0 ∙ ap (found.round_of model shape) same) ∙ names_round a in
      let rest = names_rounds xs (a + 1) next in
      λ i. one i ++ rest i
    where
      next : (n : ℕ) → slice_index_or xs n [] ≡ found.round_of model shape (a + 1 + n)
      next n = let same : a + suc n ≡ a + 1 + n = omega arith in h (suc n) ∙ ap (found.round_of model shape) same

  -- each place of the rounds is that of an assignment
  within : (xs : List (List ℕ)) (a : ℕ) → ((n : ℕ) → slice_index_or xs n [] ≡ found.round_of model shape (a + n))
      → Each (λ round. All (λ place. place < length shape.assigned) round) xs
  within [] a h = tt
  within (x ∷ xs) a h = (subst (All (λ place. place < count)) (sym (h 0)) (all_of (λ place. place < count) (found.round_of model shape (a + 0)) below), within xs (a + 1) next)
    where
      count : ℕ
      count = length shape.assigned

      below : Each (λ place. place < count) (found.round_of model shape (a + 0))
      below = each_kept (λ place. place < count) (found.place_comes_in model shape (a + 0)) (range_with_len 0 count) (places_below count 0 count (omega arith))

      next : (n : ℕ) → slice_index_or xs n [] ≡ found.round_of model shape (a + 1 + n)
      next n = let same : a + suc n ≡ a + 1 + n = omega arith in h (suc n) ∙ ap (found.round_of model shape) same

  pub rounds_within : (list : List (List ℕ)) → AreRoundsOf model shape list → AreWithin shape.assigned list
  rounds_within list are =
      all_of (λ round. All (λ place. place < length shape.assigned) round) list
      (within list 0 (λ n. let same : n ≡ 0 + n = omega arith in are.each n ∙ ap (found.round_of model shape) same))

  module _ (is : IsFound model shape) (list : List (List ℕ)) (are : AreRoundsOf model shape list) where
    abbrev names : List CellName
    names = assigned_names shape

    abbrev count : ℕ
    count = length list

    abbrev in_rounds : List CellName
    in_rounds = rounds (level model shape) names 0 count

    rise : Rising (cmp_by_round model shape) in_rounds
    rise =
        rounds_rise (level model shape) names (round_of model shape) cmp_name name_total (rising_names shape.assigned is.ascend)
        numbered count 0
      where
        numbered : (n : ℕ) (x : CellName) → comes (level model shape) names n x ≡ true → round_of model shape x ≡ suc n
        numbered n x h =
            let both = and_parts (level model shape (suc n) x) (not (level model shape n x)) h in
            round_is model shape n x both.0 (not_true (level model shape n x) both.1)

    -- an assigned measure is levelled in one of the rounds
    levelled_last : (q : CellName) → list_any (tied o q) names ≡ true → level model shape count q ≡ true
    levelled_last q h =
        let a = assignment_at q shape.assigned h in
        let at = found_has (λ a. is_levelled model shape count a ≡ true) (assigns q.measure q.key) shape.assigned
        (each_in (λ a. is_levelled model shape count a ≡ true) shape.assigned are.complete) a.0 a.1 in
        ap (level model shape count) (named_same q (name_assigned a.0) at.1) ∙ at.0

    opened : (q : CellName) → list_any (tied o q) names ≡ true → level model shape 0 q ≡ false
    opened q h =
        let a = assignment_at q shape.assigned h in
        let at = found_has (IsRuled model) (assigns q.measure q.key) shape.assigned (each_in (IsRuled model) shape.assigned is.ruled) a.0 a.1 in
        ap (λ o. is_none (option_map looks (option_and_then (λ number. slice_get model.part.rules (number - 1)) (option_map (λ (a : Assignment). a.2) o)))) a.1
        ∙ none_of looks (slice_get model.part.rules (a.0.2 - 1)) at.0.1
      where
        looks : Rule → List Look
        looks rule = looks_of (site_in model shape 0 q.key) rule.right

    none_left : (t : CellName → Bool) (n a : ℕ) → filter t names ≡ [] → filter t (rounds (level model shape) names a n) ≡ []
    none_left t zero a h = refl
    none_left t (suc n) a h =
        let passes : CellName → Bool = comes (level model shape) names a in
        let one = kept_swapped t passes names ∙ ap (filter passes) h in
        let rest = none_left t n (a + 1) h in
        filter-append t (round (level model shape) names a) (rounds (level model shape) names (a + 1) n) ∙ (λ i. one i ++ rest i)

    ties : (q : CellName) → filter (tied o q) in_rounds ≡ filter (tied o q) (by_rounds model shape)
    ties q = by (list_any (tied o q) names) refl ∙ sym (tied_ascending o q names)
      where
        by : (b : Bool) → list_any (tied o q) names ≡ b → filter (tied o q) in_rounds ≡ filter (tied o q) names
        by true e =
            let same : 0 + count ≡ count = omega arith in
            rounds_keep (level model shape) names (tied o q) (λ n. level model shape n q)
            (λ n x h. ap (level model shape n) (sym (tied_name q x h))) (λ n h. level_stays model shape n (suc n) (omega arith) q h)
            count 0 (opened q e) (ap (λ n. level model shape n q) same ∙ levelled_last q e)
        by false e =
            let none = none_passes (tied o q) names e in
            none_left (tied o q) count 0 none ∙ sym none

    -- the assigned measures, round by round
    pub ordered_is : names_in shape.assigned list ≡ by_rounds model shape
    ordered_is =
        names_rounds list 0 (λ n. let same : n ≡ 0 + n = omega arith in are.each n ∙ ap (found.round_of model shape) same)
        ∙ one_rising o in_rounds (by_rounds model shape) rise (rising_ascending o names) ties

  -- what a test keeps of the assigned measures in order is in order what it keeps of them
  pub kept_ordered : (p : CellName → Bool) → filter p (by_rounds model shape) ≡ ascending (cmp_by_round model shape) (filter p (assigned_names shape))
  kept_ordered p =
      one_rising o (filter p (by_rounds model shape)) (ascending (cmp_by_round model shape) (filter p (assigned_names shape)))
      (rising_kept o p (by_rounds model shape) (rising_ascending o (assigned_names shape)))
      (rising_ascending o (filter p (assigned_names shape)))
      (λ q. kept_swapped (tied o q) p (by_rounds model shape)
      ∙ ap (filter p) (tied_ascending o q (assigned_names shape))
      ∙ kept_swapped p (tied o q) (assigned_names shape)
      ∙ sym (tied_ascending o q (filter p (assigned_names shape))))
