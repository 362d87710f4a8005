-- Partitions of item rows that have a value for each column of a model are ready for its rules; and items have.
use Rattle.std.proofs.Common.{◌≡◌, ℕ, zero, suc, ◌≤◌, List, [], ◌∷◌, Bool, true, false, cond, length, map, take, drop}
use Rattle.std.proofs.Common.{Ordering, Less, Equal, Greater, None, Result, Ok, Err, refl, sym, ap, ◌∙◌, subst, arith}
use Rattle.std.specs.Prelude.{if◌then◌else◌, is_some, nat_le}
use Rattle.std.specs.List.{All, AllByRecursion, filter}
use Rattle.std.specs.List.Sorted.{IsStrictlySortedBy}
use Rattle.std.specs.Map.{keys_of}
use Rattle.std.specs.Ordering.{is_eq, is_gt, is_lt, ordering_reverse}
use Rattle.std.proofs.lemmas.Bool.Decides.{nat_tests}
use Rattle.std.proofs.lemmas.List.{length-drop, length-take}
use Rattle.std.proofs.lemmas.List.Elements.{All-cons, All-from_recursion, All-nil, recursion_from_All}
use Rattle.mq_values.specs.Order.{cmp_key}
use Rattle.mq_values.specs.OrderLaws.{key_total}
use Rattle.mq_values.specs.OrderTells.{key_itself}
use Rattle.mq_ir.specs.declared.expression.Expr.{Expr}
use Rattle.mq_ir.specs.declared.expression.Leaf.{Leaf}
use Rattle.mq_ir.specs.declared.query.FromPart.{FromPart}
use Rattle.mq_ir.specs.declared.query.ItemPart.{ItemPart}
use Rattle.mq_ir.specs.declared.query.ModelPart.{ModelPart}
use Rattle.mq_ir.specs.BaseRows.{base_rows}
use Rattle.mq_ir.specs.Expression.{Outcome, ev}
use Rattle.mq_ir.specs.Items.{item_rows, items_at, items_over, stands_of}
use Rattle.mq_ir.specs.Keys.{Tuple, is_same}
use Rattle.mq_ir.specs.Partitions.{ascending, cut, first_of, input_of, partition_keys, partitions, placed, repeated, rows_in, stands_twice}
use Rattle.mq_ir.specs.Placed.{kind_of, plain_fault}
use Rattle.mq_ir.specs.Results.{◌>>=◌, each, marked}
use Rattle.mq_ir.specs.Tables.{Tables}
use Rattle.mq_ir.specs.RowLaws.{times}
use Rattle.mq_ir.specs.Rising.{Low, Rising}
use Rattle.mq_ir.specs.SortLaws.{mapped_ascending, rising_ascending, tied_ascending}
use Rattle.mq_ir.specs.Ready.{HaveLength, IsReady, LeftsHavePlaces, width_of}

-- ---- lists of which each item has a property
abbrev Each : {X : Type 0} → (X → Type 0) → List X → Type 0
Each = AllByRecursion

module _ {X : Type 0} (P : X → Type 0) where
  each_mapped : {A : Type 0} (f : A → X) (Q : A → Type 0) → ((x : A) → Q x → P (f x)) → (xs : List A) → Each Q xs → Each P (map f xs)
  each_mapped f Q h [] a = tt
  each_mapped f Q h (x ∷ xs) a = (h x a.0, each_mapped f Q h xs a.1)

  each_of : {A : Type 0} (f : A → X) → ((x : A) → P (f x)) → (xs : List A) → Each P (map f xs)
  each_of f h [] = tt
  each_of f h (x ∷ xs) = (h x, each_of f h xs)

  each_other : (Q : X → Type 0) → ((x : X) → Q x → P x) → (xs : List X) → Each Q xs → Each P xs
  each_other Q h [] a = tt
  each_other Q h (x ∷ xs) a = (h x a.0, each_other Q h xs a.1)

  each_kept : (test : X → Bool) (xs : List X) → Each P xs → Each P (filter test xs)
  each_kept test [] a = tt
  each_kept test (x ∷ xs) a = by (test x) (each_kept test xs a.1)
    where
      by : (b : Bool) → Each P (filter test xs) → Each P (if b then x ∷ filter test xs else filter test xs)
      by true rest = (a.0, rest)
      by false rest = rest

  each_placed : (cmp : X → X → Ordering) (x : X) (xs : List X) → P x → Each P xs → Each P (placed cmp x xs)
  each_placed cmp x [] p a = (p, tt)
  each_placed cmp x (y ∷ ys) p a = by (is_gt (cmp x y)) (each_placed cmp x ys p a.1)
    where
      by : (b : Bool) → Each P (placed cmp x ys) → Each P (if b then y ∷ placed cmp x ys else x ∷ y ∷ ys)
      by true rest = (a.0, rest)
      by false rest = (p, a)

  each_ascending : (cmp : X → X → Ordering) (xs : List X) → Each P xs → Each P (ascending cmp xs)
  each_ascending cmp [] a = tt
  each_ascending cmp (x ∷ xs) a = each_placed cmp x (ascending cmp xs) a.0 (each_ascending cmp xs a.1)

-- ---- where no key stands twice, the ascending keys do so strictly
placed_some : (x : Tuple) (ys : List Tuple) → is_some (first_of (placed cmp_key x ys)) ≡ true
placed_some x [] = refl
placed_some x (y ∷ ys) = by (is_gt (cmp_key x y))
  where
    by : (b : Bool) → is_some (first_of (if b then y ∷ placed cmp_key x ys else x ∷ y ∷ ys)) ≡ true
    by true = refl
    by false = refl

none_there : (xs : List Tuple) → first_of (ascending cmp_key xs) ≡ None → xs ≡ []
none_there [] h = refl
none_there (x ∷ xs) h = let e : false ≡ true = sym (ap is_some h) ∙ placed_some x (ascending cmp_key xs) in absurd (cc)

none_kept : (p : Tuple → Bool) (xs : List Tuple) → filter p xs ≡ [] → Each (λ x. p x ≡ false) xs
none_kept p [] h = tt
none_kept p (x ∷ xs) h = by (p x) refl (none_kept p xs) h
  where
    by : (b : Bool) → p x ≡ b → (filter p xs ≡ [] → Each (λ x. p x ≡ false) xs) → cond b (x ∷ filter p xs) (filter p xs) ≡ []
        → (p x ≡ false) × Each (λ x. p x ≡ false) xs
    by true e rest g = absurd (cc)
    by false e rest g = (e, rest g)

two_or_more : (n : ℕ) → nat_le 2 (suc (suc n)) ≡ true
two_or_more n = grind (arith, nat_tests)

at_most_one : (n : ℕ) → nat_le 2 n ≡ false → n ≤ 1
at_most_one zero h = omega arith
at_most_one (suc zero) h = omega arith
at_most_one (suc (suc n)) h = let k = two_or_more n in absurd (cc)

empty_is : (xs : List Tuple) → length xs ≤ 0 → xs ≡ []
empty_is [] h = refl
empty_is (x ∷ xs) h = absurd (omega arith)

-- a key stands once more in front of its kind, and in front of others as often
times_itself : (x : Tuple) (xs : List Tuple) → times x (x ∷ xs) ≡ suc (times x xs)
times_itself x xs = ap (λ o. length (cond (is_eq o) (x ∷ filter (is_same x) xs) (filter (is_same x) xs))) (key_itself x)

times_grows : (q x : Tuple) (xs : List Tuple) → times q xs ≤ times q (x ∷ xs)
times_grows q x xs = by (is_same q x)
  where
    by : (b : Bool) → times q xs ≤ length (cond b (x ∷ filter (is_same q) xs) (filter (is_same q) xs))
    by true = omega arith
    by false = omega arith

-- what is neither less than x nor x is above it
above : (x y : Tuple) → is_same x y ≡ false → is_lt (cmp_key y x) ≡ false → cmp_key x y ≡ Less
above x y a l = by (cmp_key x y) refl
  where
    by : (o : Ordering) → cmp_key x y ≡ o → o ≡ Less
    by Less e = refl
    by Equal e = let g : is_same x y ≡ true = ap is_eq e in absurd (cc)
    by Greater e = let g : is_lt (cmp_key y x) ≡ true = ap is_lt (key_total.antisymm y x ∙ ap ordering_reverse e) in absurd (cc)

all_above : (x : Tuple) (ys : List Tuple) → Each (λ y. is_same x y ≡ false) ys → Low cmp_key x ys → Each (λ y. cmp_key x y ≡ Less) ys
all_above x [] a l = tt
all_above x (y ∷ ys) a l = (above x y a.0 l.0, all_above x ys a.1 l.1)

-- a list that rises, in which no key stands more often than among these
strict_among : (all xs : List Tuple) → ((q : Tuple) → times q xs ≤ times q all) → Each (λ q. times q all ≤ 1) xs → Rising cmp_key xs
    → IsStrictlySortedBy cmp_key xs
unfolding IsStrictlySortedBy
strict_among all [] more few r = tt
strict_among all (x ∷ xs) more few r =
    let alone : times x xs ≤ 0 = omega (arith, more x, few.0, times_itself x xs) in (
      all_above x xs (none_kept (is_same x) xs (empty_is (filter (is_same x) xs) alone)) r.0,
      strict_among all xs (λ q. omega (arith, more q, times_grows q x xs)) few.1 r.1,
    )

strict_keys : (keys : List Tuple) → repeated keys ≡ None → IsStrictlySortedBy cmp_key (ascending cmp_key keys)
strict_keys keys h =
    let once : Each (λ (q : Tuple). times q keys ≤ 1) keys =
    each_other (λ (q : Tuple). times q keys ≤ 1) (λ (q : Tuple). stands_twice keys q ≡ false) (λ q. at_most_one (times q keys)) keys
    (none_kept (stands_twice keys) keys (none_there (filter (stands_twice keys) keys) h)) in
    let as_often : (q : Tuple) → times q (ascending cmp_key keys) ≡ times q keys = λ q. ap length (tied_ascending key_total q keys) in
    strict_among keys (ascending cmp_key keys)
    (λ q. omega (arith, as_often q))
    (each_ascending (λ (q : Tuple). times q keys ≤ 1) cmp_key keys once)
    (rising_ascending key_total keys)

-- ---- the cells of a partition
module _ (part : ModelPart) (items : List Tuple) where
  abbrev dims : ℕ
  dims = length part.dims

  abbrev Wide : Tuple → Type 0
  Wide key = length key ≡ dims

  abbrev Long : Tuple → Type 0
  Long row = length row ≡ width_of part

  cut_wide : (row : Tuple) → Long row → Wide (take dims (drop part.parts row))
  cut_wide row h = omega (arith, h, length-take dims (drop part.parts row), length-drop part.parts row)

  abbrev rows_at : Tuple → List (Tuple × Tuple)
  rows_at key = rows_in part items key

  abbrev keys_at : Tuple → List Tuple
  keys_at key = map (λ (row : Tuple × Tuple). row.0) (rows_at key)

  keys_wide : Each Long items → (key : Tuple) → Each Wide (keys_at key)
  keys_wide a key =
      let test : Tuple → Bool = λ row. is_same key (take part.parts row) in
      each_mapped Wide (λ (row : Tuple × Tuple). row.0) (λ row. Wide row.0) (λ row w. w) (rows_at key)
      (each_mapped (λ (row : Tuple × Tuple). Wide row.0) (λ row. cut dims (drop part.parts row)) Long cut_wide (filter test items)
      (each_kept Long test items a))

  cell_keys : (key : Tuple) → keys_of (input_of part items key).cells ≡ ascending cmp_key (keys_at key)
  cell_keys key = mapped_ascending (λ (row : Tuple × Tuple). row.0) cmp_key (rows_at key)

  pub partition_ready : LeftsHavePlaces part → Each Long items → (key : Tuple) → IsReady part (input_of part items key)
  partition_ready lefts a key = record {
    lefts = lefts;
    wide = All-from_recursion Wide (keys_of (input_of part items key).cells)
        (subst (Each Wide) (sym (cell_keys key)) (each_ascending Wide cmp_key (keys_at key) (keys_wide a key)));
    ascend = λ once. subst (IsStrictlySortedBy cmp_key) (sym (cell_keys key)) (strict_keys (keys_at key) once);
  }

  -- the partitions of these item rows are ready for the rules of a model
  pub all_ready : LeftsHavePlaces part → HaveLength (width_of part) items → All (IsReady part) (partitions part items)
  all_ready lefts wide =
      All-from_recursion (IsReady part) (partitions part items)
      (each_of (IsReady part) (input_of part items) (partition_ready lefts (recursion_from_All Long items wide))
      (partition_keys part.parts items))

-- ---- the rows of the items of a query have a value for each item
each_nil : {A B E : Type 0} (f : A → Result B E) (ys : List B) (P : List B → Type 0) → each f [] ≡ Ok ys → P [] → P ys
each_nil f ys P h p = let q : [] ≡ ys = cc in subst P q p

each_cons : {A B E : Type 0} (f : A → Result B E) (x : A) (xs : List A) (ys : List B) (P : List B → Type 0) → each f (x ∷ xs) ≡ Ok ys
    → ((y : B) (rest : List B) → f x ≡ Ok y → each f xs ≡ Ok rest → P (y ∷ rest)) → P ys
each_cons {A} {B} {E} f x xs ys P h k = by (f x) refl (each f xs) refl h
  where
    by : (r : Result B E) → f x ≡ r → (s : Result (List B) E) → each f xs ≡ s → (r >>= (λ y. s >>= (λ rest. Ok (y ∷ rest)))) ≡ Ok ys → P ys
    by (Ok y) e (Ok rest) g h = let q : y ∷ rest ≡ ys = cc in subst P q (k y rest e g)
    by (Ok y) e (Err d) g h = absurd (cc)
    by (Err d) e s g h = absurd (cc)

pub each_length : {A B E : Type 0} (f : A → Result B E) (xs : List A) (ys : List B) → each f xs ≡ Ok ys → length ys ≡ length xs
each_length f [] ys h = each_nil f ys (λ ys. length ys ≡ 0) h refl
each_length f (x ∷ xs) ys h = each_cons f x xs ys (λ ys. length ys ≡ length (x ∷ xs)) h (λ y rest e g. ap suc (each_length f xs rest g))

each_all : {A B E : Type 0} (f : A → Result B E) (P : B → Type 0) → ((x : A) (y : B) → f x ≡ Ok y → P y)
    → (xs : List A) (ys : List B) → each f xs ≡ Ok ys → All P ys
each_all f P step [] ys h = each_nil f ys (All P) h (All-nil P)
each_all f P step (x ∷ xs) ys h = each_cons f x xs ys (All P) h (λ y rest e g. All-cons P y rest (step x y e) (each_all f P step xs rest g))

unmarked : {A E F : Type 0} (mark : E → F) (r : Result A E) (x : A) → marked mark r ≡ Ok x → r ≡ Ok x
unmarked mark (Ok y) x h = let e : y ≡ x = cc in ap Ok e
unmarked mark (Err d) x h = absurd (cc)

behind : {A B E : Type 0} (r : Result A E) (f : A → Result B E) (y : B) (P : Type 0) → (r >>= f) ≡ Ok y → ((x : A) → f x ≡ Ok y → P) → P
behind (Ok x) f y P h k = k x h
behind (Err d) f y P h k = absurd (cc)

items_long : (items : List Expr) (leaves : Leaf → Outcome) (row : Tuple) → items_at items leaves ≡ Ok row → length row ≡ length items
items_long items leaves row h = each_length (ev leaves) items row (unmarked kind_of (each (ev leaves) items) row h)

pub items_have : (tables : Tables) (from : FromPart) (part : ItemPart) (rows : List Tuple)
    → marked (plain_fault 0) (items_over tables from part) ≡ Ok rows → HaveLength (length part.items) rows
items_have tables from part rows h =
    behind (base_rows tables from) (item_rows part) rows (HaveLength (length part.items) rows)
    (unmarked (plain_fault 0) (items_over tables from part) rows h)
    (λ base e. each_all (items_at part.items) (λ (row : Tuple). length row ≡ length part.items) (items_long part.items)
    (stands_of part.group base) rows e)
