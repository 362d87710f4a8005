-- Which of the keys that ascend by their values in a dimension can meet a test of it.
use Rattle.std.proofs.Common.{◌≡◌, ◌≢◌, ℕ, zero, suc, ◌<◌, ◌≤◌, ℤ, pos, ◌*ℤ◌, List, [], ◌∷◌, Bool, true, false, ◌&&◌, length, get_or, Option, Some, None, IfSome, unwrap_or, slice_get, Ordering, Less, Equal, Greater, refl, sym, subst, ap, ◌∙◌, inl, inr, ◌⊎◌, arith}
use Rattle.std.proofs.Math.IntN.{*ℤ-one}
use lib.IntN.{one}
use Rattle.std.specs.Cmp.{IsTotalOrder, on_total}
use Rattle.std.specs.List.{AllWithin}
use Rattle.std.specs.List.Sorted.{IsPartitionedBy, IsStrictlySortedBy}
use Rattle.std.specs.Option.{option_cmp}
use Rattle.std.specs.Ordering.{int_cmp, is_le, is_lt, ordering_reverse, ordering_then}
use Rattle.std.proofs.lemmas.Bool.{cases_lt}
use Rattle.std.proofs.lemmas.Map.Keys.{Less-from_sorted}
use Rattle.mq_values.specs.DimTests.{meets}
use Rattle.mq_values.specs.Number.{Number, cmp_worth, mant_at}
use Rattle.mq_values.specs.Order.{cmp_key, cmp_value, compared}
use Rattle.mq_values.specs.OrderLaws.{value_total}
use Rattle.mq_values.specs.OrderTells.{ordered_as_compared}
use Rattle.mq_values.specs.declared.limits.TheConstants.{MAX_SCALE}
use Rattle.mq_values.specs.declared.operators.DimTest.{DimTest}
use Rattle.mq_values.specs.declared.value.Value.{Value}
use Rattle.mq_values.specs.declared.value.Value.TheVariants as value
use Rattle.mq_dim_index.specs.Places.{Tuple, meets_every}
use Rattle.mq_dim_index.specs.Runs.{AscendIn, IsBound, Misses, cmp_bound, cmp_by_worth, cmp_from, cmp_in, first_has_value, has_value, value_meets}

pub less_is : (r : Ordering) → is_lt r ≡ true → r ≡ Less
less_is Less h = refl
less_is Equal h = cc
less_is Greater h = cc

one_factor : (z : ℤ) → z *ℤ pos 1 ≡ z
unfolding one
one_factor z = *ℤ-one z

-- a value at the largest scale
abbrev at_top : Number → Number
at_top n = record { mant = mant_at MAX_SCALE n; scale = MAX_SCALE }

abbrev leveled : Value → Value
leveled (value.Num n) = value.Num (at_top n)
leveled (value.Text t) = value.Text t
leveled (value.Date d) = value.Date d
leveled value.Null = value.Null

then_equal : (r : Ordering) → ordering_then r Equal ≡ r
then_equal Less = refl
then_equal Equal = refl
then_equal Greater = refl

same_leveled : (v w : Value) → cmp_value (leveled v) (leveled w) ≡ cmp_by_worth v w
same_leveled (value.Num a) (value.Num b) =
    (λ i. ordering_then (int_cmp (one_factor (mant_at MAX_SCALE a) i) (one_factor (mant_at MAX_SCALE b) i)) Equal) ∙ then_equal (cmp_worth a b)
same_leveled (value.Num a) (value.Text b) = refl
same_leveled (value.Num a) (value.Date b) = refl
same_leveled (value.Num a) value.Null = refl
same_leveled (value.Text a) (value.Num b) = refl
same_leveled (value.Text a) (value.Text b) = refl
same_leveled (value.Text a) (value.Date b) = refl
same_leveled (value.Text a) value.Null = refl
same_leveled (value.Date a) (value.Num b) = refl
same_leveled (value.Date a) (value.Text b) = refl
same_leveled (value.Date a) (value.Date b) = refl
same_leveled (value.Date a) value.Null = refl
same_leveled value.Null (value.Num b) = refl
same_leveled value.Null (value.Text b) = refl
same_leveled value.Null (value.Date b) = refl
same_leveled value.Null value.Null = refl

pub worth_total : IsTotalOrder cmp_by_worth
worth_total = subst IsTotalOrder (λ i v w. same_leveled v w i) (on_total leveled value_total)

-- what is not greater in the order of values is not greater by worth
pub no_greater : (v w : Value) → cmp_value v w ≢ Greater → cmp_by_worth v w ≢ Greater
no_greater v w n = by (compared v w) (ordered_as_compared v w)
  where
    by : (c : Option Ordering) → IfSome c (λ r. r ≢ Equal → cmp_value v w ≡ r) → unwrap_or c (cmp_value v w) ≢ Greater
    by None told = n
    by (Some Less) told = λ e. cc
    by (Some Equal) told = λ e. cc
    by (Some Greater) told = λ e. n (told (λ f. cc))

first_no_greater : (r s : Ordering) → ordering_then r s ≡ Less → r ≢ Greater
first_no_greater Less s h = λ e. cc
first_no_greater Equal s h = λ e. cc
first_no_greater Greater s h = cc

module _ {A : Type 0} {R : A → A → Ordering} (o : IsTotalOrder R) (x y w : A) (n : R x y ≢ Greater) where
  pub lower : is_lt (R y w) ≡ true → is_lt (R x w) ≡ true
  lower l = by (R x y) refl
    where
      by : (r : Ordering) → R x y ≡ r → is_lt (R x w) ≡ true
      by Less e = ap is_lt (o.trans x y w e (less_is (R y w) l))
      by Equal e = ap is_lt (o.congr x y w e) ∙ l
      by Greater e = absurd (n e)

  below_level : R x y ≡ Less → R y w ≡ Equal → R x w ≡ Less
  below_level e f =
      o.antisymm x w
      ∙ ap ordering_reverse (o.congr w y x (o.antisymm w y ∙ ap ordering_reverse f) ∙ o.antisymm y x ∙ ap ordering_reverse e)

  pub lower_or_level : is_le (R y w) ≡ true → is_le (R x w) ≡ true
  lower_or_level l = by (R x y) (R y w) refl refl
    where
      by : (r s : Ordering) → R x y ≡ r → R y w ≡ s → is_le (R x w) ≡ true
      by Less Less e f = ap is_le (o.trans x y w e f)
      by Less Equal e f = ap is_le (below_level e f)
      by Less Greater e f = let g : true ≡ false = sym l ∙ ap is_le f in cc
      by Equal s e f = ap is_le (o.congr x y w e) ∙ l
      by Greater s e f = absurd (n e)

-- values of which the first is not greater, where the second is below a value
there_lower : (w : Value) (a b : Option Value) → option_cmp cmp_value a b ≢ Greater → is_lt (cmp_bound b w) ≡ true → is_lt (cmp_bound a w) ≡ true
there_lower w None b n l = refl
there_lower w (Some x) None n l = absurd (n refl)
there_lower w (Some x) (Some y) n l = lower worth_total x y w (no_greater x y n) l

there_lower_or_level : (w : Value) (a b : Option Value) → option_cmp cmp_value a b ≢ Greater → is_le (cmp_bound b w) ≡ true → is_le (cmp_bound a w) ≡ true
there_lower_or_level w None b n l = refl
there_lower_or_level w (Some x) None n l = absurd (n refl)
there_lower_or_level w (Some x) (Some y) n l = lower_or_level worth_total x y w (no_greater x y n) l

-- keys in order ascend by their first values
ascend_heads : (a b : Tuple) → cmp_key a b ≡ Less → cmp_in 0 a b ≢ Greater
ascend_heads [] [] h = cc
ascend_heads [] (y ∷ ys) h = λ e. cc
ascend_heads (x ∷ xs) [] h = cc
ascend_heads (x ∷ xs) (y ∷ ys) h = first_no_greater (cmp_value x y) (cmp_key xs ys) h

pub ascend_first : (keys : List Tuple) → IsStrictlySortedBy cmp_key keys → AscendIn 0 keys
ascend_first keys s i j d l m = ascend_heads (get_or keys i d) (get_or keys j d) (Less-from_sorted cmp_key keys i j d s l m)

-- and in the order of a dimension's map by their values there
pub ascend_from : (n : ℕ) (keys : List Tuple) → IsStrictlySortedBy (cmp_from n) keys → AscendIn n keys
ascend_from n keys s i j d l m =
    first_no_greater (cmp_in n (get_or keys i d) (get_or keys j d)) (cmp_key (get_or keys i d) (get_or keys j d)) (Less-from_sorted (cmp_from n) keys i j d s l m)

module _ (n : ℕ) (keys : List Tuple) (s : AscendIn n keys) where
  pub partitioned : (p : Option Value → Bool) → ((a b : Option Value) → option_cmp cmp_value a b ≢ Greater → p b ≡ true → p a ≡ true) → IsPartitionedBy (λ key. p (slice_get key n)) keys
  partitioned p lowers i j d low l h = by (cases_lt i j)
    where
      by : (i < j) ⊎ (j ≤ i) → p (slice_get (get_or keys i d) n) ≡ true
      by (inl m) = lowers (slice_get (get_or keys i d) n) (slice_get (get_or keys j d) n) (s i j d m l) h
      by (inr m) = let e : i ≡ j = omega arith in ap (λ k. p (slice_get (get_or keys k d) n)) e ∙ h

  -- the searches for the ends of a run may go by halves
  pub parted_below : (w : Value) → IsPartitionedBy (λ key. is_lt (cmp_bound (slice_get key n) w)) keys
  parted_below w = partitioned (λ v. is_lt (cmp_bound v w)) (there_lower w)

  pub parted_up_to : (w : Value) → IsPartitionedBy (λ key. is_le (cmp_bound (slice_get key n) w)) keys
  parted_up_to w = partitioned (λ v. is_le (cmp_bound v w)) (there_lower_or_level w)

later_has_value : (a b : Option Value) → has_value a ≡ true → option_cmp cmp_value a b ≢ Greater → has_value b ≡ true
later_has_value None b v h = cc
later_has_value (Some x) None v h = absurd (h refl)
later_has_value (Some x) (Some y) v h = refl

pub each_has_value : (n : ℕ) (keys : List Tuple) (k : ℕ) (d : Tuple) → AscendIn n keys → first_has_value n keys ≡ true → k < length keys → has_value (slice_get (get_or keys k d) n) ≡ true
each_has_value n [] k d s h l = cc
each_has_value n (x ∷ xs) zero d s h l = h
each_has_value n (x ∷ xs) (suc k) d s h l = later_has_value (slice_get x n) (slice_get (get_or xs k d) n) h (s 0 (suc k) d (omega arith) l)

module _ (test : DimTest) (side : Ordering) (w : Value) (bound : IsBound test side w) where
  -- a value past the bound
  misses : (v : Option Value) → has_value v ≡ true → cmp_bound v w ≡ side → value_meets test v ≡ false
  misses None v h = cc
  misses (Some x) v h = by (meets x test) refl
    where
      by : (b : Bool) → meets x test ≡ b → meets x test ≡ false
      by true e = absurd (bound x e h)
      by false e = e

greater_has_value : (v : Option Value) (w : Value) → cmp_bound v w ≡ Greater → has_value v ≡ true
greater_has_value None w h = cc
greater_has_value (Some x) w h = refl

greater_is : (r : Ordering) → is_le r ≡ false → r ≡ Greater
greater_is Less h = cc
greater_is Equal h = cc
greater_is Greater h = refl

module _ (at : ℕ) (w : Value) (keys : List Tuple) (n : ℕ) where
  -- what the searches say
  pub told_below : AllWithin (λ key. is_lt (cmp_bound (slice_get key at) w) ≡ true) keys 0 n → AllWithin (λ key. cmp_bound (slice_get key at) w ≡ Less) keys 0 n
  told_below below k d low l = less_is (cmp_bound (slice_get (get_or keys k d) at) w) (below k d low l)

  pub told_above : AllWithin (λ key. is_le (cmp_bound (slice_get key at) w) ≡ false) keys n (length keys) → AllWithin (λ key. cmp_bound (slice_get key at) w ≡ Greater) keys n (length keys)
  told_above above k d low l = greater_is (cmp_bound (slice_get (get_or keys k d) at) w) (above k d low l)

  module _ (test : DimTest) where
    pub missed_below : IsBound test Less w → AscendIn at keys → first_has_value at keys ≡ true → n ≤ length keys → AllWithin (λ key. cmp_bound (slice_get key at) w ≡ Less) keys 0 n → AllWithin (Misses at test) keys 0 n
    missed_below bound s v within below k d low l =
        misses test Less w bound (slice_get (get_or keys k d) at) (each_has_value at keys k d s v (omega arith)) (below k d low l)

    pub missed_above : IsBound test Greater w → AllWithin (λ key. cmp_bound (slice_get key at) w ≡ Greater) keys n (length keys) → AllWithin (Misses at test) keys n (length keys)
    missed_above bound above k d low l =
        misses test Greater w bound (slice_get (get_or keys k d) at) (greater_has_value (slice_get (get_or keys k d) at) w (above k d low l)) (above k d low l)

second_fails : (b c : Bool) → c ≡ false → (b && c) ≡ false
second_fails true c h = h
second_fails false c h = refl

-- a key that misses the test of one dimension does not meet all
pub one_missed : (tests : List DimTest) (at : ℕ) (test : DimTest) (key : Tuple) → Some test ≡ slice_get tests at → Misses at test key → meets_every tests key ≡ false
one_missed [] at test key is h = cc
one_missed (t ∷ ts) at test [] is h = cc
one_missed (t ∷ ts) zero test (v ∷ vs) is h =
    let same : test ≡ t = cc in
    ap (λ b. b && meets_every ts vs) (sym (ap (meets v) same) ∙ h)
one_missed (t ∷ ts) (suc at) test (v ∷ vs) is h = second_fails (meets v t) (meets_every ts vs) (one_missed ts at test vs is h)
