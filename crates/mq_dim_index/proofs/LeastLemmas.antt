-- The next of some values among keys that ascend.
use Rattle.std.proofs.Common.{◌≡◌, ◌≢◌, ℕ, suc, ◌+◌, ◌<◌, ◌≤◌, List, [], ◌∷◌, Bool, true, false, length, get_or, Option, Some, None, slice_get, Ordering, Less, Equal, Greater, refl, sym, subst, ap, ◌∙◌, inl, inr, ◌⊎◌, arith}
use Rattle.std.specs.Cmp.{tied_back, tied_itself}
use Rattle.std.specs.List.{AllWithin}
use Rattle.std.specs.Option.{option_cmp}
use Rattle.std.specs.Ordering.{is_gt, ordering_reverse}
use Rattle.std.proofs.lemmas.Bool.{cases_lt}
use Rattle.mq_values.specs.DimTestLaws.{told_in}
use Rattle.mq_values.specs.DimTests.{is_among}
use Rattle.mq_values.specs.Order.{cmp_value}
use Rattle.mq_values.specs.Truth.{Truth, comparison, either, is_true}
use Rattle.mq_values.specs.declared.operators.CmpOp.TheVariants.{Eq}
use Rattle.mq_values.specs.declared.operators.DimTest.TheVariants.{In}
use Rattle.mq_values.specs.declared.value.Value.{Value}
use Rattle.mq_dim_index.specs.Places.{Tuple}
use Rattle.mq_dim_index.specs.Runs.{AscendIn, IsLeastSoFar, Misses, cmp_bound, cmp_by_worth, cmp_in, first_has_value, has_value, value_meets}
use Rattle.mq_dim_index.proofs.BoundLemmas.{holds_by_worth}
use Rattle.mq_dim_index.proofs.NearLemmas.{equal_is}
use Rattle.mq_dim_index.proofs.MapLemmas.{in_total}
use Rattle.mq_dim_index.proofs.RunLemmas.{each_has_value, no_greater, worth_total}

-- ---- by worth

pub gt_is : (r : Ordering) → is_gt r ≡ true → r ≡ Greater
gt_is Less h = cc
gt_is Equal h = cc
gt_is Greater h = refl

pub not_gt : (r : Ordering) → is_gt r ≡ false → r ≢ Greater
not_gt Less h e = cc
not_gt Equal h e = cc
not_gt Greater h e = cc

-- what is not greater than one that is not greater is not greater
up_to : (u v w : Value) → cmp_by_worth u v ≢ Greater → cmp_by_worth v w ≢ Greater → cmp_by_worth u w ≢ Greater
up_to u v w m n = by (cmp_by_worth u v) (cmp_by_worth v w) refl refl
  where
    by : (r s : Ordering) → cmp_by_worth u v ≡ r → cmp_by_worth v w ≡ s → cmp_by_worth u w ≢ Greater
    by Greater s e f = absurd (m e)
    by Equal s e f = subst (λ (x : Ordering). x ≢ Greater) (sym (worth_total.congr u v w e)) n
    by Less Greater e f = absurd (n f)
    by Less Less e f = λ g. let h : Less ≡ Greater = sym (worth_total.trans u v w e f) ∙ g in cc
    by Less Equal e f = λ g.
        let back : cmp_by_worth w v ≡ Equal = tied_back worth_total v w f in
        let turned : cmp_by_worth w u ≡ Less = worth_total.antisymm w u ∙ ap ordering_reverse g in
        let h : cmp_by_worth v u ≡ Less = sym (worth_total.congr w v u back) ∙ turned in
        let i : cmp_by_worth u v ≡ Greater = worth_total.antisymm u v ∙ ap ordering_reverse h in
        m i

less_then_not : (u w : Value) → cmp_by_worth u w ≡ Greater → cmp_by_worth w u ≢ Greater
less_then_not u w h e =
    let t : cmp_by_worth w u ≡ Less = worth_total.antisymm w u ∙ ap ordering_reverse h in
    let g : Less ≡ Greater = sym t ∙ e in cc

either_fails : (t u : Truth) → is_true t ≡ false → is_true u ≡ false → is_true (either t u) ≡ false
either_fails (Some true) u h k = cc
either_fails (Some false) u h k = k
either_fails None (Some true) h k = cc
either_fails None (Some false) h k = refl
either_fails None None h k = refl

itself : (v : Value) → cmp_by_worth v v ≢ Greater
itself v e = let g : Equal ≡ Greater = sym (tied_itself worth_total v) ∙ e in cc

in_itself : (n : ℕ) (key : Tuple) → cmp_in n key key ≡ Equal
in_itself n key = tied_itself (in_total n) key

-- a value that is level with none of these is not among them
not_among : (v : Value) (ws : List Value) → ((k : ℕ) (d : Value) → k < length ws → cmp_by_worth v (get_or ws k d) ≢ Equal) → is_true (is_among v ws) ≡ false
not_among v [] each = refl
not_among v (x ∷ xs) each =
    either_fails (comparison Eq v x) (is_among v xs) (by (is_true (comparison Eq v x)) refl) (not_among v xs (λ k d l. each (suc k) d (omega arith)))
  where
    by : (b : Bool) → is_true (comparison Eq v x) ≡ b → is_true (comparison Eq v x) ≡ false
    by true e = absurd (each 0 x (omega arith) (equal_is (cmp_by_worth v x) (holds_by_worth v x Eq e)))
    by false e = e

equal_not_greater : (r : Ordering) → r ≡ Equal → r ≢ Greater
equal_not_greater r h e = let g : Equal ≡ Greater = sym h ∙ e in cc

below_level : (own : Option Value) (y x : Value) → option_cmp cmp_value own (Some y) ≢ Greater → cmp_by_worth y x ≡ Equal → cmp_bound own x ≢ Greater
below_level None y x n e = λ g. cc
below_level (Some z) y x n e = up_to z y x (no_greater z y n) (equal_not_greater (cmp_by_worth y x) e)

module _ (ws : List Value) (own : Option Value) where
  misses_list : (y : Value) → ((k : ℕ) (d : Value) → k < length ws → cmp_by_worth y (get_or ws k d) ≢ Equal) → value_meets (In ws) (Some y) ≡ false
  misses_list y each = ap is_true (told_in y ws) ∙ not_among y ws each

  -- where all values are below a key's, a key that is not before it has none of them
  none_level : (u : Option Value) → has_value u ≡ true → option_cmp cmp_value own u ≢ Greater → IsLeastSoFar ws own (length ws) None → value_meets (In ws) u ≡ false
  none_level None v n least = cc
  none_level (Some y) v n least = misses_list y (λ k d l e. below_level own y (get_or ws k d) n e (least k d l))

  -- and a key before the least that is not below has none of them either
  less_level : (u : Option Value) (w : Value) → has_value u ≡ true → option_cmp cmp_value own u ≢ Greater → IsLeastSoFar ws own (length ws) (Some w) → cmp_bound u w ≡ Less → value_meets (In ws) u ≡ false
  less_level None w v n least h = cc
  less_level (Some y) w v n least h =
      misses_list y
      (λ k d l e.
      let x = get_or ws k d in
      let first : cmp_by_worth w x ≢ Greater = least.1 k d l (below_level own y x n e) in
      let level : cmp_by_worth x y ≡ Equal = tied_back worth_total y x e in
      up_to w x y first (equal_not_greater (cmp_by_worth x y) level) (worth_total.antisymm w y ∙ ap ordering_reverse h))

  -- one more value
  module _ (i : ℕ) (x : Value) (is : (d : Value) → i < length ws → x ≡ get_or ws i d) (l : i < length ws) where
    pub still_least : (found : Option Value) → cmp_bound own x ≡ Greater → IsLeastSoFar ws own i found → IsLeastSoFar ws own (i + 1) found
    still_least None h least = λ k d m. by k d m (cases_lt k i)
      where
        by : (k : ℕ) (d : Value) → k < i + 1 → (k < i) ⊎ (i ≤ k) → cmp_bound own (get_or ws k d) ≡ Greater
        by k d m (inl b) = least k d b
        by k d m (inr b) = let e : k ≡ i = omega arith in ap (λ j. cmp_bound own (get_or ws j d)) e ∙ sym (ap (cmp_bound own) (is d l)) ∙ h
    still_least (Some w) h least = (least.0, λ k d m. by k d m (cases_lt k i))
      where
        by : (k : ℕ) (d : Value) → k < i + 1 → (k < i) ⊎ (i ≤ k) → cmp_bound own (get_or ws k d) ≢ Greater → cmp_by_worth w (get_or ws k d) ≢ Greater
        by k d m (inl b) = least.1 k d b
        by k d m (inr b) = let e : k ≡ i = omega arith in λ n. absurd (n (ap (λ j. cmp_bound own (get_or ws j d)) e ∙ sym (ap (cmp_bound own) (is d l)) ∙ h))

    pub first_least : cmp_bound own x ≢ Greater → IsLeastSoFar ws own i None → IsLeastSoFar ws own (i + 1) (Some x)
    first_least h least = (h, λ k d m. by k d m (cases_lt k i))
      where
        by : (k : ℕ) (d : Value) → k < i + 1 → (k < i) ⊎ (i ≤ k) → cmp_bound own (get_or ws k d) ≢ Greater → cmp_by_worth x (get_or ws k d) ≢ Greater
        by k d m (inl b) = λ n. absurd (n (least k d b))
        by k d m (inr b) = let e : k ≡ i = omega arith in λ n. subst (λ (y : Value). cmp_by_worth x y ≢ Greater) (is d l ∙ sym (ap (λ j. get_or ws j d) e)) (itself x)

    pub keeps_least : (w : Value) → cmp_by_worth w x ≢ Greater → IsLeastSoFar ws own i (Some w) → IsLeastSoFar ws own (i + 1) (Some w)
    keeps_least w h least = (least.0, λ k d m. by k d m (cases_lt k i))
      where
        by : (k : ℕ) (d : Value) → k < i + 1 → (k < i) ⊎ (i ≤ k) → cmp_bound own (get_or ws k d) ≢ Greater → cmp_by_worth w (get_or ws k d) ≢ Greater
        by k d m (inl b) = least.1 k d b
        by k d m (inr b) = let e : k ≡ i = omega arith in λ n. subst (λ (y : Value). cmp_by_worth w y ≢ Greater) (is d l ∙ sym (ap (λ j. get_or ws j d) e)) h

    pub takes_least : (w : Value) → cmp_by_worth w x ≡ Greater → cmp_bound own x ≢ Greater → IsLeastSoFar ws own i (Some w) → IsLeastSoFar ws own (i + 1) (Some x)
    takes_least w h n least = (n, λ k d m. by k d m (cases_lt k i))
      where
        by : (k : ℕ) (d : Value) → k < i + 1 → (k < i) ⊎ (i ≤ k) → cmp_bound own (get_or ws k d) ≢ Greater → cmp_by_worth x (get_or ws k d) ≢ Greater
        by k d m (inl b) = λ n. up_to x w (get_or ws k d) (less_then_not w x h) (least.1 k d b n)
        by k d m (inr b) = let e : k ≡ i = omega arith in λ n. subst (λ (y : Value). cmp_by_worth x y ≢ Greater) (is d l ∙ sym (ap (λ j. get_or ws j d) e)) (itself x)

module _ (n : ℕ) (keys : List Tuple) (s : AscendIn n keys) (valued : first_has_value n keys ≡ true) (from : ℕ) (key : Tuple) (is : (d : Tuple) → key ≡ get_or keys from d) (within : from < length keys) where
  ahead : (k : ℕ) (d : Tuple) → from ≤ k → k < length keys → option_cmp cmp_value (slice_get key n) (slice_get (get_or keys k d) n) ≢ Greater
  ahead k d low l = by (cases_lt from k)
    where
      by : (from < k) ⊎ (k ≤ from) → option_cmp cmp_value (slice_get key n) (slice_get (get_or keys k d) n) ≢ Greater
      by (inl m) = subst (λ (x : Tuple). cmp_in n x (get_or keys k d) ≢ Greater) (sym (is d)) (s from k d m l)
      by (inr m) =
          let e : from ≡ k = omega arith in
          subst (λ (x : Tuple). cmp_in n key x ≢ Greater) (is d ∙ ap (λ j. get_or keys j d) e) (equal_not_greater (cmp_in n key key) (in_itself n key))

  pub none_left : (ws : List Value) → IsLeastSoFar ws (slice_get key n) (length ws) None → AllWithin (Misses n (In ws)) keys from (length keys)
  none_left ws least k d low l = none_level ws (slice_get key n) (slice_get (get_or keys k d) n) (each_has_value n keys k d s valued l) (ahead k d low l) least

  -- up to the keys that have the least value
  pub none_between : (ws : List Value) (w : Value) (end : ℕ) → IsLeastSoFar ws (slice_get key n) (length ws) (Some w) → end ≤ length keys → AllWithin (λ key. cmp_bound (slice_get key n) w ≡ Less) keys 0 end → AllWithin (Misses n (In ws)) keys from end
  none_between ws w end least short below k d low l =
      less_level ws (slice_get key n) (slice_get (get_or keys k d) n) w (each_has_value n keys k d s valued (omega arith)) (ahead k d low (omega arith)) least (below k d (omega arith) l)

  -- which end behind this one
  pub ends_behind : (w : Value) (end : ℕ) → cmp_bound (slice_get key n) w ≢ Greater → AllWithin (λ key. cmp_bound (slice_get key n) w ≡ Greater) keys end (length keys) → from < end
  ends_behind w end le behind = by (cases_lt from end)
    where
      by : (from < end) ⊎ (end ≤ from) → from < end
      by (inl m) = m
      by (inr m) = absurd (le (ap (λ (x : Tuple). cmp_bound (slice_get x n) w) (is key) ∙ behind from key m within))
