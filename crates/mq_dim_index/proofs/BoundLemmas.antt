-- What a test says of the values that meet it, as bounds.
use Rattle.std.proofs.Common.{◌≡◌, ◌≢◌, true≢false, ℕ, zero, suc, ◌+◌, ◌<◌, ◌≤◌, List, [], ◌∷◌, true, false, length, get_or, map, Option, Some, None, IfSome, unwrap_or, Ordering, Less, Equal, Greater, refl, sym, subst, ap, ◌∙◌, inl, inr, ◌⊎◌, arith}
use Rattle.std.specs.Cmp.{tied_itself}
use Rattle.std.specs.Ordering.{is_eq, ordering_reverse}
use Rattle.std.proofs.lemmas.Bool.{cases_lt}
use Rattle.mq_values.specs.DimTestLaws.{told_and, told_at, told_between, told_cmp, told_in}
use Rattle.mq_values.specs.DimTests.{all_hold, is_among, meets, told}
use Rattle.mq_values.specs.Order.{cmp_value, compared}
use Rattle.mq_values.specs.OrderTells.{equal_as_compared}
use Rattle.mq_values.specs.Truth.{Truth, agrees, agrees_with, both, comparison, either, is_true}
use Rattle.mq_values.specs.declared.operators.CmpOp.{CmpOp}
use Rattle.mq_values.specs.declared.operators.CmpOp.TheVariants.{Eq, Ge, Le}
use Rattle.mq_values.specs.declared.operators.DimTest.{DimTest}
use Rattle.mq_values.specs.declared.operators.DimTest.TheVariants as test
use Rattle.mq_values.specs.declared.value.Value.{Value}
use Rattle.mq_dim_index.specs.Runs.{IsBound, cmp_by_worth}
use Rattle.mq_dim_index.proofs.NearLemmas.{equal_is}
use Rattle.mq_dim_index.proofs.RunLemmas.{worth_total}

true_is : (t : Truth) → is_true t ≡ true → t ≡ Some true
true_is None h = cc
true_is (Some b) h = ap Some h

first_true : (t u : Truth) → is_true (both t u) ≡ true → is_true t ≡ true
first_true (Some true) u h = refl
first_true (Some false) u h = h
first_true None (Some true) h = h
first_true None (Some false) h = h
first_true None None h = h

second_true : (t u : Truth) → is_true (both t u) ≡ true → is_true u ≡ true
second_true (Some true) u h = h
second_true (Some false) u h = cc
second_true None (Some true) h = cc
second_true None (Some false) h = cc
second_true None None h = cc

-- an operator that agrees with one order and not with another tells them apart
apart : (op : CmpOp) (r side : Ordering) → agrees op r ≡ true → agrees op side ≡ false → r ≢ side
apart op r side h g e = true≢false (sym h ∙ ap (agrees op) e ∙ g)

module _ (v w : Value) where
  pub holds_by_worth : (op : CmpOp) → is_true (comparison op v w) ≡ true → agrees op (cmp_by_worth v w) ≡ true
  holds_by_worth op h = by (compared v w) h
    where
      by : (c : Option Ordering) → is_true (agrees_with op c) ≡ true → agrees op (unwrap_or c (cmp_value v w)) ≡ true
      by None h = cc
      by (Some r) h = h

  same_by_worth : cmp_value v w ≡ Equal → cmp_by_worth v w ≡ Equal
  same_by_worth h = by (compared v w) (equal_as_compared v w h)
    where
      by : (c : Option Ordering) → IfSome c (λ r. r ≡ Equal) → unwrap_or c (cmp_value v w) ≡ Equal
      by None e = h
      by (Some r) e = e

module _ (t : DimTest) (side : Ordering) where
  pub bound_at : (w bound : Value) → t ≡ test.At w → agrees Eq side ≡ false → bound ≡ w → IsBound t side bound
  bound_at w bound is refused same v m =
      let told_so : is_eq (cmp_value v w) ≡ true = sym (ap is_true (ap (told v) is ∙ told_at v w)) ∙ m in
      let level : cmp_by_worth v w ≡ Equal = same_by_worth v w (equal_is (cmp_value v w) told_so) in
      subst (λ (x : Value). cmp_by_worth v x ≢ side) (sym same) (apart Eq (cmp_by_worth v w) side (ap (agrees Eq) level) refused)

  pub bound_cmp : (op : CmpOp) (w bound : Value) → t ≡ test.Cmp op w → agrees op side ≡ false → bound ≡ w → IsBound t side bound
  bound_cmp op w bound is refused same v m =
      let told_so : is_true (comparison op v w) ≡ true = sym (ap is_true (ap (told v) is ∙ told_cmp v op w)) ∙ m in
      subst (λ (x : Value). cmp_by_worth v x ≢ side) (sym same) (apart op (cmp_by_worth v w) side (holds_by_worth v w op told_so) refused)

  between_told : (v low high : Value) → t ≡ test.Between low high → meets v t ≡ true → is_true (both (comparison Ge v low) (comparison Le v high)) ≡ true
  between_told v low high is m = sym (ap is_true (ap (told v) is ∙ told_between v low high)) ∙ m

  pub bound_from : (low high bound : Value) → t ≡ test.Between low high → agrees Ge side ≡ false → bound ≡ low → IsBound t side bound
  bound_from low high bound is refused same v m =
      let told_so = first_true (comparison Ge v low) (comparison Le v high) (between_told v low high is m) in
      subst (λ (x : Value). cmp_by_worth v x ≢ side) (sym same) (apart Ge (cmp_by_worth v low) side (holds_by_worth v low Ge told_so) refused)

  pub bound_up_to : (low high bound : Value) → t ≡ test.Between low high → agrees Le side ≡ false → bound ≡ high → IsBound t side bound
  bound_up_to low high bound is refused same v m =
      let told_so = second_true (comparison Ge v low) (comparison Le v high) (between_told v low high is m) in
      subst (λ (x : Value). cmp_by_worth v x ≢ side) (sym same) (apart Le (cmp_by_worth v high) side (holds_by_worth v high Le told_so) refused)

  pub bound_and : (ts : List DimTest) (bound : Value) → t ≡ test.And ts → ((v : Value) → all_hold (map (told v) ts) ≡ Some true → cmp_by_worth v bound ≢ side) → IsBound t side bound
  bound_and ts bound is h v m = h v (true_is (all_hold (map (told v) ts)) (sym (ap is_true (ap (told v) is ∙ told_and v ts)) ∙ m))

-- where all tests hold, each does
pub each_holds : (v : Value) (ts : List DimTest) (k : ℕ) (d : DimTest) → all_hold (map (told v) ts) ≡ Some true → k < length ts → meets v (get_or ts k d) ≡ true
each_holds v [] k d h l = absurd (omega arith)
each_holds v (t ∷ ts) zero d h l = first_true (told v t) (all_hold (map (told v) ts)) (ap is_true h)
each_holds v (t ∷ ts) (suc k) d h l =
    each_holds v ts k d (true_is (all_hold (map (told v) ts)) (second_true (told v t) (all_hold (map (told v) ts)) (ap is_true h))) (omega arith)

either_true : (t u : Truth) → either t u ≡ Some true → (t ≡ Some true) ⊎ (u ≡ Some true)
either_true (Some true) u h = inl refl
either_true (Some false) u h = inr h
either_true None (Some true) h = inr refl
either_true None (Some false) h = cc
either_true None None h = cc

module _ (side : Ordering) where
  -- a value that IN finds among these stands as one of them does
  pub stands_among : (v w : Value) (ws : List Value) → is_among v ws ≡ Some true → ((k : ℕ) (d : Value) → k < length ws → cmp_by_worth (get_or ws k d) w ≢ side) → cmp_by_worth v w ≢ side
  stands_among v w [] h each = cc
  stands_among v w (x ∷ xs) h each = by (either_true (comparison Eq v x) (is_among v xs) h) (λ e. stands_among v w xs e (λ k d l. each (suc k) d (omega arith)))
    where
      by : (comparison Eq v x ≡ Some true) ⊎ (is_among v xs ≡ Some true) → (is_among v xs ≡ Some true → cmp_by_worth v w ≢ side) → cmp_by_worth v w ≢ side
      by (inl e) rest =
          let level : cmp_by_worth v x ≡ Equal = equal_is (cmp_by_worth v x) (holds_by_worth v x Eq (ap is_true e)) in
          λ s. each 0 x (omega arith) (sym (worth_total.congr v x w level) ∙ s)
      by (inr e) rest = rest e

  pub bound_in : (t : DimTest) (ws : List Value) (bound : Value) → t ≡ test.In ws → ((v : Value) → is_among v ws ≡ Some true → cmp_by_worth v bound ≢ side) → IsBound t side bound
  bound_in t ws bound is h v m = h v (true_is (is_among v ws) (sym (ap is_true (ap (told v) is ∙ told_in v ws)) ∙ m))

  module _ (n : side ≢ Equal) where
    further : (u v w : Value) → cmp_by_worth u v ≡ side → cmp_by_worth v w ≡ side → cmp_by_worth u w ≡ side
    further u v w e f = by side n e f
      where
        by : (r : Ordering) → r ≢ Equal → cmp_by_worth u v ≡ r → cmp_by_worth v w ≡ r → cmp_by_worth u w ≡ r
        by Less m e f = worth_total.trans u v w e f
        by Equal m e f = absurd (m refl)
        by Greater m e f =
            worth_total.antisymm u w
            ∙ ap ordering_reverse (worth_total.trans w v u (worth_total.antisymm w v ∙ ap ordering_reverse f) (worth_total.antisymm v u ∙ ap ordering_reverse e))

    itself : (v : Value) → cmp_by_worth v v ≢ side
    itself v e = n (sym e ∙ tied_itself worth_total v)

    module _ (ws : List Value) (found i : ℕ) (before : (k : ℕ) (d : Value) → k < i → cmp_by_worth (get_or ws k d) (get_or ws found d) ≢ side) where
      -- none of the values up to number i is further than the one that was found
      pub still_furthest : ((d : Value) → cmp_by_worth (get_or ws i d) (get_or ws found d) ≢ side) → (k : ℕ) (d : Value) → k < i + 1 → cmp_by_worth (get_or ws k d) (get_or ws found d) ≢ side
      still_furthest not k d l = by (cases_lt k i)
        where
          by : (k < i) ⊎ (i ≤ k) → cmp_by_worth (get_or ws k d) (get_or ws found d) ≢ side
          by (inl m) = before k d m
          by (inr m) = let e : k ≡ i = omega arith in subst (λ (j : ℕ). cmp_by_worth (get_or ws j d) (get_or ws found d) ≢ side) (sym e) (not d)

      -- and where number i is further, none is further than that
      pub now_furthest : ((d : Value) → cmp_by_worth (get_or ws i d) (get_or ws found d) ≡ side) → (k : ℕ) (d : Value) → k < i + 1 → cmp_by_worth (get_or ws k d) (get_or ws i d) ≢ side
      now_furthest past k d l = by (cases_lt k i)
        where
          by : (k < i) ⊎ (i ≤ k) → cmp_by_worth (get_or ws k d) (get_or ws i d) ≢ side
          by (inl m) = λ e. before k d m (further (get_or ws k d) (get_or ws i d) (get_or ws found d) e (past d))
          by (inr m) = let e : k ≡ i = omega arith in subst (λ (j : ℕ). cmp_by_worth (get_or ws j d) (get_or ws i d) ≢ side) (sym e) (itself (get_or ws i d))
