-- Which tests the keys of one row meet, and no others.
use Rattle.std.proofs.Common.{◌≡◌, ◌≢◌, ℕ, suc, ◌<◌, ◌≤◌, List, [], ◌∷◌, ◌++◌, Bool, true, false, ◌&&◌, length, get_or, map, Option, Some, None, unwrap_or, Ordering, Less, Equal, Greater, refl, sym, ap, ◌∙◌, arith}
use Rattle.std.specs.List.{AllWithin, list_all, slice_get}
use Rattle.std.specs.List.Sorted.{IsPartitionedBy, IsPartitionPoint}
use Rattle.std.specs.Option.{option_cmp}
use Rattle.std.specs.Ordering.{is_eq, is_le, is_lt, ordering_reverse}
use Rattle.mq_values.specs.Aggregate.{is_value}
use Rattle.mq_values.specs.DimTestLaws.{told_and, told_any, told_at, told_between, told_cmp}
use Rattle.mq_values.specs.DimTests.{all_hold, meets, told}
use Rattle.mq_values.specs.Order.{cmp_value, compared}
use Rattle.mq_values.specs.OrderLaws.{value_total}
use Rattle.mq_values.specs.Truth.{Truth, agrees, agrees_with, both, comparison, is_true}
use Rattle.mq_values.specs.declared.operators.CmpOp.{CmpOp}
use Rattle.mq_values.specs.declared.operators.CmpOp.TheVariants.{Eq, Ne, Lt, Le, Gt, Ge}
use Rattle.mq_values.specs.declared.operators.DimTest.{DimTest}
use Rattle.mq_values.specs.declared.operators.DimTest.TheVariants as test
use Rattle.mq_values.specs.declared.value.Value.{Value}
use Rattle.mq_values.specs.declared.value.Value.TheVariants as value
use Rattle.mq_dim_index.specs.Places.{Tuple, meets_every}
use Rattle.mq_dim_index.specs.Runs.{AscendIn, cmp_by_worth, first_has_value, has_value, value_meets}
use Rattle.mq_dim_index.specs.Spans.{IsSpan, stand_at, stand_beside, stand_by, stand_to}
use Rattle.mq_dim_index.proofs.RunLemmas.{each_has_value, lower, lower_or_level, no_greater, partitioned, worth_total}

-- ---- the sorts of values, in their order

abbrev rank : Value → ℕ
rank (value.Num n) = 0
rank (value.Text t) = 1
rank (value.Date d) = 2
rank value.Null = 3

rank_rises : (v w : Value) → cmp_value v w ≢ Greater → rank v ≤ rank w
rank_rises (value.Num a) (value.Num b) n = omega arith
rank_rises (value.Num a) (value.Text b) n = omega arith
rank_rises (value.Num a) (value.Date b) n = omega arith
rank_rises (value.Num a) value.Null n = omega arith
rank_rises (value.Text a) (value.Num b) n = absurd (n refl)
rank_rises (value.Text a) (value.Text b) n = omega arith
rank_rises (value.Text a) (value.Date b) n = omega arith
rank_rises (value.Text a) value.Null n = omega arith
rank_rises (value.Date a) (value.Num b) n = absurd (n refl)
rank_rises (value.Date a) (value.Text b) n = absurd (n refl)
rank_rises (value.Date a) (value.Date b) n = omega arith
rank_rises (value.Date a) value.Null n = omega arith
rank_rises value.Null (value.Num b) n = absurd (n refl)
rank_rises value.Null (value.Text b) n = absurd (n refl)
rank_rises value.Null (value.Date b) n = absurd (n refl)
rank_rises value.Null value.Null n = omega arith

same_rank : (v w : Value) (r : Ordering) → compared v w ≡ Some r → rank v ≡ rank w
same_rank (value.Num a) (value.Num b) r h = refl
same_rank (value.Num a) (value.Text b) r h = cc
same_rank (value.Num a) (value.Date b) r h = cc
same_rank (value.Num a) value.Null r h = cc
same_rank (value.Text a) (value.Num b) r h = cc
same_rank (value.Text a) (value.Text b) r h = refl
same_rank (value.Text a) (value.Date b) r h = cc
same_rank (value.Text a) value.Null r h = cc
same_rank (value.Date a) (value.Num b) r h = cc
same_rank (value.Date a) (value.Text b) r h = cc
same_rank (value.Date a) (value.Date b) r h = refl
same_rank (value.Date a) value.Null r h = cc
same_rank value.Null (value.Num b) r h = cc
same_rank value.Null (value.Text b) r h = cc
same_rank value.Null (value.Date b) r h = cc
same_rank value.Null value.Null r h = cc

other_rank : (v w : Value) → compared v w ≡ None → is_value w ≡ true → rank v ≢ rank w
other_rank (value.Num a) (value.Num b) h t = cc
other_rank (value.Num a) (value.Text b) h t = λ e. absurd (omega arith)
other_rank (value.Num a) (value.Date b) h t = λ e. absurd (omega arith)
other_rank (value.Num a) value.Null h t = cc
other_rank (value.Text a) (value.Num b) h t = λ e. absurd (omega arith)
other_rank (value.Text a) (value.Text b) h t = cc
other_rank (value.Text a) (value.Date b) h t = λ e. absurd (omega arith)
other_rank (value.Text a) value.Null h t = cc
other_rank (value.Date a) (value.Num b) h t = λ e. absurd (omega arith)
other_rank (value.Date a) (value.Text b) h t = λ e. absurd (omega arith)
other_rank (value.Date a) (value.Date b) h t = cc
other_rank (value.Date a) value.Null h t = cc
other_rank value.Null (value.Num b) h t = λ e. absurd (omega arith)
other_rank value.Null (value.Text b) h t = λ e. absurd (omega arith)
other_rank value.Null (value.Date b) h t = λ e. absurd (omega arith)
other_rank value.Null value.Null h t = cc

module _ (w : Value) (there : is_value w ≡ true) where
  -- a value of another sort stands on one side of w, and on that side of all values of its sort
  not_level : (v : Value) → compared v w ≡ None → cmp_value v w ≢ Equal
  not_level v h e =
      let up = rank_rises v w (λ g. let f : Equal ≡ Greater = sym e ∙ g in cc) in
      let down = rank_rises w v (λ g. let f : Equal ≡ Greater = sym (ap ordering_reverse e) ∙ sym (value_total.antisymm w v) ∙ g in cc) in
      other_rank v w h there (omega arith)

  behind_sort : (x y : Value) (r : Ordering) → cmp_value x y ≢ Greater → compared x w ≡ Some r → compared y w ≡ None → cmp_value y w ≡ Greater
  behind_sort x y r n e f = by (cmp_value y w) refl
    where
      by : (s : Ordering) → cmp_value y w ≡ s → s ≡ Greater
      by Less g =
          let one = same_rank x w r e in
          let two = rank_rises x y n in
          let three = rank_rises y w (λ h. let i : Less ≡ Greater = sym g ∙ h in cc) in
          absurd (other_rank y w f there (omega arith))
      by Equal g = absurd (not_level y f g)
      by Greater g = refl

  before_sort : (x y : Value) (r : Ordering) → cmp_value x y ≢ Greater → compared x w ≡ None → compared y w ≡ Some r → cmp_value x w ≡ Less
  before_sort x y r n e f = by (cmp_value x w) refl
    where
      by : (s : Ordering) → cmp_value x w ≡ s → s ≡ Less
      by Less g = refl
      by Equal g = absurd (not_level x e g)
      by Greater g =
          let one = same_rank y w r f in
          let two = rank_rises x y n in
          let three = rank_rises w x (λ h. let i : Less ≡ Greater = sym (ap ordering_reverse g) ∙ sym (value_total.antisymm w x) ∙ h in cc) in
          absurd (other_rank x w e there (omega arith))

-- ---- where values stand to those that an operator holds of

-- the first of two stands no further behind than the second
abbrev NotBehind : Ordering → Ordering → Type 0
NotBehind r s = (is_lt s ≡ true → is_lt r ≡ true) × (is_le s ≡ true → is_le r ≡ true)

-- what is in front of the values that an operator holds of, and what is not behind them, by the order to the operand
abbrev lt_to : CmpOp → Ordering → Bool
lt_to Eq r = is_lt r
lt_to Ne r = false
lt_to Lt r = false
lt_to Le r = false
lt_to Gt r = is_le r
lt_to Ge r = is_lt r

abbrev le_to : CmpOp → Ordering → Bool
le_to Eq r = is_le r
le_to Ne r = false
le_to Lt r = is_lt r
le_to Le r = is_le r
le_to Gt r = true
le_to Ge r = true

is_lt_to : (op : CmpOp) (n : op ≢ Ne) (r : Ordering) → is_lt (stand_to op r) ≡ lt_to op r
is_lt_to Eq n Less = refl
is_lt_to Eq n Equal = refl
is_lt_to Eq n Greater = refl
is_lt_to Ne n r = absurd (n refl)
is_lt_to Lt n Less = refl
is_lt_to Lt n Equal = refl
is_lt_to Lt n Greater = refl
is_lt_to Le n Less = refl
is_lt_to Le n Equal = refl
is_lt_to Le n Greater = refl
is_lt_to Gt n Less = refl
is_lt_to Gt n Equal = refl
is_lt_to Gt n Greater = refl
is_lt_to Ge n Less = refl
is_lt_to Ge n Equal = refl
is_lt_to Ge n Greater = refl

is_le_to : (op : CmpOp) (n : op ≢ Ne) (r : Ordering) → is_le (stand_to op r) ≡ le_to op r
is_le_to Eq n Less = refl
is_le_to Eq n Equal = refl
is_le_to Eq n Greater = refl
is_le_to Ne n r = absurd (n refl)
is_le_to Lt n Less = refl
is_le_to Lt n Equal = refl
is_le_to Lt n Greater = refl
is_le_to Le n Less = refl
is_le_to Le n Equal = refl
is_le_to Le n Greater = refl
is_le_to Gt n Less = refl
is_le_to Gt n Equal = refl
is_le_to Gt n Greater = refl
is_le_to Ge n Less = refl
is_le_to Ge n Equal = refl
is_le_to Ge n Greater = refl

-- the operator holds where they stand among these values
is_eq_to : (op : CmpOp) → op ≢ Ne → (r : Ordering) → is_eq (stand_to op r) ≡ agrees op r
is_eq_to Eq n Less = refl
is_eq_to Eq n Equal = refl
is_eq_to Eq n Greater = refl
is_eq_to Ne n r = absurd (n refl)
is_eq_to Lt n Less = refl
is_eq_to Lt n Equal = refl
is_eq_to Lt n Greater = refl
is_eq_to Le n Less = refl
is_eq_to Le n Equal = refl
is_eq_to Le n Greater = refl
is_eq_to Gt n Less = refl
is_eq_to Gt n Equal = refl
is_eq_to Gt n Greater = refl
is_eq_to Ge n Less = refl
is_eq_to Ge n Equal = refl
is_eq_to Ge n Greater = refl

lt_rises : (op : CmpOp) (n : op ≢ Ne) (r s : Ordering) → NotBehind r s → lt_to op s ≡ true → lt_to op r ≡ true
lt_rises Eq n r s h l = h.0 l
lt_rises Ne n r s h l = absurd (n refl)
lt_rises Lt n r s h l = cc
lt_rises Le n r s h l = cc
lt_rises Gt n r s h l = h.1 l
lt_rises Ge n r s h l = h.0 l

le_rises : (op : CmpOp) (n : op ≢ Ne) (r s : Ordering) → NotBehind r s → le_to op s ≡ true → le_to op r ≡ true
le_rises Eq n r s h l = h.1 l
le_rises Ne n r s h l = absurd (n refl)
le_rises Lt n r s h l = h.0 l
le_rises Le n r s h l = h.1 l
le_rises Gt n r s h l = refl
le_rises Ge n r s h l = refl

to_rises : (op : CmpOp) → op ≢ Ne → (r s : Ordering) → NotBehind r s → NotBehind (stand_to op r) (stand_to op s)
to_rises op n r s h =
    ((λ l. is_lt_to op n r ∙ lt_rises op n r s h (sym (is_lt_to op n s) ∙ l)), (λ l. is_le_to op n r ∙ le_rises op n r s h (sym (is_le_to op n s) ∙ l)))

-- values that ascend stand so to the values that meet a test
abbrev pub Rises : (Option Value → Ordering) → Type 0
Rises f = (a b : Option Value) → option_cmp cmp_value a b ≢ Greater → NotBehind (f a) (f b)

pub at_rises : (w : Value) → Rises (stand_at w)
at_rises w None b n = ((λ l. refl), (λ l. refl))
at_rises w (Some x) None n = absurd (n refl)
at_rises w (Some x) (Some y) n = (lower value_total x y w n, lower_or_level value_total x y w n)

module _ (op : CmpOp) (n : op ≢ Ne) (w : Value) (there : is_value w ≡ true) where
  values_rise : (x y : Value) → cmp_value x y ≢ Greater → NotBehind (stand_by op w (Some x)) (stand_by op w (Some y))
  values_rise x y le = by (compared x w) (compared y w) refl refl
    where
      worth : (v : Value) (r : Ordering) → compared v w ≡ Some r → cmp_by_worth v w ≡ r
      worth v r e = ap (λ c. unwrap_or c (cmp_value v w)) e

      by : (c d : Option Ordering) → compared x w ≡ c → compared y w ≡ d → NotBehind (stand_beside op c (cmp_value x w)) (stand_beside op d (cmp_value y w))
      by None None e f = (lower value_total x y w le, lower_or_level value_total x y w le)
      by None (Some s) e f = let first = before_sort w there x y s le e f in ((λ l. ap is_lt first), (λ l. ap is_le first))
      by (Some r) None e f =
          let second = behind_sort w there x y r le e f in
          ((λ l. let h : true ≡ false = sym l ∙ ap is_lt second in cc), (λ l. let h : true ≡ false = sym l ∙ ap is_le second in cc))
      by (Some r) (Some s) e f =
          let i = worth x r e in
          let j = worth y s f in
          let m = no_greater x y le in
          to_rises op n r s
          ((λ l. sym (ap is_lt i) ∙ lower worth_total x y w m (ap is_lt j ∙ l)), (λ l. sym (ap is_le i) ∙ lower_or_level worth_total x y w m (ap is_le j ∙ l)))

  pub by_rises : Rises (stand_by op w)
  by_rises None b m = ((λ l. refl), (λ l. refl))
  by_rises (Some x) None m = absurd (m refl)
  by_rises (Some x) (Some y) m = values_rise x y m

  -- those that stand among them meet the comparison
  pub by_meets : (v : Option Value) → has_value v ≡ true → is_eq (stand_by op w v) ≡ value_meets (test.Cmp op w) v
  by_meets None h = cc
  by_meets (Some v) h = by (compared v w) refl ∙ sym (ap is_true (told_cmp v op w))
    where
      by : (c : Option Ordering) → compared v w ≡ c → is_eq (stand_beside op c (cmp_value v w)) ≡ is_true (agrees_with op c)
      by (Some r) e = is_eq_to op n r
      by None e = apart (cmp_value v w) (not_level w there v e)
        where
          apart : (r : Ordering) → r ≢ Equal → is_eq r ≡ false
          apart Less m = refl
          apart Equal m = absurd (m refl)
          apart Greater m = refl

pub at_meets : (w : Value) (v : Option Value) → has_value v ≡ true → is_eq (stand_at w v) ≡ value_meets (test.At w) v
at_meets w None h = cc
at_meets w (Some v) h = sym (ap is_true (told_at v w))

-- ---- rows

between_level : (r : Ordering) → is_lt r ≡ false → is_le r ≡ true → is_eq r ≡ true
between_level Less h l = cc
between_level Equal h l = refl
between_level Greater h l = cc

below_level : (r : Ordering) → is_lt r ≡ true → is_eq r ≡ false
below_level Less h = refl
below_level Equal h = cc
below_level Greater h = cc

above_level : (r : Ordering) → is_le r ≡ false → is_eq r ≡ false
above_level Less h = cc
above_level Equal h = cc
above_level Greater h = refl

module _ (d : ℕ) (keys : List Tuple) (s : AscendIn d keys) (f : Option Value → Ordering) (rises : Rises f) where
  -- the searches may go by halves
  pub parted_before : IsPartitionedBy (λ key. is_lt (f (slice_get key d))) keys
  parted_before = partitioned d keys s (λ v. is_lt (f v)) (λ a b n. (rises a b n).0)

  pub parted_up_to : IsPartitionedBy (λ key. is_le (f (slice_get key d))) keys
  parted_up_to = partitioned d keys s (λ v. is_le (f v)) (λ a b n. (rises a b n).1)

  -- what they find is a row, of the keys whose values stand among those that meet the test
  module _ (valued : first_has_value d keys ≡ true) (q : Option Value → Bool) (same : (v : Option Value) → has_value v ≡ true → is_eq (f v) ≡ q v) where
    pub row_found : (at start end : ℕ) → start ≤ at → start ≤ end → ((k : ℕ) → start ≤ k → k < end → at ≤ k) → end ≤ length keys → at ≤ length keys →
        IsPartitionPoint (λ key. is_lt (f (slice_get key d)) ≡ true) (λ key. is_lt (f (slice_get key d)) ≡ false) keys at →
        IsPartitionPoint (λ key. is_le (f (slice_get key d)) ≡ true) (λ key. is_le (f (slice_get key d)) ≡ false) keys end → IsSpan (λ key. q (slice_get key d)) keys start end
    row_found at start end within ordered reached bound bound' before up_to =
        record {
          ordered = ordered;
          within = bound;
          before = λ k o low l. turned k o (omega arith) ∙ below_level (f (slice_get (get_or keys k o) d)) (before.0 k o low (omega arith));
          among = λ k o low l.
              let past : at ≤ k = reached k low l in
              turned k o (omega arith) ∙ between_level (f (slice_get (get_or keys k o) d)) (before.1 k o past (omega arith)) (up_to.0 k o (omega arith) l);
          behind = λ k o low l. turned k o l ∙ above_level (f (slice_get (get_or keys k o) d)) (up_to.1 k o low l);
        }
      where
        turned : (k : ℕ) (o : Tuple) → k < length keys → q (slice_get (get_or keys k o) d) ≡ is_eq (f (slice_get (get_or keys k o) d))
        turned k o l = sym (same (slice_get (get_or keys k o) d) (each_has_value d keys k o s valued l))

-- the same keys pass another test
pub span_as : (p q : Tuple → Bool) (keys : List Tuple) (start end : ℕ) → AllWithin (λ key. p key ≡ q key) keys 0 (length keys) → IsSpan p keys start end → IsSpan q keys start end
span_as p q keys start end same h =
    let ordered = h.ordered in
    let within = h.within in
    record {
      ordered = ordered;
      within = within;
      before = λ k o low l. sym (same k o low (omega arith)) ∙ h.before k o low l;
      among = λ k o low l. sym (same k o (omega arith) (omega arith)) ∙ h.among k o low l;
      behind = λ k o low l. sym (same k o (omega arith) l) ∙ h.behind k o low l;
    }

-- ---- tests that hold together

both_meet : (t u : Truth) → is_true (both t u) ≡ (is_true t && is_true u)
both_meet (Some true) u = refl
both_meet (Some false) u = refl
both_meet None (Some true) = refl
both_meet None (Some false) = refl
both_meet None None = refl

pub between_meets : (low high : Value) (v : Option Value) → (value_meets (test.Cmp Ge low) v && value_meets (test.Cmp Le high) v) ≡ value_meets (test.Between low high) v
between_meets low high None = refl
between_meets low high (Some v) =
    (λ i. is_true (told_cmp v Ge low i) && is_true (told_cmp v Le high i))
    ∙ sym (both_meet (comparison Ge v low) (comparison Le v high))
    ∙ sym (ap is_true (told_between v low high))

each_meets : (v : Value) (ts : List DimTest) → list_all (λ t. value_meets t (Some v)) ts ≡ is_true (all_hold (map (told v) ts))
each_meets v [] = refl
each_meets v (t ∷ ts) = ap (λ b. meets v t && b) (each_meets v ts) ∙ sym (both_meet (told v t) (all_hold (map (told v) ts)))

none_asked : (ts : List DimTest) → list_all (λ t. value_meets t None) ts ≡ true
none_asked [] = refl
none_asked (t ∷ ts) = none_asked ts

pub and_meets : (ts : List DimTest) (v : Option Value) → list_all (λ t. value_meets t v) ts ≡ value_meets (test.And ts) v
and_meets ts None = none_asked ts
and_meets ts (Some v) = each_meets v ts ∙ sym (ap is_true (told_and v ts))

and_true : (b : Bool) → (b && true) ≡ b
and_true true = refl
and_true false = refl

-- one test more
pub one_more_meets : (p : DimTest → Bool) (ts : List DimTest) (t : DimTest) → (list_all p ts && p t) ≡ list_all p (ts ++ t ∷ [])
one_more_meets p [] t = sym (and_true (p t))
one_more_meets p (u ∷ ts) t = assoc (p u) (list_all p ts) (p t) ∙ ap (λ b. p u && b) (one_more_meets p ts t)
  where
    assoc : (a b c : Bool) → ((a && b) && c) ≡ (a && (b && c))
    assoc true b c = refl
    assoc false b c = refl

-- tests that ask nothing
free : (ts : List DimTest) (vs : Tuple) → ((k : ℕ) (d : DimTest) → k < length ts → get_or ts k d ≡ test.Any) → meets_every ts vs ≡ true
free [] vs h = refl
free (t ∷ ts) [] h = refl
free (t ∷ ts) (v ∷ vs) h =
    (λ i. is_true ((ap (told v) (h 0 t (omega arith)) ∙ told_any v) i) && meets_every ts vs) ∙ free ts vs (λ k d l. h (suc k) d (omega arith))

pub first_decides : (t : DimTest) (tests : List DimTest) (key : Tuple) → Some t ≡ slice_get tests 0 → AllWithin (λ u. u ≡ test.Any) tests 1 (length tests) → has_value (slice_get key 0) ≡ true →
    value_meets t (slice_get key 0) ≡ meets_every tests key
first_decides t [] key is h w = cc
first_decides t (u ∷ tests) [] is h w = cc
first_decides t (u ∷ tests) (v ∷ vs) is h w =
    let same : t ≡ u = cc in
    ap (meets v) same ∙ sym (ap (λ b. meets v u && b) (free tests vs (λ k d l. h (suc k) d (omega arith) (omega arith))) ∙ and_true (meets v u))

-- a test that holds of all values
pub any_meets : (v : Option Value) → true ≡ value_meets test.Any v
any_meets None = refl
any_meets (Some v) = sym (ap is_true (told_any v))

pub no_null : (w : Value) → w ≢ value.Null → is_value w ≡ true
no_null (value.Num n) h = refl
no_null (value.Text t) h = refl
no_null (value.Date d) h = refl
no_null value.Null h = absurd (h refl)
