-- The index of a column: the rows with equal values, one after another.
use Rattle.std.proofs.Common.{◌≡◌, ◌≢◌, ℕ, ◌+◌, ◌<◌, ◌≤◌, Bool, true, false, cond, List, length, get_or, set, Option, Some, None, sym, ap, subst, ◌∙◌, ⊎_elim, arith, eq-or-lt_of_le, get_or-set_other, get_or-set_same, length-set}
use Rattle.std.specs.Prelude.{slice_index_or}
use Rattle.std.specs.BTreeMap.{BTreeMap, get, is_at}
use Rattle.mq_values.specs.declared.value.Value.{Value}
use Rattle.mq_ir.specs.Keys.{Tuple}
use Rattle.mq_join.specs.JoinKeys.{cmp_joined, is_same_key, same_keys_equiv}
use Rattle.mq_join.specs.Indexed.{AllKeys, IsChained, IsFirst, NoneIn, key_at, matches}

-- the first place of which q holds, one place earlier
none_more : (q : ℕ → Bool) (i n : ℕ) → q i ≡ false → NoneIn q (i + 1) n → NoneIn q i n
none_more q i n e h k a b =
    ⊎_elim
    (λ (same : i ≡ k). ap q (sym same) ∙ e)
    (λ (l : i < k). h k (omega arith) b)
    (eq-or-lt_of_le a)

first_more : (q : ℕ → Bool) (i n : ℕ) (o : Option ℕ) → q i ≡ false → IsFirst q (i + 1) n o → IsFirst q i n o
first_more q i n None e h = none_more q i n e h
first_more q i n (Some p) e h = let a : i ≤ p = omega (arith, h.0) in (a, h.1, h.2, none_more q i p e h.3)

first_here : (q : ℕ → Bool) (i n : ℕ) → i < n → q i ≡ true → IsFirst q i n (Some i)
first_here q i n h e = let a : i ≤ i = omega arith in (a, h, e, λ k b c. absurd (omega arith))

first_put : (q : ℕ → Bool) (p n : ℕ) (b : Bool) (old new : Option ℕ) → p < n → q p ≡ b → new ≡ cond b (Some p) old → IsFirst q (p + 1) n old → IsFirst q p n new
first_put q p n true old new h e f g = subst (λ (o : Option ℕ). IsFirst q p n o) (sym f) (first_here q p n h e)
first_put q p n false old new h e f g = subst (λ (o : Option ℕ). IsFirst q p n o) (sym f) (first_more q p n old e g)

module _ (rows : List Tuple) (column : ℕ) where
  -- no row yet
  pub chained_none : (n : ℕ) (heads : BTreeMap Value ℕ) (next : List (Option ℕ)) → n ≡ length rows → length next ≡ n → ((v : Value) → get cmp_joined heads v ≡ None) → IsChained rows column n heads next
  chained_none n heads next e l none = record {
    long = l ∙ e;
    heads = λ v. subst (λ (o : Option ℕ). IsFirst (matches rows column v) n (length rows) o) (sym (none v)) (λ k a b. absurd (omega (arith, e)));
    next = λ p a b. absurd (omega (arith, e));
  }

  -- one row more, before the others
  pub chained_more : (p i : ℕ) (heads new : BTreeMap Value ℕ) (next later : List (Option ℕ)) (key : Value) (old : Option ℕ) → i ≡ p + 1 → p < length rows → key ≡ key_at rows column p
      → ((v : Value) → get cmp_joined new v ≡ cond (is_at (cmp_joined key) v) (Some p) (get cmp_joined heads v)) → old ≡ get cmp_joined heads key → later ≡ set next p old
      → IsChained rows column i heads next → IsChained rows column p new later
  chained_more p i heads new next later key old e within at put was set_to h = record {
    long = ap length set_to ∙ length-set next p old ∙ h.long;
    heads = λ v.
        let turn : matches rows column v p ≡ is_same_key key v = ap (is_same_key v) (sym at) ∙ same_keys_equiv.symm v key in
        first_put (matches rows column v) p (length rows) (is_same_key key v) (get cmp_joined heads v) (get cmp_joined new v) within turn (put v)
        (subst (λ (k : ℕ). IsFirst (matches rows column v) k (length rows) (get cmp_joined heads v)) e (h.heads v));
    next = λ k a b.
        ⊎_elim
        (λ (same : p ≡ k). subst (λ (x : ℕ). IsFirst (matches rows column (key_at rows column x)) (x + 1) (length rows) (slice_index_or later x None)) same (here h))
        (λ (l : p < k). let m : i ≤ k = omega (arith, e) in let other : k ≢ p = omega arith in
        subst (λ (o : Option ℕ). IsFirst (matches rows column (key_at rows column k)) (k + 1) (length rows) o)
        (sym (ap (λ (xs : List (Option ℕ)). get_or xs k None) set_to ∙ get_or-set_other next p k old None other)) (h.next k m b))
        (eq-or-lt_of_le a);
  }
    where
      here : IsChained rows column i heads next → IsFirst (matches rows column (key_at rows column p)) (p + 1) (length rows) (slice_index_or later p None)
      here h =
          let long : p < length next = omega (arith, h.long) in
          subst (λ (o : Option ℕ). IsFirst (matches rows column (key_at rows column p)) (p + 1) (length rows) o)
          (sym (ap (λ (xs : List (Option ℕ)). get_or xs p None) set_to ∙ get_or-set_same next p old None long))
          (subst (λ (o : Option ℕ). IsFirst (matches rows column (key_at rows column p)) (p + 1) (length rows) o) (sym was)
          (subst (λ (k : Value). IsFirst (matches rows column k) (p + 1) (length rows) (get cmp_joined heads key)) at
          (subst (λ (x : ℕ). IsFirst (matches rows column key) x (length rows) (get cmp_joined heads key)) e (h.heads key))))

-- what all rows have, row by row
pub keys_more : (test : Value → Bool) (rows : List Tuple) (column i : ℕ) → ((k : ℕ) → k < i → test (key_at rows column k) ≡ true) → test (key_at rows column i) ≡ true → (k : ℕ) → k < i + 1 → test (key_at rows column k) ≡ true
keys_more test rows column i h e k b =
    let c : k ≤ i = omega arith in
    ⊎_elim
    (λ (same : k ≡ i). ap (λ (x : ℕ). test (key_at rows column x)) same ∙ e)
    (λ (l : k < i). h k l)
    (eq-or-lt_of_le c)

pub keys_all : (test : Value → Bool) (rows : List Tuple) (column i : ℕ) → length rows ≤ i → ((k : ℕ) → k < i → test (key_at rows column k) ≡ true) → AllKeys test rows column
keys_all test rows column i e h k b = h k (omega arith)

-- places that are told apart alike
first_alike : (q r : ℕ → Bool) (i n : ℕ) (o : Option ℕ) → ((k : ℕ) → r k ≡ q k) → IsFirst q i n o → IsFirst r i n o
first_alike q r i n None e h = λ k a b. e k ∙ h k a b
first_alike q r i n (Some p) e h = (h.0, h.1, e p ∙ h.2, λ k a b. e k ∙ h.3 k a b)

-- behind a row with the value that is looked up
pub behind_match : (rows : List Tuple) (column : ℕ) (heads : BTreeMap Value ℕ) (next : List (Option ℕ)) (v : Value) (p : ℕ) → IsChained rows column 0 heads next → p < length rows → matches rows column v p ≡ true
    → IsFirst (matches rows column v) (p + 1) (length rows) (slice_index_or next p None)
behind_match rows column heads next v p h within same =
    let z : 0 ≤ p = omega arith in
    first_alike (matches rows column (key_at rows column p)) (matches rows column v) (p + 1) (length rows) (slice_index_or next p None)
    (λ k. same_keys_equiv.congr v (key_at rows column p) (key_at rows column k) same) (h.next p z within)

-- for the loops over the rows
pub ruleset index_steps = (chained_none, chained_more, keys_more, keys_all)
