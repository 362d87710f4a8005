-- Keys that are listed once.
use Rattle.std.proofs.Common.{◌≡◌, ℕ, ◌+◌, ◌<◌, ◌≤◌, List, [], ◌∷◌, ◌++◌, Bool, true, false, ◌&&◌, ◌||◌, not, cond, drop, length, get_or, refl, sym, ap, ◌∙◌, append_assoc}
use Rattle.std.specs.BTreeSet.{insert_key}
use Rattle.std.specs.Cmp.{eq_by_cmp_equiv}
use Rattle.std.specs.List.{filter}
use Rattle.std.proofs.lemmas.List.{append-nil, drop_all}
use Rattle.std.proofs.lemmas.List.Elements.{filter_agree}
use Rattle.mq_values.specs.Order.{cmp_key}
use Rattle.mq_values.specs.OrderLaws.{key_total}
use Rattle.mq_values.specs.OrderTells.{same_key}
use Rattle.mq_ir.specs.Keys.{Tuple, each_first, is_among, is_same}
use Rattle.mq_values.specs.KeySetLaws.{among_with}
use Rattle.mq_ir.specs.StepLaws.{next_item}
use Rattle.mq_auto.proofs.NodeLemmas.{is_equal}

filter_all : {X : Type 0} (xs : List X) → filter (λ x. true) xs ≡ xs
filter_all [] = refl
filter_all (x ∷ xs) = ap (λ l. x ∷ l) (filter_all xs)

filter_both : {X : Type 0} (p q : X → Bool) (xs : List X) → filter p (filter q xs) ≡ filter (λ x. q x && p x) xs
filter_both p q [] = refl
filter_both p q (x ∷ xs) = by (q x) (filter_both p q xs)
  where
    by : (b : Bool) → filter p (filter q xs) ≡ filter (λ x. q x && p x) xs → filter p (cond b (x ∷ filter q xs) (filter q xs)) ≡ cond (b && p x) (x ∷ filter (λ x. q x && p x) xs) (filter (λ x. q x && p x) xs)
    by true h = ap (λ l. cond (p x) (x ∷ l) l) h
    by false h = h

-- not met so far
abbrev is_new : List Tuple → Tuple → Bool
is_new met k = not (is_among met k)

-- the keys that were met are listed once, and of the rest those that are new follow
pub record Listed (keys : List Tuple) (i : ℕ) (met once : List Tuple) : Type 0 where
  pub is : once ++ filter (is_new met) (each_first (drop i keys)) ≡ each_first keys

pub list_start : (keys met once : List Tuple) → met ≡ [] → once ≡ [] → Listed keys 0 met once
list_start keys met once e f = record { is = (λ j. f j ++ filter (is_new (e j)) (each_first keys)) ∙ filter_all (each_first keys) }

same_turned : (a b : Tuple) → is_same a b ≡ is_same b a
same_turned = (eq_by_cmp_equiv key_total).symm

either : (a b : Bool) → (not a && not b) ≡ not (a || b)
either true b = refl
either false b = refl

-- one more key, that is new
pub list_new : (keys met after once : List Tuple) (i : ℕ) (x put : Tuple) (last : Tuple) → i < length keys → x ≡ get_or keys i x → is_among met x ≡ false → put ≡ x → after ≡ insert_key cmp_key met put → last ≡ x
    → Listed keys i met once → Listed keys (i + 1) after (once ++ last ∷ [])
list_new keys met after once i x put last h e new p a l w = record {
  is =
      let rest = each_first (drop (i + 1) keys) in
      let others = filter (λ k. not (is_same x k)) rest in
      let told : (k : Tuple) → is_new after k ≡ (not (is_same x k) && is_new met k) =
      λ k. ap (λ s. is_new s k) (a ∙ ap (insert_key cmp_key met) p) ∙ ap not (among_with k x met) ∙ ap (λ b. not (b || is_among met k)) (same_turned k x) ∙ sym (either (is_same x k) (is_among met k)) in
      append_assoc once (last ∷ []) (filter (is_new after) rest)
      ∙ ap (λ y. once ++ y ∷ filter (is_new after) rest) l
      ∙ ap (λ ys. once ++ x ∷ ys) (filter_agree (is_new after) (λ k. not (is_same x k) && is_new met k) told rest ∙ sym (filter_both (is_new met) (λ k. not (is_same x k)) rest))
      ∙ sym (ap (λ b. once ++ cond (not b) (x ∷ filter (is_new met) others) (filter (is_new met) others)) new)
      ∙ sym (ap (λ ys. once ++ filter (is_new met) (each_first ys)) (next_item keys i x h e))
      ∙ w.is;
}

-- one more key, that was met
pub list_old : (keys met once : List Tuple) (i : ℕ) (x : Tuple) → i < length keys → x ≡ get_or keys i x → is_among met x ≡ true → Listed keys i met once → Listed keys (i + 1) met once
list_old keys met once i x h e old w = record {
  is =
      let rest = each_first (drop (i + 1) keys) in
      let others = filter (λ k. not (is_same x k)) rest in
      let told : (k : Tuple) → is_new met k ≡ (not (is_same x k) && is_new met k) = λ k. met_before k (is_same x k) refl in
      ap (λ ys. once ++ ys) (filter_agree (is_new met) (λ k. not (is_same x k) && is_new met k) told rest ∙ sym (filter_both (is_new met) (λ k. not (is_same x k)) rest))
      ∙ sym (ap (λ b. once ++ cond (not b) (x ∷ filter (is_new met) others) (filter (is_new met) others)) old)
      ∙ sym (ap (λ ys. once ++ filter (is_new met) (each_first ys)) (next_item keys i x h e))
      ∙ w.is;
}
  where
    met_before : (k : Tuple) (b : Bool) → is_same x k ≡ b → is_new met k ≡ (not b && is_new met k)
    met_before k true g = ap (λ y. not (is_among met y)) (sym (same_key x k (is_equal (cmp_key x k) g))) ∙ ap not old
    met_before k false g = refl

pub list_end : (keys met once : List Tuple) (i : ℕ) → length keys ≤ i → Listed keys i met once → once ≡ each_first keys
list_end keys met once i h w = sym (append-nil once) ∙ sym (ap (λ ys. once ++ filter (is_new met) (each_first ys)) (drop_all i keys h)) ∙ w.is
