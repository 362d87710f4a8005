-- Places of a left side as tests of their dimensions.
use Rattle.std.proofs.Common.{◌≡◌, ℕ, zero, suc, ◌+◌, ◌<◌, ◌≤◌, min, List, [], ◌∷◌, ◌++◌, Bool, true, false, ◌&&◌, cond, eqb, length, get_or, map, drop, refl, sym, ap, ◌∙◌, arith, add-one, append_assoc}
use Rattle.std.specs.Prelude.{if◌then◌else◌}
use Rattle.std.specs.Cmp.{tied_then}
use Rattle.std.specs.List.{All, filter, list_all, list_any, zip}
use Rattle.std.specs.List.Sorted.{IsStrictlySortedBy}
use Rattle.std.specs.Ordering.{is_eq, ordering_reverse}
use Rattle.std.specs.declared.cmp.Ordering.{Ordering}
use Rattle.std.specs.declared.cmp.Ordering.TheVariants.{Less, Equal, Greater}
use Rattle.std.proofs.Math.Seq.{drop-cons}
use Rattle.std.proofs.lemmas.Bool.Decides.{Decides-eqb}
use Rattle.std.proofs.lemmas.List.{get_or_default}
use Rattle.std.proofs.lemmas.List.Elements.{All-head, All-tail}
use Rattle.mq_dim_index.specs.Places.{meets_every}
use Rattle.mq_values.specs.DimTestLaws.{told_any, told_at}
use Rattle.mq_values.specs.DimTests.{meets}
use Rattle.mq_values.specs.Order.{cmp_key, cmp_value}
use Rattle.mq_values.specs.OrderLaws.{key_total, value_total}
use Rattle.mq_values.specs.OrderTells.{same_key}
use Rattle.mq_values.specs.Truth.{is_true}
use Rattle.mq_values.specs.declared.value.Value.{Value}
use Rattle.mq_ir.specs.declared.query.SingleLeft.{SingleLeft}
use Rattle.mq_ir.specs.declared.query.SinglePlace.{SinglePlace}
use Rattle.mq_ir.specs.declared.query.SinglePlace.TheVariants.{At, Sym}
use Rattle.mq_ir.specs.Keys.{Tuple, is_among, is_same}
use Rattle.mq_ir.specs.Partitions.{ascending}
use Rattle.mq_ir.specs.Targets.{is_symbolic, meets_left, meets_place, meets_symbolic, meets_symbols, named, place_is_symbolic, value_at, value_of}
use Rattle.mq_targets.specs.Choice.{HaveWidth, key_at, symbol_at, test_at}
use Rattle.mq_targets.proofs.AmongLemmas.{only_it}

turned_equal : (r : Ordering) → is_eq (ordering_reverse r) ≡ is_eq r
turned_equal Less = refl
turned_equal Equal = refl
turned_equal Greater = refl

-- a place and its test ask the same
test_asks : (place : SinglePlace) (w : Value) → meets w (test_at place) ≡ meets_place (place, w)
test_asks (At v) w = ap is_true (told_at w v) ∙ ap is_eq (value_total.antisymm w v) ∙ turned_equal (cmp_value v w)
test_asks (Sym t) w = refl

symbol_asks : (place : SinglePlace) (w : Value) → meets w (symbol_at place) ≡ meets_symbolic (place, w)
symbol_asks (At v) w = ap is_true (told_any w)
symbol_asks (Sym t) w = refl

tests_ask : (places : List SinglePlace) (key : Tuple) → meets_every (map test_at places) key ≡ list_all meets_place (zip places key)
tests_ask [] key = refl
tests_ask (place ∷ places) [] = refl
tests_ask (place ∷ places) (w ∷ key) = λ i. test_asks place w i && tests_ask places key i

symbols_ask : (places : List SinglePlace) (key : Tuple) → meets_every (map symbol_at places) key ≡ list_all meets_symbolic (zip places key)
symbols_ask [] key = refl
symbols_ask (place ∷ places) [] = refl
symbols_ask (place ∷ places) (w ∷ key) = λ i. symbol_asks place w i && symbols_ask places key i

pub those_that_meet : (left : SingleLeft) (set : List Tuple) → filter (meets_every (map test_at left.places)) set ≡ filter (meets_left left) set
those_that_meet left set = λ i. filter (λ key. tests_ask left.places key i) set

pub those_with_symbols : (left : SingleLeft) (set : List Tuple) → filter (meets_every (map symbol_at left.places)) set ≡ filter (meets_symbols left) set
those_with_symbols left set = λ i. filter (λ key. symbols_ask left.places key i) set

-- positional places are met by the key that they name
all_positional : (places : List SinglePlace) (key : Tuple) → list_any place_is_symbolic places ≡ false → length key ≡ length places → list_all meets_place (zip places key) ≡ is_same (map value_of places) key
all_positional [] [] h l = refl
all_positional [] (w ∷ key) h l = absurd (omega arith)
all_positional (place ∷ places) [] h l = absurd (omega arith)
all_positional (At v ∷ places) (w ∷ key) h l =
    ap (λ b. is_eq (cmp_value v w) && b) (all_positional places key h (omega arith)) ∙ tied_then (cmp_value v w) (cmp_key (map value_of places) key)
all_positional (Sym t ∷ places) (w ∷ key) h l = cc

filter_alike : (p q : Tuple → Bool) (xs : List Tuple) → All (λ x. p x ≡ q x) xs → filter p xs ≡ filter q xs
filter_alike p q [] all = refl
filter_alike p q (x ∷ xs) all =
    let e : p x ≡ q x = All-head (λ x. p x ≡ q x) x xs all in
    let rest = filter_alike p q xs (All-tail (λ x. p x ≡ q x) x xs all) in
    λ i. cond (e i) (x ∷ rest i) (rest i)

pub the_named : (left : SingleLeft) (set : List Tuple) → is_symbolic left ≡ false → HaveWidth left.places set → IsStrictlySortedBy cmp_key set → filter (meets_left left) set ≡ (if is_among set (named left) then named left ∷ [] else [])
the_named left set h wide s =
    filter_alike (meets_left left) (is_same (named left)) set (λ k d l. all_positional left.places (get_or set k d) h (wide k d l)) ∙ only_it key_total same_key (named left) set s

pub no_pair : (places : List SinglePlace) (key : Tuple) (at : ℕ) → min (length places) (length key) ≤ at → map value_at (zip (drop at places) (drop at key)) ≡ []
no_pair [] key zero l = refl
no_pair [] key (suc at) l = refl
no_pair (place ∷ places) [] zero l = refl
no_pair (place ∷ places) [] (suc at) l = none (drop at places)
  where
    none : (rest : List SinglePlace) → map value_at (zip rest []) ≡ []
    none [] = refl
    none (x ∷ rest) = refl
no_pair (place ∷ places) (w ∷ key) zero l = absurd (omega arith)
no_pair (place ∷ places) (w ∷ key) (suc at) l = no_pair places key at (omega arith)

-- one key more
pub one_more : (done all xs : List Tuple) (at : ℕ) (key : Tuple) → at < length xs → key ≡ get_or xs at key → done ++ drop at xs ≡ all → (done ++ key ∷ []) ++ drop (at + 1) xs ≡ all
one_more done all xs at key l is h =
    append_assoc done (key ∷ []) (drop (at + 1) xs) ∙ ap (λ rest. done ++ rest) ((λ i. is i ∷ drop (add-one at i) xs) ∙ sym (drop-cons xs at key l)) ∙ h

-- one target more, among the created ones where it passes
pub one_settled : (p : Tuple → Bool) (done all xs : List Tuple) (at : ℕ) (key : Tuple) → at < length xs → key ≡ get_or xs at key → done ++ filter p (drop at xs) ≡ all →
    (done ++ filter p (key ∷ [])) ++ filter p (drop (at + 1) xs) ≡ all
one_settled p done all xs at key l is h =
    append_assoc done (filter p (key ∷ [])) (filter p (drop (at + 1) xs))
    ∙ ap (λ rest. done ++ rest) (by (p key) ∙ ap (filter p) split) ∙ h
  where
    split : key ∷ drop (at + 1) xs ≡ drop at xs
    split = (λ i. is i ∷ drop (add-one at i) xs) ∙ sym (drop-cons xs at key l)

    by : (b : Bool) → cond b (key ∷ []) [] ++ filter p (drop (at + 1) xs) ≡ cond b (key ∷ filter p (drop (at + 1) xs)) (filter p (drop (at + 1) xs))
    by true = refl
    by false = refl

-- one key more of those at some places
pub one_copied : (keys : List Tuple) (places : List ℕ) (done all : List Tuple) (at : ℕ) (key : Tuple) → at < length places → All (λ place. place < length keys) places → key ≡ get_or keys (get_or places at 0) key → done ++ map (key_at keys) (drop at places) ≡ all →
    (done ++ key ∷ []) ++ map (key_at keys) (drop (at + 1) places) ≡ all
one_copied keys places done all at key l below is h =
    append_assoc done (key ∷ []) (map (key_at keys) (drop (at + 1) places)) ∙ ap (λ rest. done ++ rest) split ∙ h
  where
    there : key ≡ get_or keys (get_or places at 0) []
    there = is ∙ get_or_default keys (get_or places at 0) key [] (below at 0 l)

    split : key ∷ map (key_at keys) (drop (at + 1) places) ≡ map (key_at keys) (drop at places)
    split = (λ i. there i ∷ map (key_at keys) (drop (add-one at i) places)) ∙ sym (ap (map (key_at keys)) (drop-cons places at 0 l))

-- the named cell alone is in order
pub alone : (R : Tuple → Tuple → Ordering) (key : Tuple) (b : Bool) → ascending R (if b then key ∷ [] else []) ≡ (if b then key ∷ [] else [])
alone R key true = refl
alone R key false = refl

pub empty_is : {A : Type 0} (xs : List A) → eqb (length xs) 0 ≡ true → xs ≡ []
empty_is [] h = refl
empty_is (x ∷ xs) h = let e = (Decides-eqb (length (x ∷ xs)) 0).0 h in absurd (omega arith)
