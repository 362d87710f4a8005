-- Keys that are taken away, and those that are left.
use Rattle.std.proofs.Common.{◌≡◌, ℕ, ◌+◌, ◌<◌, List, [], ◌∷◌, ◌++◌, Bool, true, false, not, ◌&&◌, ◌||◌, length, map, take, get_or, Ordering, Less, Equal, Greater, Some, None, refl, sym, ap, ◌∙◌, arith}
use Rattle.std.specs.Prelude.{if◌then◌else◌, cond}
use Rattle.std.specs.Ordering.{is_eq, ordering_reverse}
use Rattle.std.proofs.lemmas.List.{take_more}
use Rattle.mq_values.specs.Order.{cmp_key}
use Rattle.mq_values.specs.OrderLaws.{key_total}
use Rattle.mq_values.specs.OrderTells.{same_key}
use Rattle.mq_ir.specs.Changes.{first_repeated}
use Rattle.mq_ir.specs.Keys.{Tuple, is_among, is_same}
use Rattle.mq_tables.specs.InPlace.{rows_gone, rows_left}
use Rattle.mq_tables.specs.KeyOrder.{AreKeys, Loses}
use Rattle.mq_tables.proofs.KeyLemmas.{swapped}
use Rattle.mq_tables.proofs.KeyOrderLemmas.{among_both, or_false}

-- ---- keys that are the same
tied : (r : Ordering) → is_eq r ≡ true → r ≡ Equal
tied Less e = absurd (cc)
tied Equal e = refl
tied Greater e = absurd (cc)

pub is_equal : (a b : Tuple) → is_same a b ≡ true → a ≡ b
is_equal a b h = same_key a b (tied (cmp_key a b) h)

flipped : (r : Ordering) → is_eq (ordering_reverse r) ≡ is_eq r
flipped Less = refl
flipped Equal = refl
flipped Greater = refl

pub same_turned : (a b : Tuple) → is_same a b ≡ is_same b a
same_turned a b = ap is_eq (key_total.antisymm a b) ∙ flipped (cmp_key b a)

-- ---- keys are taken away, one after another
pub record Losing (all gone : List Tuple) (i : ℕ) (now : List Tuple) : Type 0 where
  pub left : Loses all (take i gone) now

pub losing_next : (all gone now after : List Tuple) (i : ℕ) (key : Tuple) → i < length gone → key ≡ get_or gone i key
    → ((q : Tuple) → is_among after q ≡ cond (is_same key q) false (is_among now q)) → Losing all gone i now → Losing all gone (i + 1) after
losing_next all gone now after i key h e a l = record {
  left = λ q.
      a q
      ∙ ap (λ b. cond (is_same key q) false b) (l.left q)
      ∙ without (is_among all q) (is_among (take i gone) q) (is_same key q)
      ∙ ap (λ b. is_among all q && not b) (sym (one_more q));
}
  where
    without : (a b c : Bool) → cond c false (a && not b) ≡ (a && not (b || c))
    without true true true = refl
    without true true false = refl
    without true false true = refl
    without true false false = refl
    without false b true = refl
    without false b false = refl

    one_more : (q : Tuple) → is_among (take (i + 1) gone) q ≡ (is_among (take i gone) q || is_same key q)
    one_more q =
        ap (λ l. is_among l q) (take_more gone i key h)
        ∙ ap (λ k. is_among (take i gone ++ k ∷ []) q) (sym e)
        ∙ among_both (take i gone) (key ∷ []) q
        ∙ ap (λ b. is_among (take i gone) q || b) (or_false (is_same q key) ∙ same_turned q key)

-- ---- rows of which some are gone: no two of them share a key
module _ (key : Tuple → Tuple) where
  abbrev keys_left : List Tuple → List Bool → List Tuple
  keys_left rows gone = map key (rows_left rows gone)

  abbrev keys_gone : List Tuple → List Bool → List Tuple
  keys_gone rows gone = map key (rows_gone rows gone)

  -- a key that is not among the earlier ones
  not_earlier : (earlier keys : List Tuple) (k : Tuple) → first_repeated earlier (k ∷ keys) ≡ None → (is_among earlier k ≡ false) × (first_repeated (k ∷ earlier) keys ≡ None)
  not_earlier earlier keys k n = by (is_among earlier k) n
    where
      by : (b : Bool) → (if b then Some k else first_repeated (k ∷ earlier) keys) ≡ None → (b ≡ false) × (first_repeated (k ∷ earlier) keys ≡ None)
      by true e = absurd (cc)
      by false e = (refl, e)

  -- what is not repeated stands among none of the earlier keys
  apart_from : (earlier keys : List Tuple) → first_repeated earlier keys ≡ None → (q : Tuple) → (is_among keys q && is_among earlier q) ≡ false
  apart_from earlier [] n q = refl
  apart_from earlier (k ∷ keys) n q =
      let p = not_earlier earlier keys k n in
      by (is_same q k) refl p.0 (apart_from (k ∷ earlier) keys p.1 q)
    where
      by : (s : Bool) → is_same q k ≡ s → is_among earlier k ≡ false → (is_among keys q && (s || is_among earlier q)) ≡ false → ((s || is_among keys q) && is_among earlier q) ≡ false
      by true e f h = ap (is_among earlier) (is_equal q k e) ∙ f
      by false e f h = h

  -- a key of the rows is that of one that is left or of one that is gone, and never both
  in_two : (rows : List Tuple) (gone : List Bool) → length gone ≡ length rows → (q : Tuple) → is_among (map key rows) q ≡ (is_among (keys_left rows gone) q || is_among (keys_gone rows gone) q)
  in_two [] gone h q = refl
  in_two (row ∷ rows) [] h q = absurd (cc)
  in_two (row ∷ rows) (true ∷ gone) h q =
      ap (λ b. is_same q (key row) || b) (in_two rows gone (let e : length gone ≡ length rows = omega (arith, h) in e) q)
      ∙ swapped (is_same q (key row)) (is_among (keys_left rows gone) q) (is_among (keys_gone rows gone) q)
  in_two (row ∷ rows) (false ∷ gone) h q =
      ap (λ b. is_same q (key row) || b) (in_two rows gone (let e : length gone ≡ length rows = omega (arith, h) in e) q)
      ∙ grouped (is_same q (key row)) (is_among (keys_left rows gone) q) (is_among (keys_gone rows gone) q)
    where
      grouped : (a b c : Bool) → (a || (b || c)) ≡ ((a || b) || c)
      grouped true b c = refl
      grouped false b c = refl

  never_both : (earlier rows : List Tuple) (gone : List Bool) → length gone ≡ length rows → first_repeated earlier (map key rows) ≡ None
      → (q : Tuple) → (is_among (keys_left rows gone) q && is_among (keys_gone rows gone) q) ≡ false
  never_both earlier [] gone h n q = refl
  never_both earlier (row ∷ rows) [] h n q = absurd (cc)
  never_both earlier (row ∷ rows) (true ∷ gone) h n q =
      let l : length gone ≡ length rows = omega (arith, h) in
      let p = not_earlier earlier (map key rows) (key row) n in
      is_gone (is_among (keys_left rows gone) q) (is_among (keys_gone rows gone) q) (is_same q (key row)) (is_among earlier q)
      (never_both (key row ∷ earlier) rows gone l p.1 q)
      (ap (λ b. b && (is_same q (key row) || is_among earlier q)) (sym (in_two rows gone l q)) ∙ apart_from (key row ∷ earlier) (map key rows) p.1 q)
    where
      is_gone : (a b s e : Bool) → (a && b) ≡ false → ((a || b) && (s || e)) ≡ false → (a && (s || b)) ≡ false
      is_gone false b s e h k = refl
      is_gone true true s e h k = absurd (cc)
      is_gone true false true e h k = absurd (cc)
      is_gone true false false e h k = refl
  never_both earlier (row ∷ rows) (false ∷ gone) h n q =
      let l : length gone ≡ length rows = omega (arith, h) in
      let p = not_earlier earlier (map key rows) (key row) n in
      is_left (is_among (keys_left rows gone) q) (is_among (keys_gone rows gone) q) (is_same q (key row)) (is_among earlier q)
      (never_both (key row ∷ earlier) rows gone l p.1 q)
      (ap (λ b. b && (is_same q (key row) || is_among earlier q)) (sym (in_two rows gone l q)) ∙ apart_from (key row ∷ earlier) (map key rows) p.1 q)
    where
      is_left : (a b s e : Bool) → (a && b) ≡ false → ((a || b) && (s || e)) ≡ false → ((s || a) && b) ≡ false
      is_left a false true e h k = refl
      is_left a false false e h k = without a
        where
          without : (a : Bool) → (a && false) ≡ false
          without true = refl
          without false = refl
      is_left true true s e h k = absurd (cc)
      is_left false true true e h k = absurd (cc)
      is_left false true false e h k = refl

  -- those that are left repeat none
  left_apart : (earlier before rows : List Tuple) (gone : List Bool) → length gone ≡ length rows → ((q : Tuple) → is_among before q ≡ true → is_among earlier q ≡ true)
      → first_repeated earlier (map key rows) ≡ None → first_repeated before (keys_left rows gone) ≡ None
  left_apart earlier before [] gone h w n = refl
  left_apart earlier before (row ∷ rows) [] h w n = absurd (cc)
  left_apart earlier before (row ∷ rows) (true ∷ gone) h w n =
      left_apart (key row ∷ earlier) before rows gone (omega (arith, h)) (λ q e. more (is_same q (key row)) (is_among earlier q) (w q e)) (not_earlier earlier (map key rows) (key row) n).1
    where
      more : (a b : Bool) → b ≡ true → (a || b) ≡ true
      more true b e = refl
      more false b e = e
  left_apart earlier before (row ∷ rows) (false ∷ gone) h w n =
      let p = not_earlier earlier (map key rows) (key row) n in
      ap (λ b. if b then Some (key row) else first_repeated (key row ∷ before) (keys_left rows gone)) (lacks (is_among before (key row)) (is_among earlier (key row)) (w (key row)) p.0)
      ∙ left_apart (key row ∷ earlier) (key row ∷ before) rows gone (omega (arith, h)) (λ q. both (is_same q (key row)) (is_among before q) (is_among earlier q) (w q)) p.1
    where
      lacks : (a b : Bool) → (a ≡ true → b ≡ true) → b ≡ false → a ≡ false
      lacks false b f e = refl
      lacks true b f e = absurd (let g = f refl in cc)

      both : (s a b : Bool) → (a ≡ true → b ≡ true) → (s || a) ≡ true → (s || b) ≡ true
      both true a b f e = refl
      both false a b f e = f e

  pub left_kept : (rows : List Tuple) (gone : List Bool) (order after : List Tuple) → length gone ≡ length rows → AreKeys (map key rows) order → Loses order (keys_gone rows gone) after → AreKeys (keys_left rows gone) after
  left_kept rows gone order after h known lost = record {
    all = λ q.
        lost q
        ∙ ap (λ b. b && not (is_among (keys_gone rows gone) q)) (known.all q ∙ in_two rows gone h q)
        ∙ only_left (is_among (keys_left rows gone) q) (is_among (keys_gone rows gone) q) (never_both [] rows gone h known.apart q);
    apart = left_apart [] [] rows gone h (λ q e. e) known.apart;
  }
    where
      only_left : (a b : Bool) → (a && b) ≡ false → ((a || b) && not b) ≡ a
      only_left true true h = absurd (cc)
      only_left true false h = refl
      only_left false true h = refl
      only_left false false h = refl
