-- Keys in ascending order of which some went.
use Rattle.std.proofs.Common.{◌≡◌, List, [], ◌∷◌, ◌++◌, Bool, true, false, not, ◌&&◌, ◌||◌, refl, sym, ap, ◌∙◌, subst, append_assoc}
use Rattle.std.specs.Prelude.{if◌then◌else◌, cond}
use Rattle.std.specs.BTreeSet.{insert_key}
use Rattle.std.specs.List.Sorted.{IsStrictlySortedBy}
use Rattle.std.proofs.lemmas.List.Kept.{IsStrictlySortedBy-filter}
use Rattle.mq_values.specs.Order.{cmp_key}
use Rattle.mq_values.specs.OrderLaws.{key_total}
use Rattle.mq_ir.specs.Keys.{Tuple, is_among, is_same}
use Rattle.mq_tables.specs.KeyOrder.{Loses, LosesOne}
use Rattle.mq_tables.specs.Standing.{Ascend, standing}
use Rattle.mq_tables.proofs.AscendingLemmas.{absent_behind, front_ascends, none_ascend, others_kept}
use Rattle.mq_tables.proofs.KeyLemmas.{among_inserted}
use Rattle.mq_tables.proofs.KeyOrderLemmas.{among_both}
use Rattle.mq_tables.proofs.LoseLemmas.{is_equal, same_turned}

pub among_standing : (gone keys : List Tuple) (q : Tuple) → is_among (standing gone keys) q ≡ (is_among keys q && not (is_among gone q))
among_standing gone keys q = others_kept keys gone (standing gone keys) refl q

-- a key is looked for among all, and among those that went
pub stands : (gone keys all : List Tuple) (key : Tuple) (there : Bool) → standing gone keys ≡ all → there ≡ is_among keys key → there ≡ true → not (is_among gone key) ≡ is_among all key
stands gone keys all key there e h n =
    ap (λ b. b && not (is_among gone key)) (sym n ∙ h) ∙ sym (among_standing gone keys key) ∙ ap (λ l. is_among l key) e

pub stands_not : (gone keys all : List Tuple) (key : Tuple) (there : Bool) → standing gone keys ≡ all → there ≡ is_among keys key → there ≡ false → there ≡ is_among all key
stands_not gone keys all key there e h n =
    n ∙ ap (λ b. b && not (is_among gone key)) (sym n ∙ h) ∙ sym (among_standing gone keys key) ∙ ap (λ l. is_among l key) e

pub standing_key : (gone keys all : List Tuple) (key : Tuple) → standing gone keys ≡ all → is_among all key ≡ true → (is_among keys key ≡ true) × (is_among gone key ≡ false)
standing_key gone keys all key e h = both (is_among keys key) (is_among gone key) (sym (among_standing gone keys key) ∙ ap (λ l. is_among l key) e ∙ h)
  where
    both : (a g : Bool) → (a && not g) ≡ true → (a ≡ true) × (g ≡ false)
    both true false h = (refl, refl)
    both true true h = absurd (cc)
    both false g h = absurd (cc)

-- where none went
pub none_gone : (keys : List Tuple) → standing [] keys ≡ keys
none_gone [] = refl
none_gone (k ∷ keys) = ap (λ l. k ∷ l) (none_gone keys)

pub all_stand : (gone keys : List Tuple) → gone ≡ [] → standing gone keys ≡ keys
all_stand gone keys e = ap (λ g. standing g keys) e ∙ none_gone keys

pub none_went : (gone keys : List Tuple) → gone ≡ [] → IsStrictlySortedBy cmp_key keys → Ascend gone keys
none_went gone keys e s = record { ascend = s; within = λ q h. lacks (is_among gone q) (ap (λ g. is_among g q) e) h }
  where
    lacks : {P : Type 0} (b : Bool) → b ≡ false → b ≡ true → P
    lacks b e h = absurd (cc)

pub none_came : (gone keys : List Tuple) → gone ≡ [] → keys ≡ [] → Ascend gone keys
none_came gone keys e f = none_went gone keys e (none_ascend keys f)

standing_both : (gone keys others : List Tuple) → standing gone (keys ++ others) ≡ standing gone keys ++ standing gone others
standing_both gone [] others = refl
standing_both gone (k ∷ keys) others = by (is_among gone k) (standing_both gone keys others)
  where
    by : (b : Bool) → standing gone (keys ++ others) ≡ standing gone keys ++ standing gone others
        → (if not b then k ∷ standing gone (keys ++ others) else standing gone (keys ++ others)) ≡ (if not b then k ∷ standing gone keys else standing gone keys) ++ standing gone others
    by true e = e
    by false e = ap (λ l. k ∷ l) e

pub ascend_standing : (gone keys left : List Tuple) → left ≡ standing gone keys → IsStrictlySortedBy cmp_key keys → IsStrictlySortedBy cmp_key left
ascend_standing gone keys left e s = subst (IsStrictlySortedBy cmp_key) (sym e) (IsStrictlySortedBy-filter cmp_key (λ k. not (is_among gone k)) keys s)

-- ---- keys behind all that came
-- what is among none of them did not go
stays_out : (gone keys : List Tuple) (q : Tuple) → Ascend gone keys → is_among keys q ≡ false → is_among gone q ≡ false
stays_out gone keys q a n = by (is_among gone q) (a.within q)
  where
    by : (b : Bool) → (b ≡ true → is_among keys q ≡ true) → b ≡ false
    by false h = refl
    by true h = absurd (let e = h refl in cc)

pub absent_standing : (gone keys : List Tuple) (key : Tuple) → IsStrictlySortedBy cmp_key (keys ++ key ∷ []) → is_among (standing gone keys) key ≡ false
absent_standing gone keys key s = among_standing gone keys key ∙ ap (λ b. b && not (is_among gone key)) (absent_behind keys key s)

pub put_to_end : (gone keys after : List Tuple) (key : Tuple) → Ascend gone keys → IsStrictlySortedBy cmp_key (keys ++ key ∷ []) → after ≡ keys ++ key ∷ []
    → standing gone after ≡ standing gone keys ++ key ∷ []
put_to_end gone keys after key a s e =
    ap (standing gone) e
    ∙ standing_both gone keys (key ∷ [])
    ∙ ap (λ b. standing gone keys ++ (if not b then key ∷ [] else [])) (stays_out gone keys key a (absent_behind keys key s))

pub ascend_behind : (gone keys others after : List Tuple) → Ascend gone keys → IsStrictlySortedBy cmp_key (keys ++ others) → after ≡ keys ++ others → Ascend gone after
ascend_behind gone keys others after a s e = record {
  ascend = subst (IsStrictlySortedBy cmp_key) (sym e) s;
  within = λ q h. ap (λ l. is_among l q) e ∙ among_both keys others q ∙ ap (λ b. b || is_among others q) (a.within q h);
}

-- of keys of which each is behind all that came, none went
all_stand_behind : (gone keys others : List Tuple) → Ascend gone keys → IsStrictlySortedBy cmp_key (keys ++ others) → standing gone others ≡ others
all_stand_behind gone keys [] a s = refl
all_stand_behind gone keys (k ∷ others) a s =
    let t : IsStrictlySortedBy cmp_key ((keys ++ k ∷ []) ++ others) = rw append_assoc s in
    let u = front_ascends key_total (keys ++ k ∷ []) others t in
    ap (λ b. if not b then k ∷ standing gone others else standing gone others) (stays_out gone keys k a (absent_behind keys k u))
    ∙ ap (λ l. k ∷ l) (all_stand_behind gone (keys ++ k ∷ []) others (ascend_behind gone keys (k ∷ []) (keys ++ k ∷ []) a u refl) t)

pub all_put_to_end : (gone keys others after : List Tuple) → Ascend gone keys → IsStrictlySortedBy cmp_key (keys ++ others) → after ≡ keys ++ others
    → standing gone after ≡ standing gone keys ++ others
all_put_to_end gone keys others after a s e = ap (standing gone) e ∙ standing_both gone keys others ∙ ap (λ l. standing gone keys ++ l) (all_stand_behind gone keys others a s)

-- ---- a key goes
pub noted : (gone after keys : List Tuple) (key : Tuple) → after ≡ insert_key cmp_key gone key → LosesOne key (standing gone keys) (standing after keys)
noted gone after keys key e q =
    among_standing after keys q
    ∙ ap (λ b. is_among keys q && not b) (ap (λ l. is_among l q) e ∙ among_inserted q key gone ∙ ap (λ b. b || is_among gone q) (same_turned q key))
    ∙ without (is_among keys q) (is_among gone q) (is_same key q)
    ∙ ap (λ b. cond (is_same key q) false b) (sym (among_standing gone keys q))
  where
    without : (a g s : Bool) → (a && not (s || g)) ≡ cond s false (a && not g)
    without true g true = refl
    without false g true = refl
    without a g false = refl

pub ascend_noted : (gone after keys : List Tuple) (key : Tuple) → after ≡ insert_key cmp_key gone key → is_among keys key ≡ true → Ascend gone keys → Ascend after keys
ascend_noted gone after keys key e n a = record {
  ascend = a.ascend;
  within = λ q h. by q (is_same q key) refl (sym (ap (λ l. is_among l q) e ∙ among_inserted q key gone) ∙ h);
}
  where
    by : (q : Tuple) (b : Bool) → is_same q key ≡ b → (b || is_among gone q) ≡ true → is_among keys q ≡ true
    by q true f h = ap (is_among keys) (is_equal q key f) ∙ n
    by q false f h = a.within q h

pub taken_out : (gone after keys left : List Tuple) (key : Tuple) → after ≡ gone → LosesOne key keys left → LosesOne key (standing gone keys) (standing after left)
taken_out gone after keys left key e l q =
    ap (λ g. is_among (standing g left) q) e
    ∙ among_standing gone left q
    ∙ ap (λ b. b && not (is_among gone q)) (l q)
    ∙ without (is_among keys q) (is_among gone q) (is_same key q)
    ∙ ap (λ b. cond (is_same key q) false b) (sym (among_standing gone keys q))
  where
    without : (a g s : Bool) → (cond s false a && not g) ≡ cond s false (a && not g)
    without a g true = refl
    without a g false = refl

pub ascend_without : (gone after keys left : List Tuple) (key : Tuple) → after ≡ gone → is_among gone key ≡ false → LosesOne key keys left → IsStrictlySortedBy cmp_key left → Ascend gone keys → Ascend after left
ascend_without gone after keys left key e n l s a = record {
  ascend = s;
  within = λ q h.
      let g : is_among gone q ≡ true = sym (ap (λ l. is_among l q) e) ∙ h in
      l q ∙ by q (is_same key q) refl g;
}
  where
    by : (q : Tuple) (b : Bool) → is_same key q ≡ b → is_among gone q ≡ true → cond b false (is_among keys q) ≡ true
    by q true f h = absurd (let e = ap (is_among gone) (is_equal key q f) in cc)
    by q false f h = a.within q h

-- ---- many go at once
pub lost_at_once : (went gone keys settled after left : List Tuple) → settled ≡ standing went keys → after ≡ [] → left ≡ standing gone settled → Loses (standing went keys) gone (standing after left)
lost_at_once went gone keys settled after left e n f q =
    ap (λ l. is_among l q) (all_stand after left n ∙ f ∙ ap (standing gone) e)
    ∙ among_standing gone (standing went keys) q
