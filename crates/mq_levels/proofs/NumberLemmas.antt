-- What is known of the numbers of rounds.
use Rattle.std.proofs.Common.{◌≡◌, ℕ, suc, ◌<◌, ◌≤◌, ◌⊎◌, Bool, true, false, ◌&&◌, not, List, [], ◌∷◌, ◌++◌, Option, Some, None, eqb, length, set, refl, sym, ap, subst, ◌∙◌, inl, inr, arith}
use Rattle.std.specs.Option.{is_some}
use Rattle.std.specs.List.{Contains}
use Rattle.std.proofs.lemmas.Bool.{cases_eq, cases_lt, cases_order, eq-eqb, false≢true, ne_eqb}
use Rattle.std.proofs.lemmas.List.{get_or-set_same, get_or-set_other, length-set}
use Rattle.std.proofs.lemmas.List.Elements.{Contains-append_left, Contains-push, Contains-push_cases}
use Rattle.mq_levels.specs.Levels.{ReadsNodes, in_round, levelled}
use Rattle.mq_levels.specs.Numbers.{AllNumbered, AreMarked, AreNumbered, IsNumber, Numbers, has_number, is_number, is_numbered, number_of}
use Rattle.mq_levels.proofs.LevelLemmas.{AreLast, and_left, and_right, not_before, same_later, stays}

pub none_marked : (number : ℕ) (numbers : Numbers) → AreMarked [] number numbers numbers
none_marked number numbers = record {
  long = refl;
  named = λ node k. absurd (let l = k.1 in omega arith);
  same = λ node n. refl;
}

-- one more has the number
pub more_marked : (xs : List ℕ) (x number : ℕ) (before numbers : Numbers) → AreMarked xs number before numbers → x < length numbers → AreMarked (xs ++ x ∷ []) number before (set numbers x (Some number))
more_marked xs x number before numbers m l = record {
  long = length-set numbers x (Some number) ∙ m.long;
  named = λ node k. by node (Contains-push_cases xs x node k) (cases_eq node x);
  same = λ node n. get_or-set_other numbers x node (Some number) None (λ e. n (subst (Contains (xs ++ x ∷ [])) (sym e) (Contains-push xs x))) ∙ m.same node (λ k. n (Contains-append_left xs (x ∷ []) node k));
}
  where
    here : (node : ℕ) → node ≡ x → number_of (set numbers x (Some number)) node ≡ Some number
    here node e = ap (number_of (set numbers x (Some number))) e ∙ get_or-set_same numbers x (Some number) None l

    by : (node : ℕ) → Contains xs node ⊎ (x ≡ node) → (node ≡ x) ⊎ (node ≡ x → ⊥) → number_of (set numbers x (Some number)) node ≡ Some number
    by node k (inl e) = here node e
    by node (inl k) (inr n) = get_or-set_other numbers x node (Some number) None n ∙ m.named node k
    by node (inr e) (inr n) = absurd (n (sym e))

-- a node has a number where it is levelled
pub number_tells : {reads : List (List ℕ)} {n : ℕ} {numbers : Numbers} → AreNumbered reads n numbers → (node : ℕ) → node < length reads → has_number numbers node ≡ levelled reads n node
number_tells {reads} {n} {numbers} a node l = by (number_of numbers node) (a.each node l)
  where
    by : (number : Option ℕ) → IsNumber reads n node number → is_some number ≡ levelled reads n node
    by None h = sym h
    by (Some r) (k, h) = sym (stays reads (suc r) n node k (and_left (levelled reads (suc r) node) (not (levelled reads r node)) h))

not_both : (b : Bool) → b ≡ true → not b ≡ true → ⊥
not_both true e h = false≢true h
not_both false e h = false≢true e

pub was_not : (b : Bool) → not b ≡ true → b ≡ false
was_not true h = absurd (false≢true h)
was_not false h = refl

-- a node that was not levelled comes in the round behind which it is
pub comes : (reads : List (List ℕ)) (n node : ℕ) → levelled reads n node ≡ false → in_round reads n node ≡ levelled reads (suc n) node
comes reads n node h = by (levelled reads (suc n) node) (levelled reads n node) h
  where
    by : (b c : Bool) → c ≡ false → (b && not c) ≡ b
    by true true h = absurd (false≢true (sym h))
    by true false h = refl
    by false c h = refl

-- a node that was levelled comes no more
pub came : (reads : List (List ℕ)) (n node : ℕ) → levelled reads n node ≡ true → in_round reads n node ≡ false
came reads n node h = by (levelled reads (suc n) node) (levelled reads n node) h
  where
    by : (b c : Bool) → c ≡ true → (b && not c) ≡ false
    by true true h = refl
    by true false h = absurd (false≢true h)
    by false c h = refl

-- a node comes in one round alone
one_round : (reads : List (List ℕ)) (r n node : ℕ) → in_round reads r node ≡ true → (r ≡ n → ⊥) → in_round reads n node ≡ false
one_round reads r n node h d = by (cases_order r n)
  where
    behind : levelled reads (suc r) node ≡ true
    behind = and_left (levelled reads (suc r) node) (not (levelled reads r node)) h

    before : levelled reads r node ≡ false
    before = was_not (levelled reads r node) (and_right (levelled reads (suc r) node) (not (levelled reads r node)) h)

    by : (r ≡ n) ⊎ ((r < n) ⊎ (n < r)) → in_round reads n node ≡ false
    by (inl e) = absurd (d e)
    by (inr (inl l)) = came reads n node (stays reads (suc r) n node l behind)
    by (inr (inr l)) = comes reads n node (not_before reads n r node (omega arith) before) ∙ not_before reads (suc n) r node l before

-- what is not levelled when all rounds are done is never levelled
never_after : (reads : List (List ℕ)) (count later node : ℕ) → ReadsNodes reads → AreLast reads count → node < length reads → levelled reads count node ≡ false → (later < count) ⊎ (count ≤ later) → levelled reads later node ≡ false
never_after reads count later node h last l e (inl k) = not_before reads later count node (omega arith) e
never_after reads count later node h last l e (inr k) = same_later reads h count last later node k l ∙ e

-- when all rounds are done, the numbers say in which one each node comes
pub number_is_round : (reads : List (List ℕ)) (count : ℕ) (numbers : Numbers) → ReadsNodes reads → AllNumbered reads count numbers → (n node : ℕ) → node < length reads → is_numbered numbers n node ≡ in_round reads n node
number_is_round reads count numbers h all n node l = by (number_of numbers node) (all.numbered.each node l)
  where
    never : (later : ℕ) → levelled reads count node ≡ false → levelled reads later node ≡ false
    never later e = never_after reads count later node h all.last l e (cases_lt later count)

    named : (r : ℕ) → in_round reads r node ≡ true → (r ≡ n) ⊎ (r ≡ n → ⊥) → eqb r n ≡ in_round reads n node
    named r i (inl e) = eq-eqb r n e ∙ sym (subst (λ m. in_round reads m node ≡ true) e i)
    named r i (inr d) = ne_eqb r n d ∙ sym (one_round reads r n node i d)

    by : (number : Option ℕ) → IsNumber reads count node number → is_number n number ≡ in_round reads n node
    by None e = sym (comes reads n node (never n e) ∙ never (suc n) e)
    by (Some r) (k, i) = named r i (cases_eq r n)
