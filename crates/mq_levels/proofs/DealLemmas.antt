-- Nodes dealt out by their numbers, one node more.
use Rattle.std.proofs.Common.{◌≡◌, ℕ, suc, zero, ◌+◌, ◌<◌, ◌≤◌, ◌⊎◌, Bool, true, false, cond, not, List, [], ◌∷◌, ◌++◌, Some, None, length, get_or, set, replicate, zero-add, refl, sym, ap, ◌∙◌, inl, inr, arith}
use Rattle.std.specs.Option.{is_some}
use Rattle.std.specs.List.{filter, range_with_len}
use Rattle.std.proofs.lemmas.Bool.{cases_eq, cases_lt, eq-eqb, ne_eqb}
use Rattle.std.proofs.lemmas.List.{append-nil, get_or-replicate, get_or-set_other, get_or-set_same, get_or_past, length-replicate, map-id}
use Rattle.std.proofs.lemmas.List.Elements.{filter-append}
use Rattle.std.proofs.lemmas.List.FromFn.{map-range_with_len_more}
use Rattle.mq_levels.specs.Numbers.{AreDealt, Numbers, has_number, is_number, is_numbered, number_of}

abbrev pub nil : (X : Type 0) → List X
nil X = []

pub empty_at : {X : Type 0} (count n : ℕ) → get_or (replicate count (nil X)) n [] ≡ []
empty_at {X} count n = by (cases_lt n count)
  where
    by : (n < count) ⊎ (count ≤ n) → get_or (replicate count (nil X)) n [] ≡ []
    by (inl l) = get_or-replicate count n [] [] l
    by (inr l) = get_or_past (replicate count (nil X)) n [] (let long = length-replicate count (nil X) in omega arith)

-- a range with one number more
pub range_more : (a n : ℕ) → range_with_len a (n + 1) ≡ range_with_len a n ++ (a + n) ∷ []
range_more a n =
    sym (map-id (range_with_len a (n + 1)))
    ∙ map-range_with_len_more (λ (x : ℕ). x) a n (a + n) refl
    ∙ ap (λ xs. xs ++ (a + n) ∷ []) (map-id (range_with_len a n))

nodes_more : (n : ℕ) → range_with_len 0 (n + 1) ≡ range_with_len 0 n ++ n ∷ []
nodes_more n = range_more 0 n ∙ ap (λ (x : ℕ). range_with_len 0 n ++ x ∷ []) (zero-add n)

pub filter_yes : (p : ℕ → Bool) (n : ℕ) → p n ≡ true → filter p (range_with_len 0 (n + 1)) ≡ filter p (range_with_len 0 n) ++ n ∷ []
filter_yes p n e =
    ap (filter p) (nodes_more n)
    ∙ filter-append p (range_with_len 0 n) (n ∷ [])
    ∙ ap (λ b. filter p (range_with_len 0 n) ++ cond b (n ∷ []) []) e

pub filter_no : (p : ℕ → Bool) (n : ℕ) → p n ≡ false → filter p (range_with_len 0 (n + 1)) ≡ filter p (range_with_len 0 n)
filter_no p n e =
    ap (filter p) (nodes_more n)
    ∙ filter-append p (range_with_len 0 n) (n ∷ [])
    ∙ ap (λ b. filter p (range_with_len 0 n) ++ cond b (n ∷ []) []) e
    ∙ append-nil (filter p (range_with_len 0 n))

module _ (numbers : Numbers) (node : ℕ) (rounds : List (List ℕ)) (rest : List ℕ) (dealt : AreDealt numbers node rounds rest) where
  -- a node with a number goes to the round of that number
  pub some_dealt : (number : ℕ) → number_of numbers node ≡ Some number → number < length rounds → AreDealt numbers (node + 1) (set rounds number (get_or rounds number [] ++ node ∷ [])) rest
  some_dealt number e l = record {
    each = λ n. by n (cases_eq n number);
    others = dealt.others ∙ sym (filter_no (λ node. not (has_number numbers node)) node (ap (λ o. not (is_some o)) e));
  }
    where
      by : (n : ℕ) → (n ≡ number) ⊎ (n ≡ number → ⊥) → get_or (set rounds number (get_or rounds number [] ++ node ∷ [])) n [] ≡ filter (is_numbered numbers n) (range_with_len 0 (node + 1))
      by n (inl k) =
          ap (λ m. get_or (set rounds number (get_or rounds number [] ++ node ∷ [])) m []) k
          ∙ get_or-set_same rounds number (get_or rounds number [] ++ node ∷ []) [] l
          ∙ ap (λ m. get_or rounds m [] ++ node ∷ []) (sym k)
          ∙ ap (λ xs. xs ++ node ∷ []) (dealt.each n)
          ∙ sym (filter_yes (is_numbered numbers n) node (ap (is_number n) e ∙ eq-eqb number n (sym k)))
      by n (inr d) =
          get_or-set_other rounds number n (get_or rounds number [] ++ node ∷ []) [] d
          ∙ dealt.each n
          ∙ sym (filter_no (is_numbered numbers n) node (ap (is_number n) e ∙ ne_eqb number n (λ k. d (sym k))))

  -- a node without a number goes to the rest
  pub rest_dealt : number_of numbers node ≡ None → AreDealt numbers (node + 1) rounds (rest ++ node ∷ [])
  rest_dealt e = record {
    each = λ n. dealt.each n ∙ sym (filter_no (is_numbered numbers n) node (ap (is_number n) e));
    others = ap (λ xs. xs ++ node ∷ []) dealt.others ∙ sym (filter_yes (λ node. not (has_number numbers node)) node (ap (λ o. not (is_some o)) e));
  }

-- two tests that agree on the first numbers keep the same ones
pub filter_within : (p q : ℕ → Bool) (a n : ℕ) → ((x : ℕ) → x < a + n → p x ≡ q x) → filter p (range_with_len a n) ≡ filter q (range_with_len a n)
filter_within p q a zero h = refl
filter_within p q a (suc n) h =
    λ i. cond (h a (omega arith) i) (a ∷ filter_within p q (a + 1) n (λ x l. h x (omega arith)) i) (filter_within p q (a + 1) n (λ x l. h x (omega arith)) i)
