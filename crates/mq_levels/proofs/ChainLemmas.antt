-- Lists held as chains: one more node in front of a list, and the first one taken.
use Rattle.std.proofs.Common.{◌≡◌, ℕ, suc, zero, ◌<◌, ◌≤◌, ◌⊎◌, true, false, cond, List, [], ◌∷◌, eqb, length, get_or, set, replicate, refl, sym, ap, subst, ◌∙◌, inl, inr, arith}
use Rattle.std.specs.List.{AllByRecursion, Contains, IsDistinct, list_any}
use Rattle.std.proofs.lemmas.Bool.{cases_eq, cases_lt, eq-eqb, eqb-true, false≢true, ne_eqb}
use Rattle.std.proofs.lemmas.List.{ext_get_or, get_or_default, get_or-map, get_or-replicate, get_or-set_other, get_or-set_same, get_or_past, length-map, length-replicate, length-set}
use Rattle.std.proofs.lemmas.Map.Keys.{IsDistinct-cons, IsDistinct-head, IsDistinct-tail}
use Rattle.std.proofs.lemmas.Map.Views.{Contains-from_any}
use Rattle.std.proofs.lemmas.Map.Steps.{length-le_from_distinct_below}
use Rattle.mq_levels.specs.declared.waiters.TheConstants.{NOBODY}
use Rattle.mq_levels.specs.Chains.{AreChains, IsChain, chain, chain_from, lists_of, next_of}
use Rattle.mq_levels.specs.Waiting.{IsFree, waiters_of, with_waiter}
use Rattle.mq_levels.proofs.DealLemmas.{empty_at, nil}

pub nothing_in : (x : ℕ) → Contains [] x → ⊥
nothing_in x k = let l = k.1 in omega arith

pub one_of : (x : ℕ) (xs : List ℕ) (y : ℕ) → Contains (x ∷ xs) y → (x ≡ y) ⊎ Contains xs y
one_of x xs y (zero, l, e) = inl e
one_of x xs y (suc k, l, e) = inr (k, omega arith, e)

pub is_first : (x : ℕ) (xs : List ℕ) → Contains (x ∷ xs) x
is_first x xs = (zero, omega arith, refl)

pub is_later : (x : ℕ) (xs : List ℕ) (y : ℕ) → Contains xs y → Contains (x ∷ xs) y
is_later x xs y k = (suc k.0, (let l = k.1 in omega arith), k.2)

-- enough steps reach the end of a chain
chain_is : (next : List ℕ) (node : ℕ) (xs : List ℕ) (steps : ℕ) → IsChain next node xs → length xs ≤ steps → chain next steps node ≡ xs
chain_is next node [] zero c l = refl
chain_is next node [] (suc steps) c l = ap (λ b. cond b [] (node ∷ chain next steps (next_of next node))) (eq-eqb node NOBODY c)
chain_is next node (x ∷ xs) zero c l = absurd (omega arith)
chain_is next node (x ∷ xs) (suc steps) c l =
    ap (λ b. cond b [] (node ∷ chain next steps (next_of next node))) (ne_eqb node NOBODY (λ e. c.1.0 (sym c.0 ∙ e)))
    ∙ ap (λ y. y ∷ chain next steps (next_of next y)) c.0
    ∙ ap (λ ys. x ∷ ys) (chain_is next (next_of next x) xs steps c.1.1 (omega arith))

-- a chain is as it was where a node that is not in it gets another next one
chain_elsewhere : (next : List ℕ) (node v to : ℕ) (xs : List ℕ) → IsChain next node xs → (Contains xs v → ⊥) → IsChain (set next v to) node xs
chain_elsewhere next node v to [] c free = c
chain_elsewhere next node v to (x ∷ xs) c free =
    let same : next_of (set next v to) x ≡ next_of next x = get_or-set_other next v x to NOBODY (λ e. free (subst (Contains (x ∷ xs)) e (is_first x xs))) in
    (c.0, (c.1.0, subst (λ k. IsChain (set next v to) k xs) (sym same) (chain_elsewhere next (next_of next x) v to xs c.1.1 (λ k. free (is_later x xs v k)))))

-- a chain that begins with nobody has nobody
ends_chain : (next : List ℕ) (node : ℕ) (xs : List ℕ) → IsChain next node xs → node ≡ NOBODY → xs ≡ []
ends_chain next node [] c e = refl
ends_chain next node (x ∷ xs) c e = absurd (c.1.0 (sym c.0 ∙ e))

-- .. and one that begins with a node has it in front
pub record Begins (next : List ℕ) (node : ℕ) (xs : List ℕ) : Type 0 where
  pub rest : List ℕ
  pub is : xs ≡ node ∷ rest
  pub chain : IsChain next (next_of next node) rest

begins_chain : (next : List ℕ) (node : ℕ) (xs : List ℕ) → IsChain next node xs → (node ≡ NOBODY → ⊥) → Begins next node xs
begins_chain next node [] c d = absurd (d c)
begins_chain next node (x ∷ xs) c d = record {
  rest = xs;
  is = ap (λ y. y ∷ xs) (sym c.0);
  chain = subst (λ y. IsChain next (next_of next y) xs) (sym c.0) c.1.1;
}

none_equal : (x : ℕ) (xs : List ℕ) → (Contains xs x → ⊥) → AllByRecursion (λ y. eqb x y ≡ false) xs
none_equal x [] free = tt
none_equal x (y ∷ ys) free = (ne_eqb x y (λ e. free (subst (Contains (y ∷ ys)) (sym e) (is_first y ys))), none_equal x ys (λ k. free (is_later y ys x k)))

equals_none : (x : ℕ) (xs : List ℕ) → AllByRecursion (λ y. eqb x y ≡ false) xs → Contains xs x → eqb x x ≡ false
equals_none x [] h k = absurd (nothing_in x k)
equals_none x (y ∷ ys) h (zero, l, e) = subst (λ z. eqb x z ≡ false) e h.0
equals_none x (y ∷ ys) h (suc k, l, e) = equals_none x ys h.1 (k, omega arith, e)

any_is : (q : ℕ) (xs : List ℕ) → list_any (eqb q) xs ≡ true → Contains xs q
any_is q xs h = Contains-from_any (λ x y. eqb-true x y) q xs h

module _ (first next : List ℕ) (lists : List (List ℕ)) (a : AreChains first next lists) where
  short : (list : ℕ) → length (waiters_of lists list) ≤ length first
  short list = length-le_from_distinct_below (waiters_of lists list) (length first) (a.distinct list) (λ q h. a.within list q (any_is q (waiters_of lists list) h))

  -- they are the lists that the chains hold
  pub lists_are : lists_of first next ≡ lists
  lists_are = ext_get_or [] (lists_of first next) lists (length-map first (chain_from next) ∙ sym a.many) (λ i l. at i (let long = length-map first (chain_from next) in omega arith))
    where
      at : (i : ℕ) → i < length first → get_or (lists_of first next) i [] ≡ get_or lists i []
      at i l =
          get_or-map (chain_from next) first i NOBODY [] l
          ∙ chain_is next (get_or first i NOBODY) (get_or lists i []) (length next) (a.chains i l) (let some = short i in let long = a.long in omega arith)

  -- a node that stands nowhere comes to the front of a list
  module _ (read node to : ℕ) (r : read < length first) (n : node < length first) (is : get_or first read NOBODY ≡ to) (free : IsFree lists node) where
    abbrev pub new_first : List ℕ
    new_first = set first read node

    abbrev pub new_next : List ℕ
    new_next = set next node to

    here : waiters_of (with_waiter lists read node) read ≡ node ∷ waiters_of lists read
    here = get_or-set_same lists read (node ∷ waiters_of lists read) [] (let many = a.many in omega arith)

    elsewhere : (list : ℕ) → (list ≡ read → ⊥) → waiters_of (with_waiter lists read node) list ≡ waiters_of lists list
    elsewhere list d = get_or-set_other lists read list (node ∷ waiters_of lists read) [] d

    -- a fact on each list, by the one that is longer and the others
    by_lists : (P : ℕ → List ℕ → Type 0) → P read (node ∷ waiters_of lists read) → ((list : ℕ) → (list ≡ read → ⊥) → P list (waiters_of lists list)) → (list : ℕ) → P list (waiters_of (with_waiter lists read node) list)
    by_lists P p others list = by (cases_eq list read)
      where
        by : (list ≡ read) ⊎ (list ≡ read → ⊥) → P list (waiters_of (with_waiter lists read node) list)
        by (inl e) = subst (λ k. P k (waiters_of (with_waiter lists read node) k)) (sym e) (subst (P read) (sym here) p)
        by (inr d) = subst (P list) (sym (elsewhere list d)) (others list d)

    long_chain : IsChain new_next node (node ∷ waiters_of lists read)
    long_chain =
        let goes : next_of new_next node ≡ to = get_or-set_same next node to NOBODY (let long = a.long in omega arith) in
        (refl, ((λ e. let few = a.few in omega arith), subst (λ k. IsChain new_next k (waiters_of lists read)) (sym goes) (chain_elsewhere next to node to (waiters_of lists read) (subst (λ k. IsChain next k (waiters_of lists read)) is (a.chains read r)) (free read))))

    new_chains : (list : ℕ) → list < length new_first → IsChain new_next (get_or new_first list NOBODY) (waiters_of (with_waiter lists read node) list)
    new_chains = by_lists (λ list xs. list < length new_first → IsChain new_next (get_or new_first list NOBODY) xs)
        (λ l. subst (λ k. IsChain new_next k (node ∷ waiters_of lists read)) (sym (get_or-set_same first read node NOBODY r)) long_chain)
        (λ list d l. subst (λ k. IsChain new_next k (waiters_of lists list)) (sym (get_or-set_other first read list node NOBODY d))
        (chain_elsewhere next (get_or first list NOBODY) node to (waiters_of lists list) (a.chains list (let long = length-set first read node in omega arith)) (free list)))

    new_within : (list v : ℕ) → Contains (waiters_of (with_waiter lists read node) list) v → v < length new_first
    new_within list v k = by_lists (λ list xs. Contains xs v → v < length new_first)
        (λ k. by (one_of node (waiters_of lists read) v k))
        (λ list d k. let l = a.within list v k in let long = length-set first read node in omega arith) list k
      where
        by : (node ≡ v) ⊎ Contains (waiters_of lists read) v → v < length new_first
        by (inl e) = let long = length-set first read node in omega arith
        by (inr k) = let l = a.within read v k in let long = length-set first read node in omega arith

    new_distinct : (list : ℕ) → IsDistinct eqb (waiters_of (with_waiter lists read node) list)
    new_distinct = by_lists (λ list xs. IsDistinct eqb xs)
        (IsDistinct-cons eqb node (waiters_of lists read) (none_equal node (waiters_of lists read) (free read)) (a.distinct read))
        (λ list d. a.distinct list)

    -- the list in which a node stands: the one that got it, or the one in which it stood
    stood : (list v : ℕ) → Contains (waiters_of (with_waiter lists read node) list) v → ((list ≡ read) × (node ≡ v)) ⊎ Contains (waiters_of lists list) v
    stood list v = by_lists (λ list xs. Contains xs v → ((list ≡ read) × (node ≡ v)) ⊎ Contains (waiters_of lists list) v)
        (λ k. by (one_of node (waiters_of lists read) v k))
        (λ list d k. inr k) list
      where
        by : (node ≡ v) ⊎ Contains (waiters_of lists read) v → ((read ≡ read) × (node ≡ v)) ⊎ Contains (waiters_of lists read) v
        by (inl e) = inl (refl, e)
        by (inr k) = inr k

    new_one : (list other v : ℕ) → Contains (waiters_of (with_waiter lists read node) list) v → Contains (waiters_of (with_waiter lists read node) other) v → list ≡ other
    new_one list other v k m = by (stood list v k) (stood other v m)
      where
        by : ((list ≡ read) × (node ≡ v)) ⊎ Contains (waiters_of lists list) v → ((other ≡ read) × (node ≡ v)) ⊎ Contains (waiters_of lists other) v → list ≡ other
        by (inl e) (inl f) = e.0 ∙ sym f.0
        by (inl e) (inr m) = absurd (free other (subst (Contains (waiters_of lists other)) (sym e.1) m))
        by (inr k) (inl f) = absurd (free list (subst (Contains (waiters_of lists list)) (sym f.1) k))
        by (inr k) (inr m) = a.one list other v k m

    pub puts : AreChains new_first new_next (with_waiter lists read node)
    puts = record {
      long = length-set next node to ∙ a.long ∙ sym (length-set first read node);
      many = length-set lists read (node ∷ waiters_of lists read) ∙ a.many ∙ sym (length-set first read node);
      few = let long = length-set first read node in let few = a.few in omega arith;
      chains = new_chains;
      within = new_within;
      distinct = new_distinct;
      one = new_one;
    }

  -- nobody stands in a list
  pub takes_none : (read : ℕ) → read < length first → get_or first read NOBODY ≡ NOBODY → waiters_of lists read ≡ []
  takes_none read r e = ends_chain next (get_or first read NOBODY) (waiters_of lists read) (a.chains read r) e

  -- who stands in front is a node
  pub node_below : (read node : ℕ) → read < length first → get_or first read NOBODY ≡ node → (node ≡ NOBODY → ⊥) → node < length lists
  node_below read node r is some =
      let begins = begins_chain next node (waiters_of lists read) (subst (λ k. IsChain next k (waiters_of lists read)) is (a.chains read r)) some in
      let l = a.within read node (subst (λ xs. Contains xs node) (sym begins.is) (is_first node begins.rest)) in
      let many = a.many in
      omega arith

  pub node_there : (read node : ℕ) → read < length first → get_or first read NOBODY ≡ node → (node ≡ NOBODY → ⊥) → node < length next
  node_there read node r is some = let l = node_below read node r is some in let many = a.many in let long = a.long in omega arith

  -- the first of a list is taken
  module _ (read node to : ℕ) (r : read < length first) (is : get_or first read NOBODY ≡ node) (some : node ≡ NOBODY → ⊥) (goes : next_of next node ≡ to) where
    pub front : Begins next node (waiters_of lists read)
    front = begins_chain next node (waiters_of lists read) (subst (λ k. IsChain next k (waiters_of lists read)) is (a.chains read r)) some

    abbrev pub rests : List (List ℕ)
    rests = set lists read front.rest

    abbrev pub rest_first : List ℕ
    rest_first = set first read to

    pub rest_here : waiters_of rests read ≡ front.rest
    rest_here = get_or-set_same lists read front.rest [] (let many = a.many in omega arith)

    rest_by : (P : ℕ → List ℕ → Type 0) → P read front.rest → ((list : ℕ) → (list ≡ read → ⊥) → P list (waiters_of lists list)) → (list : ℕ) → P list (waiters_of rests list)
    rest_by P p others list = by (cases_eq list read)
      where
        by : (list ≡ read) ⊎ (list ≡ read → ⊥) → P list (waiters_of rests list)
        by (inl e) = subst (λ k. P k (waiters_of rests k)) (sym e) (subst (P read) (sym rest_here) p)
        by (inr d) = subst (P list) (sym (get_or-set_other lists read list front.rest [] d)) (others list d)

    -- whoever stands there stood there
    back : (list v : ℕ) → Contains (waiters_of rests list) v → Contains (waiters_of lists list) v
    back list v = rest_by (λ list xs. Contains xs v → Contains (waiters_of lists list) v)
        (λ k. subst (λ xs. Contains xs v) (sym front.is) (is_later node front.rest v k))
        (λ list d k. k) list

    -- the list that it was
    pub front_is : waiters_of lists read ≡ node ∷ front.rest
    front_is = front.is

    pub takes : AreChains rest_first next rests
    takes = record {
      long = a.long ∙ sym (length-set first read to);
      many = length-set lists read front.rest ∙ a.many ∙ sym (length-set first read to);
      few = let long = length-set first read to in let few = a.few in omega arith;
      chains = rest_by (λ list xs. list < length rest_first → IsChain next (get_or rest_first list NOBODY) xs)
          (λ l. subst (λ k. IsChain next k front.rest) (sym (get_or-set_same first read to NOBODY r)) (subst (λ k. IsChain next k front.rest) goes front.chain))
          (λ list d l. subst (λ k. IsChain next k (waiters_of lists list)) (sym (get_or-set_other first read list to NOBODY d)) (a.chains list (let long = length-set first read to in omega arith)));
      within = λ list v k. let l = a.within list v (back list v k) in let long = length-set first read to in omega arith;
      distinct = rest_by (λ list xs. IsDistinct eqb xs) (IsDistinct-tail eqb node front.rest (subst (IsDistinct eqb) front.is (a.distinct read))) (λ list d. a.distinct list);
      one = λ list other v k m. a.one list other v (back list v k) (back other v m);
    }

    pub taken_free : IsFree rests node
    taken_free list k = by (cases_eq list read)
      where
        there : Contains (waiters_of lists read) node
        there = subst (λ xs. Contains xs node) (sym front.is) (is_first node front.rest)

        twice : (xs : List ℕ) → IsDistinct eqb (node ∷ xs) → Contains xs node → ⊥
        twice xs d k = false≢true (sym (equals_none node xs (IsDistinct-head eqb node xs d) k) ∙ eq-eqb node node refl)

        by : (list ≡ read) ⊎ (list ≡ read → ⊥) → ⊥
        by (inl e) =
            let here : Contains front.rest node = subst (λ xs. Contains xs node) rest_here (subst (λ l. Contains (waiters_of rests l) node) e k) in
            twice front.rest (subst (IsDistinct eqb) front.is (a.distinct read)) here
        by (inr d) = d (a.one list read node (back list node k) there)

nil_distinct : IsDistinct {K = ℕ} eqb []
unfolding IsDistinct
nil_distinct = tt

-- no chain holds anybody
pub none_chained : (count : ℕ) → count ≤ NOBODY → AreChains (replicate count NOBODY) (replicate count NOBODY) (replicate count [])
none_chained count few = record {
  long = refl;
  many = length-replicate count (nil ℕ) ∙ sym (length-replicate count NOBODY);
  few = let long = length-replicate count NOBODY in omega arith;
  chains = λ list l. subst (IsChain (replicate count NOBODY) (get_or (replicate count NOBODY) list NOBODY)) (sym (empty_at {X = ℕ} count list)) (none list);
  within = λ list node k. absurd (nothing_in node (subst (λ xs. Contains xs node) (empty_at {X = ℕ} count list) k));
  distinct = λ list. subst (IsDistinct eqb) (sym (empty_at {X = ℕ} count list)) nil_distinct;
  one = λ list other node k m. absurd (nothing_in node (subst (λ xs. Contains xs node) (empty_at {X = ℕ} count list) k));
}
  where
    none : (list : ℕ) → get_or (replicate count NOBODY) list NOBODY ≡ NOBODY
    none list = by (cases_lt list count)
      where
        by : (list < count) ⊎ (count ≤ list) → get_or (replicate count NOBODY) list NOBODY ≡ NOBODY
        by (inl l) = get_or-replicate count list NOBODY NOBODY l
        by (inr l) = get_or_past (replicate count NOBODY) list NOBODY (let long = length-replicate count NOBODY in omega arith)

-- what is read of a list, whatever stands for a place behind its end
pub read_at : (xs : List ℕ) (at x : ℕ) → at < length xs → x ≡ get_or xs at x → get_or xs at NOBODY ≡ x
read_at xs at x l e = get_or_default xs at NOBODY x l ∙ sym e

-- the lists that chains hold are chains
pub closes : (first next : List ℕ) (lists : List (List ℕ)) → AreChains first next lists → AreChains first next (lists_of first next)
closes first next lists a = subst (AreChains first next) (sym (lists_are first next lists a)) a

-- what is held when the first of a list is taken
module _ (first next : List ℕ) (lists : List (List ℕ)) (a : AreChains first next lists) (read node to : ℕ) (r : read < length first) (is : get_or first read NOBODY ≡ node) (some : node ≡ NOBODY → ⊥) (goes : next_of next node ≡ to) where
  rests_are : lists_of (set first read to) next ≡ rests first next lists a read node to r is some goes
  rests_are = lists_are (set first read to) next (rests first next lists a read node to r is some goes) (takes first next lists a read node to r is some goes)

  rest_is : (front first next lists a read node to r is some goes).rest ≡ waiters_of (lists_of (set first read to) next) read
  rest_is = sym (ap (λ (all : List (List ℕ)). waiters_of all read) rests_are ∙ rest_here first next lists a read node to r is some goes)

  pub take_is : (waiters_of lists read ≡ node ∷ waiters_of (lists_of (set first read to) next) read) × (lists_of (set first read to) next ≡ set lists read (waiters_of (lists_of (set first read to) next) read))
  take_is = (
    front_is first next lists a read node to r is some goes ∙ ap (λ (xs : List ℕ). node ∷ xs) rest_is,
    rests_are ∙ ap (λ (xs : List ℕ). set lists read xs) rest_is,
  )

  pub take_keeps : AreChains (set first read to) next (lists_of (set first read to) next)
  take_keeps = subst (AreChains (set first read to) next) (sym rests_are) (takes first next lists a read node to r is some goes)

  pub take_frees : IsFree (lists_of (set first read to) next) node
  take_frees = subst (λ (all : List (List ℕ)). IsFree all node) (sym rests_are) (taken_free first next lists a read node to r is some goes)
