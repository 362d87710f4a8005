-- The rounds of places are the rounds of what is assigned there.
use Rattle.std.proofs.Common.{◌≡◌, ℕ, zero, suc, ◌+◌, ◌<◌, ◌≤◌, Bool, true, false, not, ◌&&◌, cond, List, [], ◌∷◌, ◌-◌, drop, length, map, Option, Some, None, IsSome, slice_get, refl, sym, ap, subst, arith, ◌∙◌}
use Rattle.std.specs.List.{All, cons_option, filter, filter_map, find, list_all, range_with_len}
use Rattle.std.specs.Option.{option_and_then, option_map, option_map_or}
use Rattle.std.specs.Prelude.{is_none, slice_index_or}
use Rattle.std.proofs.lemmas.List.{drop_all}
use Rattle.std.proofs.lemmas.List.Elements.{All-cons, All-filter, All-nil, All-weaker}
use Rattle.mq_ir.specs.declared.query.CellName.{CellName}
use Rattle.mq_ir.specs.declared.query.Look.{Look}
use Rattle.mq_ir.specs.declared.query.Look.TheVariants.{Measure, Presence}
use Rattle.mq_ir.specs.declared.query.PartShape.{PartShape}
use Rattle.mq_ir.specs.declared.query.Rule.{Rule}
use Rattle.mq_ir.specs.Automatic.{cycle_in, node_looks, node_of}
use Rattle.mq_ir.specs.Looks.{looks_of}
use Rattle.mq_ir.specs.RoundLaws.{levelled_stays}
use Rattle.mq_ir.specs.Placed.{Placed}
use Rattle.mq_ir.specs.Rounds as ir
use Rattle.mq_ir.specs.Shape.{Assignment, assigns}
use Rattle.mq_ir.specs.Slots.{site_in}
use Rattle.mq_ir.specs.Unfolding.{Model}
use Rattle.mq_levels.specs.Levels.{AreRounds, in_round, levelled, rest_of}
use Rattle.mq_auto_shape.specs.Edges.{looks_by, place_looked, reads_of, rule_by}
use Rattle.mq_auto_shape.specs.Found.{AreRoundsOf, IsRuled, comes_in, is_levelled, place_comes_in, round_of}
use Rattle.mq_auto_shape.specs.Outcomes.{cycle_at}
use Rattle.mq_auto_shape.proofs.EdgeLemmas.{all_at, hit, length_map, mapped_at, missed, same_node, there}

given : {A B : Type 0} (f : A → List B) (o : Option A) → IsSome o → option_map f o ≡ Some (option_map_or f o [])
given f None h = absurd (cc)
given f (Some x) h = refl

filter_alike : (f g : ℕ → Bool) (a n : ℕ) → ((p : ℕ) → a ≤ p → p < a + n → f p ≡ g p) → filter f (range_with_len a n) ≡ filter g (range_with_len a n)
filter_alike f g a zero h = refl
filter_alike f g a (suc n) h =
    (λ i. cond (h a (omega arith) (omega arith) i) (a ∷ filter f (range_with_len (a + 1) n)) (filter f (range_with_len (a + 1) n)))
    ∙ ap (λ l. cond (g a) (a ∷ l) l) (filter_alike f g (a + 1) n (λ p l u. h p (omega (arith, l)) (omega (arith, u))))

range_below : (a n : ℕ) → All (λ p. p < a + n) (range_with_len a n)
range_below a zero = All-nil (λ p. p < a + zero)
range_below a (suc n) =
    All-cons (λ p. p < a + suc n) a (range_with_len (a + 1) n) (omega arith)
    (All-weaker (λ p. p < a + 1 + n) (λ p. p < a + suc n) (λ p h. omega (arith, h)) (range_with_len (a + 1) n) (range_below (a + 1) n))

-- what is left is at places of assignments
pub rest_there : (assigned : List Assignment) (reads : List (List ℕ)) (rest : List ℕ) → length reads ≡ length assigned → rest ≡ rest_of reads → All (λ p. p < length assigned) rest
rest_there assigned reads rest same left =
    subst (λ (l : List ℕ). All (λ p. p < length assigned) l) (sym left)
    (All-filter (λ node. not (levelled reads (length reads) node)) (λ p. p < length assigned) (range_with_len 0 (length reads))
    (All-weaker (λ p. p < 0 + length reads) (λ p. p < length assigned) (λ p h. omega (arith, h, same)) (range_with_len 0 (length reads)) (range_below 0 (length reads))))

read_at : {X : Type 0} (xs : List X) (p : ℕ) (d a : X) → slice_get xs p ≡ Some a → slice_index_or xs p d ≡ a
read_at [] p d a h = absurd (cc)
read_at (x ∷ xs) zero d a h = let e : x ≡ a = cc in e
read_at (x ∷ xs) (suc p) d a h = read_at xs p d a h

pub dropped : {X : Type 0} (xs : List X) (p : ℕ) (a : X) → slice_get xs p ≡ Some a → drop p xs ≡ a ∷ drop (suc p) xs
dropped [] p a h = absurd (cc)
dropped (x ∷ xs) zero a h = let e : x ≡ a = cc in ap (λ y. y ∷ xs) e
dropped (x ∷ xs) (suc p) a h = dropped xs p a h

-- the items at the places that pass a test are those that pass it
kept : {X : Type 0} (xs : List X) (f : ℕ → Bool) (P : X → Bool) → ((p : ℕ) (a : X) → slice_get xs p ≡ Some a → f p ≡ P a)
    → (i n : ℕ) → i + n ≡ length xs → filter_map (slice_get xs) (filter f (range_with_len i n)) ≡ filter P (drop i xs)
kept xs f P h i zero e = let le : length xs ≤ i = omega (arith, e) in sym (ap (filter P) (drop_all i xs le))
kept {X} xs f P h i (suc n) e =
    let t = there xs i (omega (arith, e)) in
    let s : suc i ≡ i + 1 = omega arith in
    by t.item t.is (f i) refl (sym (h i t.item t.is)) (kept xs f P h (i + 1) n (omega (arith, e)))
    ∙ sym (ap (filter P) (dropped xs i t.item t.is ∙ ap (λ k. t.item ∷ drop k xs) s))
  where
    pick : (a : X) → slice_get xs i ≡ Some a → (b : Bool) → filter_map (slice_get xs) (filter f (range_with_len (i + 1) n)) ≡ filter P (drop (i + 1) xs)
        → filter_map (slice_get xs) (cond b (i ∷ filter f (range_with_len (i + 1) n)) (filter f (range_with_len (i + 1) n))) ≡ cond b (a ∷ filter P (drop (i + 1) xs)) (filter P (drop (i + 1) xs))
    pick a is true rest = λ j. cons_option (is j) (rest j)
    pick a is false rest = rest

    by : (a : X) → slice_get xs i ≡ Some a → (b : Bool) → f i ≡ b → P a ≡ f i → filter_map (slice_get xs) (filter f (range_with_len (i + 1) n)) ≡ filter P (drop (i + 1) xs)
        → filter_map (slice_get xs) (cond (f i) (i ∷ filter f (range_with_len (i + 1) n)) (filter f (range_with_len (i + 1) n))) ≡ cond (P a) (a ∷ filter P (drop (i + 1) xs)) (filter P (drop (i + 1) xs))
    by a is b g q rest =
        ap (λ c. filter_map (slice_get xs) (cond c (i ∷ filter f (range_with_len (i + 1) n)) (filter f (range_with_len (i + 1) n)))) g
        ∙ pick a is b rest ∙ sym (ap (λ c. cond c (a ∷ filter P (drop (i + 1) xs)) (filter P (drop (i + 1) xs))) (q ∙ g))

module _ (model : Model) (shape : PartShape) (own : All (λ a. find (assigns a.1 a.0) shape.assigned ≡ Some a) shape.assigned) (ruled : All (IsRuled model) shape.assigned) where
  abbrev reads : List (List ℕ)
  reads = map (reads_of model shape) shape.assigned

  -- what an assigned node looks at
  looks_there : (p : ℕ) (a : Assignment) → slice_get shape.assigned p ≡ Some a → node_looks model shape (node_of a) ≡ Some (looks_by model shape a)
  looks_there p a h =
      let itself = all_at (λ a. find (assigns a.1 a.0) shape.assigned ≡ Some a) shape.assigned own p a h in
      let rule = (all_at (IsRuled model) shape.assigned ruled p a h).1 in
      ap (λ (o : Option Assignment). option_map (λ (r : Rule). looks_of (site_in model shape 0 a.0) r.right) (option_and_then (λ number. slice_get model.part.rules (number - 1)) (option_map (λ (x : Assignment). x.2) o))) itself
      ∙ given (λ (r : Rule). looks_of (site_in model shape 0 a.0) r.right) (rule_by model a) rule

  -- what is not assigned is levelled from the start
  free : (n : ℕ) (node : Look) → node_looks model shape node ≡ None → ir.levelled (node_looks model shape) n node ≡ true
  free zero node h = ap is_none h
  free (suc n) node h = ap (ir.every_look (ir.levelled (node_looks model shape) n)) h

  unassigned : (c : CellName) → find (assigns c.measure c.key) shape.assigned ≡ None → node_looks model shape (Measure c) ≡ None
  unassigned c h =
      ap (λ (o : Option Assignment). option_map (λ (r : Rule). looks_of (site_in model shape 0 c.key) r.right) (option_and_then (λ number. slice_get model.part.rules (number - 1)) (option_map (λ (x : Assignment). x.2) o))) h

  abbrev Agrees : ℕ → Type 0
  Agrees n = (p : ℕ) (a : Assignment) → slice_get shape.assigned p ≡ Some a → levelled reads n p ≡ is_levelled model shape n a

  look_agrees : (n : ℕ) → Agrees n → (look : Look) → option_map_or (levelled reads n) (place_looked shape.assigned look) true ≡ ir.levelled (node_looks model shape) n look
  look_agrees n before (Presence key) = sym (free n (Presence key) refl)
  look_agrees n before (Measure c) = by (place_looked shape.assigned (Measure c)) refl
    where
      by : (o : Option ℕ) → place_looked shape.assigned (Measure c) ≡ o → option_map_or (levelled reads n) o true ≡ ir.levelled (node_looks model shape) n (Measure c)
      by None e = sym (free n (Measure c) (unassigned c (missed (assigns c.measure c.key) 0 shape.assigned e)))
      by (Some q) e =
          let it = hit (assigns c.measure c.key) 0 shape.assigned q e in
          let place : q ≡ it.off = omega (arith, it.is) in
          ap (levelled reads n) place ∙ before it.off it.item it.at ∙ sym (ap (ir.levelled (node_looks model shape) n) (same_node c it.item it.passes))

  one : (n : ℕ) (o : Option ℕ) (rest : List ℕ) → list_all (levelled reads n) (cons_option o rest) ≡ (option_map_or (levelled reads n) o true && list_all (levelled reads n) rest)
  one n None rest = refl
  one n (Some q) rest = refl

  looks_agree : (n : ℕ) → Agrees n → (looks : List Look)
      → list_all (levelled reads n) (filter_map (place_looked shape.assigned) looks) ≡ list_all (ir.levelled (node_looks model shape) n) looks
  looks_agree n before [] = refl
  looks_agree n before (look ∷ looks) =
      one n (place_looked shape.assigned look) (filter_map (place_looked shape.assigned) looks)
      ∙ (λ i. look_agrees n before look i && looks_agree n before looks i)

  pub agrees : (n p : ℕ) (a : Assignment) → slice_get shape.assigned p ≡ Some a → levelled reads n p ≡ is_levelled model shape n a
  agrees zero p a h = sym (ap is_none (looks_there p a h))
  agrees (suc n) p a h =
      ap (list_all (levelled reads n)) (mapped_at (reads_of model shape) shape.assigned p a h)
      ∙ looks_agree n (agrees n) (looks_by model shape a)
      ∙ sym (ap (ir.every_look (ir.levelled (node_looks model shape) n)) (looks_there p a h))

  place_agrees : (n p : ℕ) → p < length shape.assigned → in_round reads n p ≡ place_comes_in model shape n p
  place_agrees n p lt =
      let t = there shape.assigned p lt in
      (λ i. agrees (suc n) p t.item t.is i && not (agrees n p t.item t.is i)) ∙ sym (ap (λ o. option_map_or (comes_in model shape n) o false) t.is)

  round_agrees : (n : ℕ) → filter (in_round reads n) (range_with_len 0 (length reads)) ≡ round_of model shape n
  round_agrees n =
      ap (λ k. filter (in_round reads n) (range_with_len 0 k)) (length_map (reads_of model shape) shape.assigned)
      ∙ filter_alike (in_round reads n) (place_comes_in model shape n) 0 (length shape.assigned) (λ p l u. place_agrees n p (omega (arith, u)))

  -- ---- where nothing is left, all is levelled
  none_left : (f : ℕ → Bool) (a n : ℕ) → filter (λ p. not (f p)) (range_with_len a n) ≡ [] → (k : ℕ) → k < n → f (a + k) ≡ true
  none_left f a zero h k lt = absurd (omega (arith, lt))
  none_left f a (suc n) h k lt = by (f a) refl h (λ g j l. none_left f (a + 1) n g j l) k lt
    where
      at : f a ≡ true → filter (λ p. not (f p)) (range_with_len (a + 1) n) ≡ [] → (filter (λ p. not (f p)) (range_with_len (a + 1) n) ≡ [] → (j : ℕ) → j < n → f (a + 1 + j) ≡ true) → (k : ℕ) → k < suc n → f (a + k) ≡ true
      at e g rest zero lt = let z : a + 0 ≡ a = omega arith in ap f z ∙ e
      at e g rest (suc k) lt = let z : a + suc k ≡ a + 1 + k = omega arith in ap f z ∙ rest g k (omega (arith, lt))

      by : (b : Bool) → f a ≡ b → cond (not b) (a ∷ filter (λ p. not (f p)) (range_with_len (a + 1) n)) (filter (λ p. not (f p)) (range_with_len (a + 1) n)) ≡ []
          → (filter (λ p. not (f p)) (range_with_len (a + 1) n) ≡ [] → (j : ℕ) → j < n → f (a + 1 + j) ≡ true) → (k : ℕ) → k < suc n → f (a + k) ≡ true
      by true e g rest k lt = at e g rest k lt
      by false e g rest k lt = absurd (cc)

  all_levelled : rest_of reads ≡ [] → (p : ℕ) → p < length reads → levelled reads (length reads) p ≡ true
  all_levelled none p lt = let z : p ≡ 0 + p = omega arith in ap (levelled reads (length reads)) z ∙ none_left (levelled reads (length reads)) 0 (length reads) none p lt

  in_the_end : (rounds : List (List ℕ)) → AreRounds reads rounds → rest_of reads ≡ [] → (p : ℕ) (d : Assignment) → p < length shape.assigned
      → is_levelled model shape (length rounds) (slice_index_or shape.assigned p d) ≡ true
  in_the_end rounds r none p d lt =
      let t = there shape.assigned p lt in
      let within : p < length reads = omega (arith, lt, length_map (reads_of model shape) shape.assigned) in
      let more = length reads + length rounds in
      let full : is_levelled model shape (length reads) t.item ≡ true = sym (agrees (length reads) p t.item t.is) ∙ all_levelled none p within in
      let later : is_levelled model shape more t.item ≡ true = levelled_stays (node_looks model shape) (length reads) more (omega arith) (node_of t.item) full in
      let ended : levelled reads (length rounds) p ≡ true = sym (r.complete more p (omega arith) within) ∙ agrees more p t.item t.is ∙ later in
      ap (is_levelled model shape (length rounds)) (read_at shape.assigned p d t.item t.is) ∙ sym (agrees (length rounds) p t.item t.is) ∙ ended

  pub rounds_are : (rounds : List (List ℕ)) → AreRounds reads rounds → rest_of reads ≡ [] → AreRoundsOf model shape rounds
  rounds_are rounds r none = record {
    each = λ n. r.each n ∙ round_agrees n;
    filled = r.filled;
    complete = λ p d lt. in_the_end rounds r none p d lt;
  }

  -- ---- what is left is what is not levelled
  abbrev pub unlevelled : Assignment → Bool
  unlevelled a = not (is_levelled model shape (length shape.assigned) a)

  pub left_are : filter_map (slice_get shape.assigned) (rest_of reads) ≡ filter unlevelled shape.assigned
  left_are =
      kept shape.assigned (λ p. not (levelled reads (length reads) p)) unlevelled
      (λ p a h. ap not (agrees (length reads) p a h ∙ ap (λ n. is_levelled model shape n a) (length_map (reads_of model shape) shape.assigned)))
      0 (length reads) (omega (arith, length_map (reads_of model shape) shape.assigned))

  -- ---- for reads that are these
  module _ (mine : List (List ℕ)) (same : mine ≡ reads) (rest : List ℕ) (left : rest ≡ rest_of mine) where
    pub cycle_named : (fault : Option Placed) → fault ≡ cycle_at (filter_map (slice_get shape.assigned) rest) → cycle_in model shape ≡ fault
    cycle_named fault h = sym (h ∙ ap (λ (l : List ℕ). cycle_at (filter_map (slice_get shape.assigned) l)) (left ∙ ap rest_of same) ∙ ap cycle_at left_are)

    pub no_cycle : rest ≡ [] → cycle_in model shape ≡ None
    no_cycle none = cycle_named None (sym (ap (λ (l : List ℕ). cycle_at (filter_map (slice_get shape.assigned) l)) none))

    pub rounds_there : (rounds : List (List ℕ)) → AreRounds mine rounds → rest ≡ [] → AreRoundsOf model shape rounds
    rounds_there rounds r none = rounds_are rounds (subst (λ (l : List (List ℕ)). AreRounds l rounds) same r) (sym (left ∙ ap rest_of same) ∙ none)
