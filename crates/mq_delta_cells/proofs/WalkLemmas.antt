-- Round by round a walk visits the assignments of a shape.
use Rattle.std.proofs.Common.{◌≡◌, ℕ, zero, suc, ◌+◌, ◌<◌, ◌≤◌, Bool, true, false, ◌&&◌, ◌||◌, not, cond, List, [], ◌∷◌, length, get_or, Option, Some, None, slice_get, refl, sym, ap, subst, ◌∙◌, arith}
use Rattle.std.specs.List.{All, filter, find, range_with_len}
use Rattle.std.specs.Option.{option_map_or}
use Rattle.std.proofs.lemmas.List.Elements.{All-cons, All-get_or, All-head, All-nil, All-tail, All-weaker, filter_passes}
use Rattle.std.proofs.lemmas.List.FromFn.{get_or-range_with_len, length-range_with_len}
use Rattle.std.proofs.lemmas.Option.{slice_get_within}
use Rattle.mq_ir.specs.declared.query.CellName.{CellName}
use Rattle.mq_ir.specs.declared.query.Look.{Look}
use Rattle.mq_ir.specs.declared.query.Look.TheVariants.{Measure}
use Rattle.mq_ir.specs.declared.query.PartShape.{PartShape}
use Rattle.mq_ir.specs.Automatic.{node_looks, node_of}
use Rattle.mq_ir.specs.Partitions.{Cells, cell_at}
use Rattle.mq_ir.specs.RoundLaws.{levelled_stays}
use Rattle.mq_ir.specs.Rounds.{levelled}
use Rattle.mq_ir.specs.Shape.{Assignment, assigns}
use Rattle.mq_ir.specs.Unfolding.{Model}
use Rattle.mq_cells.specs.Stores.{CellInput, Results, name_assigned}
use Rattle.mq_change_laws.specs.NodeLaws.{unassigned_levelled}
use Rattle.mq_auto.specs.Meaning.{result_at}
use Rattle.mq_auto_shape.specs.Found.{AreRoundsOf, comes_in, place_comes_in, round_of}
use Rattle.mq_delta_cells.specs.Bounds.{most_reads, reads_for, total}
use Rattle.mq_delta_cells.specs.Marks.{Marks, no_marks}
use Rattle.mq_delta_cells.specs.Walks.{BeginsRight, Ground, IsRight, IsRightAt, IsWalked, is_changed, reached_on, reads_at}
use Rattle.mq_delta_cells.proofs.GroundLemmas.{IsSolid, outside_reached, rounds_level}
use Rattle.mq_delta_cells.proofs.NodeLemmas.{named_same}
use Rattle.mq_delta_cells.proofs.StepLemmas.{unreached_kept}
use Rattle.mq_delta_cells.proofs.MarkLemmas.{none_marked}
use Rattle.mq_delta_cells.proofs.TotalLemmas.{total_places, total_round, total_within, where_it}

-- what holds of each that passes
kept : {X : Type 0} (p : X → Bool) (P : X → Type 0) (xs : List X) → All P (filter p xs) → All (λ x. p x ≡ true → P x) xs
kept p P [] h = All-nil (λ x. p x ≡ true → P x)
kept p P (x ∷ xs) h = by (p x) refl h (kept p P xs)
  where
    by : (b : Bool) → p x ≡ b → All P (cond b (x ∷ filter p xs) (filter p xs)) → (All P (filter p xs) → All (λ x. p x ≡ true → P x) xs)
        → All (λ x. p x ≡ true → P x) (x ∷ xs)
    by true e h rest = All-cons (λ x. p x ≡ true → P x) x xs (λ _. All-head P x (filter p xs) h) (rest (All-tail P x (filter p xs) h))
    by false e h rest = All-cons (λ x. p x ≡ true → P x) x xs (λ g. absurd (let f : false ≡ true = sym e ∙ g in cc)) (rest h)

-- the place of the one that is found
found_place : {X : Type 0} (test : X → Bool) (xs : List X) (a : X) → find test xs ≡ Some a → (k : ℕ) × (slice_get xs k ≡ Some a) × (test a ≡ true)
found_place test [] a h = cc
found_place test (x ∷ xs) a h = by (test x) refl h (found_place test xs a)
  where
    by : (b : Bool) → test x ≡ b → cond b (Some x) (find test xs) ≡ Some a
        → (find test xs ≡ Some a → (k : ℕ) × (slice_get xs k ≡ Some a) × (test a ≡ true))
        → (k : ℕ) × (slice_get (x ∷ xs) k ≡ Some a) × (test a ≡ true)
    by true e h rest = (zero, h, (let s : x ≡ a = cc in ap test (sym s) ∙ e))
    by false e h rest = let p = rest h in (suc p.0, p.1, p.2)

none_more : (n : ℕ) → 0 + n ≡ n
none_more n = omega arith

not_true : (b : Bool) → not b ≡ true → b ≡ false
not_true true h = cc
not_true false h = refl

-- an item that is there, whatever stands for one that is not
in_range : {X : Type 0} (xs : List X) (n : ℕ) (d e : X) → n < length xs → get_or xs n d ≡ get_or xs n e
in_range [] n d e h = absurd (omega (arith, h))
in_range (x ∷ xs) zero d e h = refl
in_range (x ∷ xs) (suc n) d e h = in_range xs n d e (omega (arith, h))

module _ (model : Model) (shape : PartShape) where
  abbrev level : ℕ → CellName → Bool
  level n c = levelled (node_looks model shape) n (Measure c)

  -- a round has places of assignments, and each of them comes in it
  pub round_is : (rounds : List (List ℕ)) (n : ℕ) (round : List ℕ) → AreRoundsOf model shape rounds → n < length rounds → round ≡ get_or rounds n round
      → round ≡ round_of model shape n
  round_is rounds n round are lt is = is ∙ in_range rounds n round [] lt ∙ are.each n

  pub round_comes : (n : ℕ) (round : List ℕ) → round ≡ round_of model shape n → All (λ place. place_comes_in model shape n place ≡ true) round
  round_comes n round same =
      subst (All (λ place. place_comes_in model shape n place ≡ true)) (sym same)
      (filter_passes (place_comes_in model shape n) (range_with_len 0 (length shape.assigned)))

  there : (n place : ℕ) → (o : Option Assignment) → slice_get shape.assigned place ≡ o → option_map_or (comes_in model shape n) o false ≡ true
      → place < length shape.assigned
  there n place None e h = cc
  there n place (Some a) e h = slice_get_within shape.assigned place a e

  pub round_within : (n : ℕ) (round : List ℕ) → round ≡ round_of model shape n → All (λ place. place < length shape.assigned) round
  round_within n round same =
      All-weaker (λ place. place_comes_in model shape n place ≡ true) (λ place. place < length shape.assigned)
      (λ place h. there n place (slice_get shape.assigned place) refl h) round (round_comes n round same)

  -- what holds of each measure that is levelled within n rounds, and of those of the assignments of the next round, holds one round on
  module _ (P : CellName → Type 0) (n : ℕ) where
    next_by : ((c : CellName) → level n c ≡ true → P c) → All (λ place. (a : Assignment) → slice_get shape.assigned place ≡ Some a → P (name_assigned a)) (round_of model shape n)
        → (c : CellName) → level (suc n) c ≡ true → (o : Option Assignment) → find (assigns c.measure c.key) shape.assigned ≡ o → level n c ≡ false → P c
    next_by below found c l None e h = absurd (let f : true ≡ false = sym (unassigned_levelled model shape n (Measure c) (rw e refl)) ∙ h in cc)
    next_by below found c l (Some a) e h =
        let p = found_place (assigns c.measure c.key) shape.assigned a e in
        let same : c ≡ name_assigned a = named_same c (name_assigned a) p.2 in
        let count = length shape.assigned in
        let within : p.0 < count = slice_get_within shape.assigned p.0 a p.1 in
        let later : level (suc n) (name_assigned a) ≡ true = ap (level (suc n)) (sym same) ∙ l in
        let sooner : level n (name_assigned a) ≡ false = ap (level n) (sym same) ∙ h in
        let comes : place_comes_in model shape n p.0 ≡ true =
        ap (λ o. option_map_or (comes_in model shape n) o false) p.1 ∙ ap (λ b. b && not (level n (name_assigned a))) later ∙ ap not sooner in
        let Q : ℕ → Type 0 = λ place. (b : Assignment) → slice_get shape.assigned place ≡ Some b → P (name_assigned b) in
        let pass = kept (place_comes_in model shape n) Q (range_with_len 0 count) found in
        let at = All-get_or (λ k. place_comes_in model shape n k ≡ true → Q k) (range_with_len 0 count) p.0 p.0 (rw (length-range_with_len 0 count) within) pass in
        let itself : get_or (range_with_len 0 count) p.0 p.0 ≡ p.0 = get_or-range_with_len 0 count p.0 p.0 within ∙ none_more p.0 in
        let done : Q p.0 = subst (λ k. place_comes_in model shape n k ≡ true → Q k) itself at comes in
        subst P (sym same) (done a p.1)

    pub behind_round : ((c : CellName) → level n c ≡ true → P c) → All (λ place. (a : Assignment) → slice_get shape.assigned place ≡ Some a → P (name_assigned a)) (round_of model shape n)
        → (c : CellName) → level (suc n) c ≡ true → P c
    behind_round below found c l = by (level n c) refl
      where
        by : (b : Bool) → level n c ≡ b → P c
        by true e = below c e
        by false e = next_by below found c l (find (assigns c.measure c.key) shape.assigned) refl e

module _ (g : Ground) (solid : IsSolid g) (given : CellInput) (first : Results) where
  -- before the first round
  pub walk_start : (changed : Marks) → changed ≡ no_marks → IsWalked g given first 0 [] changed first
  walk_start changed none = record {
    sound = λ c h. absurd (let k : false ≡ true = sym (unchanged c) ∙ h in cc);
    kept = λ c h. refl;
    below = λ c l. begins c (node_looks g.model g.shape (Measure c)) refl l;
    met = All-nil (IsRightAt g given first changed first);
  }
    where
      unchanged : (c : CellName) → is_changed g changed c ≡ false
      unchanged c = ap (λ (marks : Marks). is_changed g marks c) none ∙ none_marked g.shape.cells c

      begins : (c : CellName) (o : Option (List Look)) → node_looks g.model g.shape (Measure c) ≡ o → levelled (node_looks g.model g.shape) 0 (Measure c) ≡ true
          → IsRight g given first changed first c
      begins c (Some looks) e l = absurd (let f : false ≡ true = (rw e at l) in cc)
      begins c None e l = record {
        known = ap (λ b. b || g.outside (Measure c)) (unchanged c) ∙ outside_reached g solid (Measure c) e;
        result = λ input from begin. begin.unruled c e ∙ sym (nothing input);
      }
        where
          nothing : (input : Cells) → result_at g.model g.shape input c ≡ None
          nothing input = rw e refl

  -- a round is done
  pub walk_round : (n : ℕ) (round : List ℕ) (changed : Marks) (results : Results) → round ≡ round_of g.model g.shape n
      → IsWalked g given first n round changed results → IsWalked g given first (suc n) [] changed results
  walk_round n round changed results same walked = record {
    sound = walked.sound;
    kept = walked.kept;
    below =
        behind_round g.model g.shape (IsRight g given first changed results) n walked.below
        (subst (All (IsRightAt g given first changed results)) same walked.met);
    met = All-nil (IsRightAt g given first changed results);
  }

  -- behind the last round
  module _ (rounds : List (List ℕ)) (n : ℕ) (changed : Marks) (results : Results) (are : AreRoundsOf g.model g.shape rounds) (past : length rounds ≤ n)
      (walked : IsWalked g given first n [] changed results) where
    pub walk_values : (input : Cells) → given ≡ cell_at input → BeginsRight g input first → (c : CellName) → results c ≡ result_at g.model g.shape input c
    walk_values input from begins c =
        (walked.below c (levelled_stays (node_looks g.model g.shape) (length rounds) n past (Measure c) (rounds_level g.model g.shape rounds are (Measure c)))).result input from begins

    pub walk_unreached : (c : CellName) → reached_on g (Measure c) ≡ false → results c ≡ first c
    walk_unreached = unreached_kept g solid given first n [] changed results walked

-- ---- how many are read
module _ (g : Ground) where
  abbrev places : List ℕ
  places = range_with_len 0 (length g.shape.assigned)

  abbrev done_at : ℕ → ℕ → Bool
  done_at n place = option_map_or (λ (a : Assignment). levelled (node_looks g.model g.shape) n (node_of a)) (slice_get g.shape.assigned place) false

  -- those of n rounds
  abbrev pub spent : ℕ → ℕ
  spent n = total (where_it (done_at n) (reads_at g)) places

  grows : (n place : ℕ) → done_at n place ≡ true → done_at (suc n) place ≡ true
  grows n place h = by (slice_get g.shape.assigned place) h
    where
      by : (o : Option Assignment) → option_map_or (λ (a : Assignment). levelled (node_looks g.model g.shape) n (node_of a)) o false ≡ true
          → option_map_or (λ (a : Assignment). levelled (node_looks g.model g.shape) (suc n) (node_of a)) o false ≡ true
      by None h = h
      by (Some a) h = levelled_stays (node_looks g.model g.shape) n (suc n) (omega arith) (node_of a) h

  in_round : (n place : ℕ) → (done_at (suc n) place && not (done_at n place)) ≡ place_comes_in g.model g.shape n place
  in_round n place = by (slice_get g.shape.assigned place)
    where
      by : (o : Option Assignment)
          → (option_map_or (λ (a : Assignment). levelled (node_looks g.model g.shape) (suc n) (node_of a)) o false
          && not (option_map_or (λ (a : Assignment). levelled (node_looks g.model g.shape) n (node_of a)) o false))
          ≡ option_map_or (comes_in g.model g.shape n) o false
      by None = refl
      by (Some a) = refl

  pub spent_round : (n : ℕ) (round : List ℕ) → round ≡ round_of g.model g.shape n → spent n + total (reads_at g) round ≤ spent (suc n)
  spent_round n round same =
      let h = total_round (done_at n) (done_at (suc n)) (reads_at g) (grows n) places in
      let e : filter (λ place. done_at (suc n) place && not (done_at n place)) places ≡ round =
      ap (λ (p : ℕ → Bool). filter p places) (λ i place. in_round n place i) ∙ sym same in
      subst (λ (l : List ℕ). spent n + total (reads_at g) l ≤ spent (suc n)) e h

  pub places_are : total (reads_at g) places ≡ most_reads g.model g.shape (reached_on g)
  places_are = total_places (reads_at g) (reads_for g.model g.shape (reached_on g)) g.shape.assigned 0
      (λ i a e. ap (reads_at g) (none_more i) ∙ ap (λ o. option_map_or (reads_for g.model g.shape (reached_on g)) o 0) e)

  pub spent_within : (n : ℕ) → spent n ≤ most_reads g.model g.shape (reached_on g)
  spent_within n = omega (arith, total_within (done_at n) (reads_at g) places, places_are)
