-- A visit to each place of a round.
use Rattle.std.proofs.Common.{◌≡◌, ℕ, zero, suc, ◌+◌, ◌<◌, ◌≤◌, true, List, [], ◌∷◌, ◌++◌, length, take, get_or, Some, slice_get, refl, sym, ap, subst, ◌∙◌, add-one, arith}
use Rattle.std.specs.List.{All}
use Rattle.std.proofs.lemmas.List.{take_more}
use Rattle.std.proofs.lemmas.List.Elements.{All-get_or}
use Rattle.mq_ir.specs.Shape.{Assignment}
use Rattle.mq_cells.specs.Stores.{CellInput, Results}
use Rattle.mq_change_laws.specs.NodeLaws.{StepsRead}
use Rattle.mq_auto_shape.specs.Found.{place_comes_in, round_of}
use Rattle.mq_delta_cells.specs.Bounds.{most_reads, total}
use Rattle.mq_delta_cells.specs.Marks.{Marks}
use Rattle.mq_delta_cells.specs.Walks.{Ground, IsVisited, IsWalked, reached_on, reads_at, reads_of_hit}
use Rattle.mq_delta_cells.proofs.GroundLemmas.{IsSolid}
use Rattle.mq_delta_cells.proofs.StepLemmas.{reads_is, walk_next}
use Rattle.mq_delta_cells.proofs.TotalLemmas.{total_append, total_front}
use Rattle.mq_delta_cells.proofs.WalkLemmas.{round_comes, spent, spent_round, spent_within, walk_round}

-- the item at a place that is there
item_at : {X : Type 0} (xs : List X) (k : ℕ) → k < length xs → (x : X) × (slice_get xs k ≡ Some x)
item_at [] k h = absurd (omega (arith, h))
item_at (x ∷ xs) zero h = (x, refl)
item_at (x ∷ xs) (suc k) h = item_at xs k (omega (arith, h))

-- of a place of a list all holds
pub holds_at : (P : ℕ → Type 0) (round : List ℕ) (i place : ℕ) → i < length round → place ≡ get_or round i place → All P round → P place
holds_at P round i place lt is all = subst P (sym is) (All-get_or P round i place lt all)

one_more : (round : List ℕ) (i place : ℕ) → i < length round → place ≡ get_or round i place → take (i + 1) round ≡ take i round ++ place ∷ []
one_more round i place lt is = take_more round i place lt ∙ ap (λ (p : ℕ). take i round ++ p ∷ []) (sym is)

module _ (g : Ground) (solid : IsSolid g) (given given' : CellInput) (first : Results) (n : ℕ) (round : List ℕ) (i place : ℕ)
    (lt : i < length round) (is : place ≡ get_or round i place) (within : place < length g.shape.assigned) (same : given' ≡ given)
    (comes : All (λ place. place_comes_in g.model g.shape n place ≡ true) round) (changed next : Marks) (results after : Results)
    (walked : IsWalked g given first n (take i round) changed results) where
  there : (a : Assignment) × (slice_get g.shape.assigned place ≡ Some a)
  there = item_at g.shape.assigned place within

  abbrev its : Assignment
  its = there.0

  at : slice_get g.shape.assigned place ≡ Some its
  at = there.1

  it_comes : place_comes_in g.model g.shape n place ≡ true
  it_comes = holds_at (λ place. place_comes_in g.model g.shape n place ≡ true) round i place lt is comes

  pub round_next : StepsRead → ((a : Assignment) → slice_get g.shape.assigned place ≡ Some a → IsVisited g given' results after changed next a)
      → IsWalked g given first n (take (i + 1) round) next after
  round_next law visited =
      subst (λ (met : List ℕ). IsWalked g given first n met next after) (sym (one_more round i place lt is))
      (walk_next g solid given first n (take i round) changed results walked place its at it_comes law next after
      (subst (λ (input : CellInput). IsVisited g input results after changed next its) same (visited its at)))

  pub round_reads : (start now later : ℕ) → now ≤ start + total (reads_at g) (take i round)
      → ((a : Assignment) → slice_get g.shape.assigned place ≡ Some a → later ≤ now + reads_of_hit g changed a)
      → later ≤ start + total (reads_at g) (take (i + 1) round)
  round_reads start now later so visit =
      let one : reads_of_hit g changed its ≡ reads_at g place = reads_is g solid given first n (take i round) changed results walked place its at it_comes in
      let more : total (reads_at g) (take (i + 1) round) ≡ total (reads_at g) (take i round) + total (reads_at g) (place ∷ []) =
      ap (total (reads_at g)) (one_more round i place lt is) ∙ total_append (reads_at g) (take i round) (place ∷ []) in
      omega (arith, so, visit its at, one, more)

-- what is read of a front of a round is within it
pub round_front : (g : Ground) (round : List ℕ) (i start now : ℕ) → now ≤ start + total (reads_at g) (take i round) → now ≤ start + total (reads_at g) round
round_front g round i start now h = omega (arith, h, total_front (reads_at g) i round)

-- ---- one round more
module _ (g : Ground) (solid : IsSolid g) (given given' : CellInput) (first : Results) (n : ℕ) (round : List ℕ) (same : given' ≡ given)
    (is : round ≡ round_of g.model g.shape n) (changed : Marks) (results : Results) (walked : IsWalked g given first n [] changed results) where
  before : IsWalked g given' first n [] changed results
  before = subst (λ (input : CellInput). IsWalked g input first n [] changed results) (sym same) walked

  pub rounds_next : (next : Marks) (after : Results)
      → ((first : Results) (n : ℕ) → All (λ place. place_comes_in g.model g.shape n place ≡ true) round
      → IsWalked g given' first n [] changed results → IsWalked g given' first n round next after)
      → IsWalked g given first (n + 1) [] next after
  rounds_next next after step =
      let done = subst (λ (input : CellInput). IsWalked g input first n round next after) same (step first n (round_comes g.model g.shape n round is) before) in
      subst (λ k. IsWalked g given first k [] next after) (sym (add-one n)) (walk_round g solid given first n round next after is done)

  pub rounds_reads : (start now later : ℕ) → now ≤ start + spent g n
      → ((first : Results) (n : ℕ) → All (λ place. place_comes_in g.model g.shape n place ≡ true) round
      → IsWalked g given' first n [] changed results → later ≤ now + total (reads_at g) round)
      → later ≤ start + spent g (n + 1)
  rounds_reads start now later so step =
      let more : spent g (n + 1) ≡ spent g (suc n) = ap (spent g) (add-one n) in
      omega (arith, so, step first n (round_comes g.model g.shape n round is) before, spent_round g n round is, more)

-- what is read within some rounds is within the bound
pub rounds_within : (g : Ground) (n start now : ℕ) → now ≤ start + spent g n → now ≤ start + most_reads g.model g.shape (reached_on g)
rounds_within g n start now h = omega (arith, h, spent_within g n)
