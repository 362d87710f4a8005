-- What holds of the nodes of a partition: which are levelled, and what a change reaches.
use Rattle.std.proofs.Common.{◌≡◌, ℕ, zero, suc, ◌≤◌, Bool, true, false, List, [], ◌∷◌, length, map, Option, Some, None, refl, arith, ap, sym, ◌∙◌, eqb}
use Rattle.std.specs.List.{find}
use Rattle.std.specs.Ordering.{is_eq}
use Rattle.std.specs.declared.cmp.Ordering.{Ordering}
use Rattle.std.specs.declared.cmp.Ordering.TheVariants.{Less, Equal, Greater}
use Rattle.std.proofs.lemmas.Bool.{and_parts, eqb-true}
use Rattle.mq_values.specs.Order.{cmp_key}
use Rattle.mq_values.specs.OrderTells.{same_key}
use Rattle.mq_ir.specs.declared.query.CellName.{CellName}
use Rattle.mq_ir.specs.declared.query.Look.{Look}
use Rattle.mq_ir.specs.declared.query.Look.TheVariants.{Measure, Presence}
use Rattle.mq_ir.specs.declared.query.PartShape.{PartShape}
use Rattle.mq_ir.specs.Affected.{Side, is_affected, is_seed}
use Rattle.mq_ir.specs.Automatic.{node_looks, node_of, round_count}
use Rattle.mq_ir.specs.CountLaws.{AgreeOn, Covers, affected_closed, levelled_enough}
use Rattle.mq_ir.specs.Keys.{is_same}
use Rattle.mq_ir.specs.RoundLaws.{Within, affected_least, every_look_within, levelled_stays, seeds_affected}
use Rattle.mq_ir.specs.Rounds.{levelled, some_look}
use Rattle.mq_ir.specs.Shape.{Assignment, assigns}
use Rattle.mq_ir.specs.Unfolding.{Model}

-- What a change reaches holds its seeds and each node that looks at one that it holds, and it is within every
-- set of nodes that does both.
pub record IsLeastClosed (model : Model) (old new : Side) : Type 0 where
  pub seeds : Within (is_seed model old new) (is_affected model old new)
  pub closed : (node : Look) → some_look (is_affected model old new) (node_looks model new.shape node) ≡ true → is_affected model old new node ≡ true
  pub least : (held : Look → Bool) → Within (is_seed model old new) held
      → ((node : Look) → some_look held (node_looks model new.shape node) ≡ true → held node ≡ true)
      → Within (is_affected model old new) held

-- what is levelled in a round stays levelled
abbrev pub StaysLevelled : Model → PartShape → Type 0
StaysLevelled model shape = (n k : ℕ) → n ≤ k → Within (levelled (node_looks model shape) n) (levelled (node_looks model shape) k)

-- as many rounds as there are assignments level all that can be levelled
abbrev pub EnoughRounds : Model → PartShape → Type 0
EnoughRounds model shape = (n : ℕ) → Within (levelled (node_looks model shape) n) (levelled (node_looks model shape) (round_count shape))

equal_keys : (o : Ordering) → is_eq o ≡ true → o ≡ Equal
equal_keys Less h = cc
equal_keys Equal h = refl
equal_keys Greater h = cc

-- the measure that an assignment is of is one node
same_node : (c : CellName) (a : Assignment) → assigns c.measure c.key a ≡ true → Measure c ≡ node_of a
same_node c a h =
    let both = and_parts (is_same c.key a.0) (eqb c.measure a.1) h in
    let key : c.key ≡ a.0 = same_key c.key a.0 (equal_keys (cmp_key c.key a.0) both.0) in
    let measure : c.measure ≡ a.1 = eqb-true c.measure a.1 both.1 in
    λ i. Measure (record { key = key i; measure = measure i })

-- tests that agree on the assigned nodes agree on a measure that a rule assigns
module _ (p q : Look → Bool) (c : CellName) where
  agree_at : (x : Assignment) (xs : List Assignment) → p (node_of x) ≡ q (node_of x) → ((a : Assignment) → find (assigns c.measure c.key) xs ≡ Some a → p (Measure c) ≡ q (Measure c))
      → (b : Bool) → assigns c.measure c.key x ≡ b → (a : Assignment) → find (assigns c.measure c.key) (x ∷ xs) ≡ Some a → p (Measure c) ≡ q (Measure c)
  agree_at x xs here later true e a h = ap p (same_node c x e) ∙ here ∙ sym (ap q (same_node c x e))
  agree_at x xs here later false e a h = later a (rw e at h)

  agree_found : (xs : List Assignment) → AgreeOn p q (map node_of xs) → (a : Assignment) → find (assigns c.measure c.key) xs ≡ Some a → p (Measure c) ≡ q (Measure c)
  agree_found [] agree a h = cc
  agree_found (x ∷ xs) agree a h = agree_at x xs agree.0 (agree_found xs agree.1) (assigns c.measure c.key x) refl a h

module _ (model : Model) (shape : PartShape) where
  covers_measure : (p q : Look → Bool) → AgreeOn p q (map node_of shape.assigned) → ((t : Look) → node_looks model shape t ≡ None → p t ≡ q t)
      → (c : CellName) (o : Option Assignment) → find (assigns c.measure c.key) shape.assigned ≡ o → p (Measure c) ≡ q (Measure c)
  covers_measure p q agree elsewhere c None e = elsewhere (Measure c) (rw e refl)
  covers_measure p q agree elsewhere c (Some a) e = agree_found p q c shape.assigned agree a e

  covers_nodes : Covers (node_looks model shape) (map node_of shape.assigned)
  covers_nodes p q agree elsewhere (Measure c) = covers_measure p q agree elsewhere c (find (assigns c.measure c.key) shape.assigned) refl
  covers_nodes p q agree elsewhere (Presence key) = elsewhere (Presence key) refl

length-nodes : (xs : List Assignment) → length (map node_of xs) ≡ length xs
length-nodes [] = refl
length-nodes (x ∷ xs) = ap suc (length-nodes xs)

pub stays_levelled : (model : Model) (shape : PartShape) → StaysLevelled model shape
stays_levelled model shape = levelled_stays (node_looks model shape)

enough_at : (model : Model) (shape : PartShape) (n : ℕ) → Within (levelled (node_looks model shape) n) (levelled (node_looks model shape) (length (map node_of shape.assigned)))
enough_at model shape zero t l = levelled_stays (node_looks model shape) zero (length (map node_of shape.assigned)) (omega arith) t l
enough_at model shape (suc n) t l =
    levelled_enough (node_looks model shape) (map node_of shape.assigned) (covers_nodes model shape) t
    ∙ every_look_within (levelled (node_looks model shape) n) (levelled (node_looks model shape) (length (map node_of shape.assigned))) (enough_at model shape n) (node_looks model shape t) l

pub enough_rounds : (model : Model) (shape : PartShape) → EnoughRounds model shape
enough_rounds model shape n t l = rw (sym (length-nodes shape.assigned)) (enough_at model shape n t l)

pub least_closed : (model : Model) (old new : Side) → IsLeastClosed model old new
least_closed model old new = record {
  seeds = seeds_affected (node_looks model new.shape) (is_seed model old new) (round_count new.shape);
  closed = λ node h. rw (sym (length-nodes new.shape.assigned))
      (affected_closed (node_looks model new.shape) (map node_of new.shape.assigned) (covers_nodes model new.shape) (is_seed model old new) node (rw (length-nodes new.shape.assigned) h));
  least = λ held begins closed. affected_least (node_looks model new.shape) (is_seed model old new) held begins closed (round_count new.shape);
}
