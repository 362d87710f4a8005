-- What a walk goes by: what the change reaches goes by looks, and what is known of looks that no rule assigns is right.
use Rattle.std.proofs.Common.{◌≡◌, ℕ, suc, ◌-◌, Bool, true, false, ◌||◌, List, [], length, Option, Some, None, IsSome, slice_get, refl, sym, ap, ◌∙◌, arith}
use Rattle.std.specs.List.{All, find}
use Rattle.std.specs.Option.{option_and_then, option_map, option_map_or}
use Rattle.mq_ir.specs.declared.query.CellName.{CellName}
use Rattle.mq_ir.specs.declared.query.Look.{Look}
use Rattle.mq_ir.specs.declared.query.Look.TheVariants.{Measure, Presence}
use Rattle.mq_ir.specs.declared.query.PartShape.{PartShape}
use Rattle.mq_ir.specs.declared.query.Rule.{Rule}
use Rattle.mq_ir.specs.AffectedLaws.{enough_rounds}
use Rattle.mq_ir.specs.Affected.{is_in_one}
use Rattle.mq_ir.specs.Automatic.{assigning_rule, node_looks, node_of, round_count, rule_at}
use Rattle.mq_ir.specs.EachLaws.{each_in}
use Rattle.mq_ir.specs.RoundLaws.{levelled_stays, seeds_affected}
use Rattle.mq_ir.specs.Rounds.{levelled, some_look}
use Rattle.mq_ir.specs.Shape.{Assignment, assigns}
use Rattle.mq_ir.specs.Slots.{site_in}
use Rattle.mq_ir.specs.Looks.{looks_of}
use Rattle.mq_ir.specs.Unfolding.{Model}
use Rattle.mq_change_laws.specs.NodeLaws.{unassigned_levelled}
use Rattle.mq_change_laws.specs.SoundLaws.{found_has}
use Rattle.mq_auto_shape.specs.Edges.{looks_by}
use Rattle.mq_auto_shape.specs.Found.{AreRoundsOf, IsRuled, is_levelled}
use Rattle.mq_auto.specs.Walks.{AreOwn}
use Rattle.mq_delta_cells.specs.Courses.{IsCourse}
use Rattle.mq_delta_cells.specs.Seeds.{is_told, is_told_outside, outside_by, told_by}
use Rattle.mq_delta_cells.specs.Walks.{Ground, reached_on}
use Rattle.mq_delta_cells.specs.declared.course.Course.{Course}
use Rattle.mq_delta_cells.proofs.NodeLemmas.{named_same}
use Rattle.mq_delta_cells.proofs.SettledLemmas.{reached_alike, unassigned_reached}

-- what is asked of a ground
pub record IsSolid (g : Ground) : Type 0 where
  pub own : AreOwn g.shape
  pub ruled : All (IsRuled g.model) g.shape.assigned
  -- every node is levelled in the end
  pub levelled_all : (t : Look) → levelled (node_looks g.model g.shape) (round_count g.shape) t ≡ true
  -- of a look that no rule assigns all is known
  pub outside_is : (t : Look) → node_looks g.model g.shape t ≡ None → g.outside t ≡ g.told t
  pub outside_told : (t : Look) → g.outside t ≡ true → g.told t ≡ true

abbrev Named : CellName → Assignment → Bool
Named c a = assigns c.measure c.key a

module _ (model : Model) (shape : PartShape) where
  -- an assignment has the looks of its rule
  pub ruled_looks : (a : Assignment) → IsRuled model a → find (assigns a.1 a.0) shape.assigned ≡ Some a
      → node_looks model shape (node_of a) ≡ Some (looks_by model shape a)
  ruled_looks a ruled own = ap (λ o. option_map (λ (rule : Rule). looks_of (site_in model shape 0 a.0) rule.right) o) rule ∙ by (slice_get model.part.rules (a.2 - 1)) ruled.1
    where
      rule : assigning_rule model shape (node_of a) ≡ slice_get model.part.rules (a.2 - 1)
      rule = ap (λ (o : Option Assignment). option_and_then (λ number. slice_get model.part.rules (number - 1)) (option_map (λ b. b.2) o)) own

      by : (o : Option Rule) → IsSome o
          → option_map (λ (rule : Rule). looks_of (site_in model shape 0 a.0) rule.right) o
          ≡ Some (option_map_or (λ (rule : Rule). looks_of (site_in model shape 0 a.0) rule.right) o [])
      by None h = cc
      by (Some r) h = refl

  -- what has no looks no rule assigns
  unruled_by : (c : CellName) → All (IsRuled model) shape.assigned → (o : Option Assignment) → find (Named c) shape.assigned ≡ o
      → node_looks model shape (Measure c) ≡ None → rule_at shape (Measure c) ≡ None
  unruled_by c ruled None e h = ap (λ (o : Option Assignment). option_map (λ a. a.2) o) e
  unruled_by c ruled (Some a) e h = absurd (by (slice_get model.part.rules (a.2 - 1)) (found_has (IsRuled model) (Named c) shape.assigned (each_in (IsRuled model) shape.assigned ruled) a e).0.1 (sym rule ∙ h))
    where
      rule : node_looks model shape (Measure c) ≡ option_map (λ (rule : Rule). looks_of (site_in model shape 0 c.key) rule.right) (slice_get model.part.rules (a.2 - 1))
      rule = ap (λ (o : Option Assignment). option_map (λ (rule : Rule). looks_of (site_in model shape 0 c.key) rule.right)
          (option_and_then (λ number. slice_get model.part.rules (number - 1)) (option_map (λ b. b.2) o))) e

      by : (o : Option Rule) → IsSome o → option_map (λ (rule : Rule). looks_of (site_in model shape 0 c.key) rule.right) o ≡ None → ⊥
      by None h k = cc
      by (Some r) h k = cc

  pub unruled : All (IsRuled model) shape.assigned → (c : CellName) → node_looks model shape (Measure c) ≡ None → rule_at shape (Measure c) ≡ None
  unruled ruled c h = unruled_by c ruled (find (Named c) shape.assigned) refl h

  -- the rounds level every node
  levelled_by : (rounds : List (List ℕ)) → AreRoundsOf model shape rounds → (c : CellName) → (o : Option Assignment) → find (Named c) shape.assigned ≡ o
      → levelled (node_looks model shape) (length rounds) (Measure c) ≡ true
  levelled_by rounds are c None e = unassigned_levelled model shape (length rounds) (Measure c) (rw e refl)
  levelled_by rounds are c (Some a) e =
      let n = length rounds in
      let found = found_has (λ (a : Assignment). is_levelled model shape n a ≡ true) (Named c) shape.assigned
      (each_in (λ (a : Assignment). is_levelled model shape n a ≡ true) shape.assigned are.complete) a e in
      ap (levelled (node_looks model shape) n) (same_node c a found.1) ∙ found.0
    where
      same_node : (c : CellName) (a : Assignment) → assigns c.measure c.key a ≡ true → Measure c ≡ node_of a
      same_node c a h = ap Measure (named_same c (record { key = a.0; measure = a.1 }) h)

  pub rounds_level : (rounds : List (List ℕ)) → AreRoundsOf model shape rounds → (t : Look)
      → levelled (node_looks model shape) (length rounds) t ≡ true
  rounds_level rounds are (Measure c) = levelled_by rounds are c (find (Named c) shape.assigned) refl
  rounds_level rounds are (Presence key) = unassigned_levelled model shape (length rounds) (Presence key) refl

-- of a measure that no rule of the new shape assigns
module _ (model : Model) (old new : PartShape) (moved : List CellName) where
  outside_by_is : (c : CellName) (was now : Option ℕ) → now ≡ None → outside_by old new moved c was now ≡ told_by model old new moved c was now
  outside_by_is c None None e = refl
  outside_by_is c (Some a) None e = refl
  outside_by_is c was (Some b) e = cc

  pub outside_is : All (IsRuled model) new.assigned → (t : Look) → node_looks model new t ≡ None → is_told_outside old new moved t ≡ is_told model old new moved t
  outside_is ruled (Presence key) e = refl
  outside_is ruled (Measure c) e =
      ap (λ b. is_in_one old.cells new.cells c.key || b) (outside_by_is c (rule_at old (Measure c)) (rule_at new (Measure c)) (unruled model new ruled c e))

  told_more : (c : CellName) (b : Bool) (was now : Option ℕ) → (b || outside_by old new moved c was now) ≡ true → (b || told_by model old new moved c was now) ≡ true
  told_more c true was now h = refl
  told_more c false was (Some n) h = cc
  told_more c false None None h = h
  told_more c false (Some a) None h = refl

  pub outside_told : (t : Look) → is_told_outside old new moved t ≡ true → is_told model old new moved t ≡ true
  outside_told (Presence key) h = h
  outside_told (Measure c) h = told_more c (is_in_one old.cells new.cells c.key) (rule_at old (Measure c)) (rule_at new (Measure c)) h

-- a course of the new shape makes solid ground
pub solid : (model : Model) (old new : PartShape) (moved : List CellName) (course : Course) → IsCourse model new course
    → IsSolid (record { model = model; shape = new; told = is_told model old new moved; outside = is_told_outside old new moved })
solid model old new moved course is = record {
  own = is.own;
  ruled = is.ruled;
  levelled_all = λ t. enough_rounds model new (length course.rounds) t (rounds_level model new course.rounds is.rounds t);
  outside_is = outside_is model old new moved is.ruled;
  outside_told = outside_told model old new moved;
}

module _ (g : Ground) (solid : IsSolid g) where
  abbrev looks : Look → Option (List Look)
  looks = node_looks g.model g.shape

  -- what the change reaches begins it or looks at what it reaches
  pub goes : (t : Look) → reached_on g t ≡ (g.told t || some_look (reached_on g) (node_looks g.model g.shape t))
  goes t =
      let count = round_count g.shape in
      reached_alike looks g.told count (suc count) t (solid.levelled_all t)
      (levelled_stays looks count (suc count) (omega arith) t (solid.levelled_all t))

  pub told_reached : (t : Look) → g.told t ≡ true → reached_on g t ≡ true
  told_reached t h = seeds_affected looks g.told (round_count g.shape) t h

  -- of a look that no rule assigns it is known whether the change reaches it
  pub outside_reached : (t : Look) → node_looks g.model g.shape t ≡ None → g.outside t ≡ reached_on g t
  outside_reached t e = solid.outside_is t e ∙ sym (unassigned_reached looks g.told (round_count g.shape) t e)
