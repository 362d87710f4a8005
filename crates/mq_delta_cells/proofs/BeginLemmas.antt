-- A walk begins right: what the change does not reach has its new slot already.
use Rattle.std.proofs.Common.{◌≡◌, ℕ, ◌+◌, ◌-◌, ◌≤◌, Bool, true, false, ◌&&◌, ◌||◌, not, cond, List, [], ◌∷◌, Option, Some, None, refl, sym, ap, subst, ◌∙◌}
use Rattle.std.specs.Prelude.{is_some, if◌then◌else◌, slice_get}
use Rattle.std.specs.List.{All, find, list_any}
use Rattle.std.specs.Map.{keys_of}
use Rattle.std.specs.Option.{option_and_then, option_map}
use Rattle.mq_ir.specs.declared.query.CellName.{CellName}
use Rattle.mq_ir.specs.declared.query.Look.{Look}
use Rattle.mq_ir.specs.declared.query.Look.TheVariants.{Measure}
use Rattle.mq_ir.specs.declared.query.PartShape.{PartShape}
use Rattle.mq_ir.specs.declared.query.Rule.{Rule}
use Rattle.mq_ir.specs.Affected.{Side}
use Rattle.mq_ir.specs.Automatic.{node_looks, round_count, rule_at, slots_in}
use Rattle.mq_ir.specs.Keys.{Tuple}
use Rattle.mq_ir.specs.Affected.{is_in_one}
use Rattle.mq_ir.specs.Looks.{looks_of}
use Rattle.mq_ir.specs.RoundLaws.{seeds_affected}
use Rattle.mq_ir.specs.Partitions.{Cells}
use Rattle.mq_ir.specs.Shape.{Assignment, assigns}
use Rattle.mq_ir.specs.Slots.{site_in}
use Rattle.mq_ir.specs.Unfolding.{Model}
use Rattle.mq_cells.specs.Stores.{CellInput, Results, is_named, name_assigned}
use Rattle.mq_change_laws.specs.ChangeLaws.{ResultStays}
use Rattle.mq_change_laws.specs.Sides.{IsShaped}
use Rattle.mq_auto.specs.Meaning.{result_at}
use Rattle.mq_auto_shape.specs.Found.{IsRuled}
use Rattle.mq_delta_cells.specs.Bounds.{most_reads}
use Rattle.mq_delta_cells.specs.Changes.{IsChange, reaches, side_of}
use Rattle.mq_delta_cells.specs.Tables.{HasRulesOf, Table, is_in_table}
use Rattle.mq_delta_cells.specs.Seeds.{has_vanished, is_gone, is_gone_at, is_told, told_by}
use Rattle.mq_delta_cells.specs.Walks.{BeginsRight, Ground, ground_for, reached_on}
use Rattle.mq_delta_cells.proofs.GroundLemmas.{unruled}
use Rattle.mq_delta_cells.proofs.NodeLemmas.{named_same, named_turned}
use Rattle.mq_delta_cells.proofs.SeedLemmas.{ShapesAreSound, reaches_is}

-- the contract of `results_stay`
abbrev pub ResultsStay : Type 0
ResultsStay = (model : Model) (old new : Side) (c : CellName) → ResultStays model old new c

-- ---- what is gone
any_and : {A : Type 0} (p : A → Bool) (k : Bool) (xs : List A) → list_any (λ x. p x && k) xs ≡ (list_any p xs && k)
any_and p true [] = refl
any_and p false [] = refl
any_and p k (x ∷ xs) = ap (λ b. (p x && k) || b) (any_and p k xs) ∙ by (p x) (list_any p xs) k
  where
    by : (a b k : Bool) → ((a && k) || (b && k)) ≡ ((a || b) && k)
    by true true true = refl
    by true true false = refl
    by true false true = refl
    by true false false = refl
    by false b k = refl

any_same : {A : Type 0} (p q : A → Bool) → ((x : A) → p x ≡ q x) → (xs : List A) → list_any p xs ≡ list_any q xs
any_same p q h [] = refl
any_same p q h (x ∷ xs) = λ i. h x i || any_same p q h xs i

found_some : {A B : Type 0} (f : A → B) (p : A → Bool) (xs : List A) → list_any p xs ≡ is_some (option_map f (find p xs))
found_some f p [] = refl
found_some f p (x ∷ xs) = by (p x) (found_some f p xs)
  where
    by : (b : Bool) → list_any p xs ≡ is_some (option_map f (find p xs)) → (b || list_any p xs) ≡ is_some (option_map f (cond b (Some x) (find p xs)))
    by true h = refl
    by false h = h

gone_at : (keys : List Tuple) (rules : Table) (c : CellName) (a : Assignment) → is_gone_at keys rules c a ≡ (assigns c.measure c.key a && not (is_in_table keys rules c))
gone_at keys rules c a = by (is_named (name_assigned a) c) refl
  where
    by : (b : Bool) → is_named (name_assigned a) c ≡ b → is_gone_at keys rules c a ≡ (assigns c.measure c.key a && not (is_in_table keys rules c))
    by true e =
        (λ i. e i && not (is_in_table keys rules (named_same (name_assigned a) c e i)))
        ∙ ap (λ b. b && not (is_in_table keys rules c)) (sym e ∙ named_turned (name_assigned a) c)
    by false e =
        ap (λ b. b && not (is_in_table keys rules (name_assigned a))) e ∙ ap (λ b. b && not (is_in_table keys rules c)) (sym e ∙ named_turned (name_assigned a) c)

pub gone_is : (old new : PartShape) (keys : List Tuple) (rules : Table) → HasRulesOf new keys rules → (c : CellName) → is_gone old.assigned keys rules c ≡ has_vanished old new c
gone_is old new keys rules has c =
    any_same (is_gone_at keys rules c) (λ a. assigns c.measure c.key a && not (is_in_table keys rules c)) (gone_at keys rules c) old.assigned
    ∙ any_and (assigns c.measure c.key) (not (is_in_table keys rules c)) old.assigned
    ∙ (λ i. found_some (λ (a : Assignment). a.2) (assigns c.measure c.key) old.assigned i && not (is_some (has c i)))

-- of one shape nothing vanishes
pub none_vanished : (old new : PartShape) → old ≡ new → (c : CellName) → has_vanished old new c ≡ false
none_vanished old new e c = ap (λ (s : PartShape). has_vanished s new c) e ∙ by (is_some (rule_at new (Measure c)))
  where
    by : (b : Bool) → (b && not b) ≡ false
    by true = refl
    by false = refl

pub none_gone : (old new : PartShape) → old ≡ new → (results : Results) → (c : CellName)
    → results c ≡ (if has_vanished old new c then None else results c)
none_gone old new e results c = sym (ap (λ b. if b then None else results c) (none_vanished old new e c))

module _ (model : Model) (shape : PartShape) where
  no_looks : (c : CellName) → rule_at shape (Measure c) ≡ None → node_looks model shape (Measure c) ≡ None
  no_looks c e =
      ap (λ o. option_map (λ (rule : Rule). looks_of (site_in model shape 0 c.key) rule.right) (option_and_then (λ number. slice_get model.part.rules (number - 1)) o)) e

  none_stands : (input : Cells) (c : CellName) → rule_at shape (Measure c) ≡ None → result_at model shape input c ≡ None
  none_stands input c e = ap (option_map (λ looks. slots_in model shape input c)) (no_looks c e)

not_some : (o : Option ℕ) → is_some o ≡ false → o ≡ None
not_some None h = refl
not_some (Some n) h = cc

module _ (model : Model) (old new : PartShape) (moved : List CellName) (before after : Cells) (given : CellInput) (results : Results) (keys : List Tuple)
    (sound : ShapesAreSound) (stays : ResultsStay) (shaped : IsShaped model (side_of new after)) (ruled : All (IsRuled model) new.assigned)
    (change : IsChange model old keys moved before after given results) where
  abbrev ground : Ground
  ground = ground_for model old new moved

  -- what the walk reaches is what is affected
  pub reached_is : reached_on ground ≡ reaches model old new before after
  reached_is =
      reaches_is model old new before after moved (sound model (keys_of before) old change.shaped.keys change.shaped.shape)
      (sound model (keys_of after) new shaped.keys shaped.shape) change.moved_are

  -- what vanished begins the change
  vanished_told : (c : CellName) (b : Bool) (was now : Option ℕ) → (is_some was && not (is_some now)) ≡ true → (b || told_by model old new moved c was now) ≡ true
  vanished_told c b None now h = cc
  vanished_told c b (Some a) (Some n) h = cc
  vanished_told c true (Some a) None h = refl
  vanished_told c false (Some a) None h = refl

  -- what the change does not reach has not vanished
  pub unreached_there : (c : CellName) → reached_on ground (Measure c) ≡ false → has_vanished old new c ≡ false
  unreached_there c h = by (has_vanished old new c) refl
    where
      by : (b : Bool) → has_vanished old new c ≡ b → b ≡ false
      by true e =
          let told = vanished_told c (is_in_one old.cells new.cells c.key) (rule_at old (Measure c)) (rule_at new (Measure c)) e in
          let k : true ≡ false = sym (seeds_affected (node_looks model new) (is_told model old new moved) (round_count new) (Measure c) told) ∙ h in cc
      by false e = refl

  pub begins_right : (now : Results) → ((c : CellName) → now c ≡ (if has_vanished old new c then None else results c)) → BeginsRight ground after now
  begins_right now cleared = record {
    unreached = λ c h. unreached_by c h (has_vanished old new c) refl;
    unruled = λ c h. unruled_by c (unruled model new ruled c h) (rule_at old (Measure c)) refl;
  }
    where
      gone_rule : (a b : Bool) → (a && not b) ≡ true → b ≡ false
      gone_rule true true h = cc
      gone_rule true false h = refl
      gone_rule false b h = cc

      unreached_by : (c : CellName) → reached_on ground (Measure c) ≡ false → (b : Bool) → has_vanished old new c ≡ b → now c ≡ result_at model new after c
      unreached_by c h true e =
          let none : rule_at new (Measure c) ≡ None =
          not_some (rule_at new (Measure c)) (gone_rule (is_some (rule_at old (Measure c))) (is_some (rule_at new (Measure c))) e) in
          cleared c ∙ ap (λ b. if b then None else results c) e ∙ sym (none_stands model new after c none)
      unreached_by c h false e =
          cleared c ∙ ap (λ b. if b then None else results c) e ∙ change.held c
          ∙ sym (stays model (side_of old before) (side_of new after) c change.shaped shaped (ap (λ (r : Look → Bool). r (Measure c)) (sym reached_is) ∙ h))

      unruled_by : (c : CellName) → rule_at new (Measure c) ≡ None → (o : Option ℕ) → rule_at old (Measure c) ≡ o → now c ≡ None
      unruled_by c none (Some n) e = cleared c ∙ (λ i. if is_some (e i) && not (is_some (none i)) then None else results c)
      unruled_by c none None e =
          cleared c ∙ (λ i. if is_some (e i) && not (is_some (none i)) then None else results c) ∙ change.held c ∙ none_stands model old before c e

-- where the old shape and what moved are known by others that are the same
module _ (model : Model) (old old' new : PartShape) (moved moved' : List CellName) (before after : Cells) (given : CellInput) (results : Results) (keys : List Tuple)
    (sound : ShapesAreSound) (stays : ResultsStay) (shaped : IsShaped model (side_of new after)) (ruled : All (IsRuled model) new.assigned)
    (eo : old' ≡ old) (em : moved' ≡ moved) (change : IsChange model old keys moved before after given results) where
  other : IsChange model old' keys moved' before after given results
  other =
      subst (λ (m : List CellName). IsChange model old' keys m before after given results) (sym em)
      (subst (λ (s : PartShape). IsChange model s keys moved before after given results) (sym eo) change)

  pub end_begins : (now : Results) → ((c : CellName) → now c ≡ (if has_vanished old' new c then None else results c))
      → BeginsRight (ground_for model old' new moved') after now
  end_begins = begins_right model old' new moved' before after given results keys sound stays shaped ruled other

  pub end_reached : reached_on (ground_for model old' new moved') ≡ reaches model old new before after
  end_reached =
      reached_is model old' new moved' before after given results keys sound stays shaped ruled other
      ∙ ap (λ (s : PartShape). reaches model s new before after) eo

  pub end_unaffected : (mid now : Results) → ((c : CellName) → mid c ≡ (if has_vanished old' new c then None else results c))
      → ((c : CellName) → reached_on (ground_for model old' new moved') (Measure c) ≡ false → now c ≡ mid c)
      → (c : CellName) → reaches model old new before after (Measure c) ≡ false → now c ≡ results c
  end_unaffected mid now cleared walked c h =
      let unreached : reached_on (ground_for model old' new moved') (Measure c) ≡ false = ap (λ (r : Look → Bool). r (Measure c)) end_reached ∙ h in
      walked c unreached ∙ cleared c
      ∙ ap (λ b. if b then None else results c) (unreached_there model old' new moved' before after given results keys sound stays shaped ruled other c unreached)

  pub end_reads : (start now : ℕ) → now ≤ start + most_reads model new (reached_on (ground_for model old' new moved'))
      → now ≤ start + most_reads model new (reaches model old new before after)
  end_reads start now h = subst (λ (r : Look → Bool). now ≤ start + most_reads model new r) end_reached h
