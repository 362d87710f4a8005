-- The rules one after another, and the versions that they make.
use Rattle.std.proofs.Common.{◌≡◌, ℕ, ◌+◌, ◌<◌, Bool, true, false, ◌||◌, List, [], ◌∷◌, ◌++◌, length, map, Option, Some, None, Result, Ok, Err, refl, sym, ap, ◌∙◌}
use Rattle.std.specs.Prelude.{nat_lt, if◌then◌else◌}
use Rattle.std.specs.List.{enumerate_from, flat_map}
use Rattle.std.specs.List.Sorted.{IsStrictlySortedBy}
use Rattle.std.specs.Map.{keys_of}
use Rattle.std.specs.Option.{option_and_then, option_map, option_map_or, option_or}
use Rattle.mq_values.specs.Order.{cmp_key}
use Rattle.mq_values.specs.declared.faults.FaultKind.{FaultKind}
use Rattle.mq_values.specs.declared.faults.FaultKind.TheVariants as kind
use Rattle.mq_values.specs.declared.limits.TheConstants.{MAX_CELLS_OF_PARTITION}
use Rattle.mq_values.specs.declared.value.Value.{Value}
use Rattle.mq_ir.specs.declared.query.Iterate.{Iterate}
use Rattle.mq_ir.specs.declared.query.OutCell.{OutCell}
use Rattle.mq_ir.specs.declared.query.PartInput.{PartInput}
use Rattle.mq_ir.specs.declared.query.Rule.{Rule}
use Rattle.mq_ir.specs.declared.query.SingleLeft.{SingleLeft}
use Rattle.mq_ir.specs.declared.query.Slot.{Slot}
use Rattle.mq_ir.specs.declared.query.Slot.TheVariants.{Done}
use Rattle.mq_ir.specs.EachLaws.{Each, each_append, each_in}
use Rattle.mq_ir.specs.Expression.{Outcome}
use Rattle.mq_ir.specs.Histories.{first_own_fault, given_slots, history_fault, last_cell, last_set, last_slots, last_versions, slots_after, slots_from, version_slot, with_slot}
use Rattle.mq_ir.specs.Iteration.{input_fault, is_last, out_cell, part_result, turn_count, turns_from, until_holds}
use Rattle.mq_ir.specs.Keys.{Tuple, is_among, is_same}
use Rattle.mq_ir.specs.Partitions.{Cells}
use Rattle.mq_ir.specs.Placed.{Placed, placed_fault, value_fault}
use Rattle.mq_ir.specs.Reads.{Site, measure_at, right_value}
use Rattle.mq_ir.specs.Results.{◌>>=◌, each_in_turn, marked}
use Rattle.mq_ir.specs.Sequential.{Act, Standing, assigned, left_fault, left_step, site_of, target_step, turn_step, with_created}
use Rattle.mq_ir.specs.Slots.{Slots, slot_of}
use Rattle.mq_ir.specs.Targets.{targets}
use Rattle.mq_ir.specs.Unfolding.{Model, unfold_rule}
use Rattle.mq_ir.specs.Versions.{LeftAct, LeftAt, LeftWalk, Version, act_fault, act_of, act_versions, all_lefts, ended_by, left_at, left_walk, lefts_of_rule, lefts_or_fault, version_of, versions, walk_from}
use Rattle.mq_version_laws.specs.RunLaws.{IsPlain, RunIsVersions}
use Rattle.mq_version_laws.proofs.FlatLemmas.{act_over, acted, turn_run}
use Rattle.mq_version_laws.proofs.StandLemmas.{Stands, cell_in, cells_are, created_new, slot_is_outcome, stands_assigned, stands_created, targets_there}

-- the targets so far, the latest first
abbrev targets_after : List Tuple → List Version → List Tuple
targets_after updated [] = updated
targets_after updated (v ∷ vs) = targets_after (v.key ∷ updated) vs

module _ (model : Model) (keys : List Tuple) where
  -- what versions come to over slots, where the walk ends so
  abbrev ended : List Tuple → Option Placed → List Version → Slots → List Tuple → Result Standing Placed
  ended set fault vs slots updated =
      option_map_or Err (option_or (first_own_fault (slots_from model keys vs slots)) fault)
      (Ok (record { cells = map (cell_in model (slots_after model keys vs slots)) set; updated = targets_after updated vs }))

  module _ (at : LeftAt) (bound : at.rule.measure < length model.part.measures) (set : List Tuple) where
    abbrev act : Act
    act = act_over model keys at.number at.rule

    abbrev version : Tuple → Version
    version = version_of at.number at.place at.rule set

    module _ (last : List Tuple) (fault : Option Placed) (rest : List Version) (go : Standing → Result Standing Placed)
        (goes : (s : Standing) (slots : Slots) → Stands model set slots s.cells → go s ≡ ended last fault rest slots s.updated) where
      -- one target and those behind it
      targets_run : (ts : List Tuple) → Each (λ t. is_among set t ≡ true) ts → (s : Standing) (slots : Slots)
          → Stands model set slots s.cells
          → (each_in_turn (target_step act) ts s >>= go) ≡ ended last fault (map version ts ++ rest) slots s.updated
      targets_run [] there s slots stands = goes s slots stands
      targets_run (t ∷ ts) there s slots stands =
          by (right_value site keys (measure_at s.cells) at.rule) refl (targets_run ts there.1)
        where
          site : Site
          site = site_of act (keys_of s.cells) t

          after : Value → Standing
          after v = record { cells = assigned s.cells t at.rule.measure v; updated = t ∷ s.updated }

          slot_is : (o : Outcome) → right_value site keys (measure_at s.cells) at.rule ≡ o
              → version_slot model keys (version t) slots ≡ slot_of o
          slot_is o e = slot_is_outcome model keys set slots s.cells stands (version t) refl ∙ ap slot_of e

          -- what stands behind this version with its slot
          behind : Slot → Result Standing Placed
          behind slot =
              option_map_or Err
              (option_or (first_own_fault ((version t, slot) ∷ slots_from model keys (map version ts ++ rest) (with_slot slots (version t) slot))) fault)
              (Ok (record {
                cells = map (cell_in model (slots_after model keys (map version ts ++ rest) (with_slot slots (version t) slot))) last;
                updated = targets_after (t ∷ s.updated) (map version ts ++ rest);
              }))

          by : (o : Outcome) → right_value site keys (measure_at s.cells) at.rule ≡ o
              → ((s : Standing) (slots : Slots) → Stands model set slots s.cells
              → (each_in_turn (target_step act) ts s >>= go) ≡ ended last fault (map version ts ++ rest) slots s.updated)
              → (target_step act t s >>= each_in_turn (target_step act) ts >>= go) ≡ behind (version_slot model keys (version t) slots)
          by (Ok v) e more =
              ap (λ o. marked (value_fault at.number t) o >>= (λ v. Ok (after v)) >>= each_in_turn (target_step act) ts >>= go) e
              ∙ more (after v) (with_slot slots (version t) (Done v))
              (stands_assigned model keys set slots s.cells stands (version t) v bound there.0)
              ∙ ap behind (sym (slot_is (Ok v) e))
          by (Err f) e more =
              ap (λ o. marked (value_fault at.number t) o >>= (λ v. Ok (after v)) >>= each_in_turn (target_step act) ts >>= go) e
              ∙ ap behind (sym (slot_is (Err f) e))

  -- a measure that the model has
  abbrev Bound : Result LeftAt Placed → Type 0
  Bound (Ok at) = at.rule.measure < length model.part.measures
  Bound (Err fault) = Unit {0}

  -- what the walk over left sides comes to
  abbrev walked : List Tuple → LeftWalk → Slots → List Tuple → Result Standing Placed
  walked set w slots updated = ended (last_set set w.acts) w.fault (flat_map act_versions w.acts) slots updated

  lefts_run : (lefts : List (Result LeftAt Placed)) → Each Bound lefts → (set : List Tuple) (slots : Slots) (s : Standing)
      → Stands model set slots s.cells
      → each_in_turn (acted model keys) lefts s ≡ walked set (walk_from model lefts set) slots s.updated
  lefts_run [] bound set slots s stands =
      λ i. Ok (record { cells = sym (cells_are model set slots s.cells stands) i; updated = s.updated })
  lefts_run (Err fault ∷ rest) bound set slots s stands = refl
  lefts_run (Ok at ∷ rest) bound set slots s stands =
      ap (λ o. o >>= each_in_turn (acted model keys) rest) left_is ∙ by (act_fault model act) (λ t slots h. lefts_run rest bound.1 act.set slots t h)
    where
      act : LeftAct
      act = act_of at set

      rule : Act
      rule = act_over model keys at.number at.rule

      later : LeftWalk
      later = walk_from model rest act.set

      begun : Standing
      begun = record s { cells = with_created model s.cells act.created }

      grown : Stands model act.set slots begun.cells
      grown = stands_created model keys set slots s.cells stands act.created (created_new at set)

      left_is : left_step rule at.left s ≡ option_map_or Err (act_fault model act) (each_in_turn (target_step rule) act.targets begun)
      left_is =
          ap (λ ks.
          option_map_or Err
          (left_fault rule at.left (keys_of (with_created model s.cells (targets at.left at.rule.mode ks).created)) (targets at.left at.rule.mode ks).cells)
          (each_in_turn (target_step rule) (targets at.left at.rule.mode ks).cells (record s { cells = with_created model s.cells (targets at.left at.rule.mode ks).created })))
          stands.keys
          ∙ ap (λ ks. option_map_or Err (left_fault rule at.left ks act.targets) (each_in_turn (target_step rule) act.targets begun)) grown.keys

      by : (o : Option Placed)
          → ((t : Standing) (slots : Slots) → Stands model act.set slots t.cells → each_in_turn (acted model keys) rest t ≡ walked act.set later slots t.updated)
          → (option_map_or Err o (each_in_turn (target_step rule) act.targets begun) >>= each_in_turn (acted model keys) rest)
          ≡ walked set (option_map_or ended_by o (record { acts = act ∷ later.acts; fault = later.fault })) slots s.updated
      by (Some fault) more = refl
      by None more =
          targets_run at bound.0 act.set (last_set act.set later.acts) later.fault (flat_map act_versions later.acts) (each_in_turn (acted model keys) rest) more
          act.targets (targets_there at set) begun slots grown

  bound_lefts : (number : ℕ) (rule : Rule) → rule.measure < length model.part.measures → (r : Result (List SingleLeft) FaultKind)
      → Each Bound (lefts_or_fault number rule r)
  bound_lefts number rule h (Ok lefts) = counted 0 lefts
    where
      counted : (n : ℕ) (lefts : List SingleLeft) → Each Bound (map (left_at number rule) (enumerate_from n lefts))
      counted n [] = tt
      counted n (l ∷ ls) = (h, counted (n + 1) ls)
  bound_lefts number rule h (Err kind) = (tt, tt)

  bound_rules : (n : ℕ) (rules : List Rule) → Each (λ rule. rule.measure < length model.part.measures) rules
      → Each Bound (flat_map (lefts_of_rule model) (enumerate_from n rules))
  bound_rules n [] a = tt
  bound_rules n (rule ∷ rules) a =
      each_append Bound (lefts_of_rule model (n, rule)) (flat_map (lefts_of_rule model) (enumerate_from (n + 1) rules))
      (bound_lefts n rule a.0 (unfold_rule model rule 0)) (bound_rules (n + 1) rules a.1)

-- a key is among the targets so far exactly where some version has it
among_after : (vs : List Version) (updated : List Tuple) (q : Tuple)
    → is_among (targets_after updated vs) q ≡ (is_among (map (λ v. v.key) vs) q || is_among updated q)
among_after [] updated q = refl
among_after (v ∷ vs) updated q = among_after vs (v.key ∷ updated) q ∙ moved (is_among (map (λ v. v.key) vs) q) (is_same q v.key) (is_among updated q)
  where
    moved : (a b c : Bool) → (a || (b || c)) ≡ ((b || a) || c)
    moved true true c = refl
    moved true false c = refl
    moved false true c = refl
    moved false false c = refl

or_nothing : (b : Bool) → (b || false) ≡ b
or_nothing true = refl
or_nothing false = refl

last_rows : (model : Model) (vs : List Version) (slots : Slots) (set : List Tuple)
    → map (out_cell (targets_after [] vs)) (map (cell_in model slots) set) ≡ map (last_cell model vs slots) set
last_rows model vs slots [] = refl
last_rows model vs slots (key ∷ set) =
    let marked : is_among (targets_after [] vs) key ≡ is_among (map (λ v. v.key) vs) key = among_after vs [] key ∙ or_nothing (is_among (map (λ v. v.key) vs) key) in
    let rest = last_rows model vs slots set in
    λ i. record (last_cell model vs slots key) { updated = marked i } ∷ rest i

module _ (model : Model) (p : PartInput) (plain : IsPlain model p) where
  abbrev keys : List Tuple
  keys = keys_of p.cells

  abbrev begun : Standing
  begun = record { cells = p.cells; updated = [] }

  first_turn : IsStrictlySortedBy cmp_key keys
      → turn_step model keys 0 begun ≡ walked model keys keys (left_walk model keys) (given_slots p.cells) []
  first_turn ascend =
      turn_run model keys begun
      ∙ lefts_run model keys (all_lefts model) (bound_rules model keys 1 model.part.rules (each_in _ model.part.rules plain.bound)) keys (given_slots p.cells) begun
      (record { keys = refl; ascend = ascend; wide = each_in _ p.cells plain.wide; worth = refl })

  one_turn : turns_from model keys 0 (turn_count model) begun ≡ turn_step model keys 0 begun
  one_turn =
      ap (λ o. turns_from model keys 0 (option_map_or (λ (iterate : Iterate). iterate.turns) o 1) begun) plain.once
      ∙ by (turn_step model keys 0 begun)
    where
      no_more : (next : Standing) → is_last model keys 0 begun.cells next.cells ≡ Ok false
      no_more next = ap (λ o. option_map_or (until_holds model keys 0 begun.cells next.cells) (option_and_then (λ (iterate : Iterate). iterate.until) o) (Ok false)) plain.once

      by : (r : Result Standing Placed)
          → (r >>= (λ next. is_last model keys 0 begun.cells next.cells >>= (λ last. elim last [ true ↦ Ok next | false ↦ turns_from model keys (0 + 1) 0 next ]))) ≡ r
      by (Err fault) = refl
      by (Ok next) = ap (λ o. o >>= (λ last. elim last [ true ↦ Ok next | false ↦ turns_from model keys (0 + 1) 0 next ])) (no_more next)

  abbrev rows_of : Standing → Result (List OutCell) Placed
  rows_of s = Ok (map (out_cell s.updated) s.cells)

  abbrev stood : Cells → List Tuple → Standing
  stood cells updated = record { cells = cells; updated = updated }

  rows_are : (o : Option Placed) (cells : Cells) (rows : List OutCell) (updated : List Tuple) → map (out_cell updated) cells ≡ rows
      → (option_map_or Err o (Ok (stood cells updated)) >>= rows_of) ≡ option_map_or Err o (Ok rows)
  rows_are None cells rows updated h = ap Ok h
  rows_are (Some fault) cells rows updated h = refl

  last_are : IsStrictlySortedBy cmp_key keys → (turns_from model keys 0 (turn_count model) begun >>= rows_of) ≡ last_versions model p.cells
  last_are ascend =
      let vs = versions model keys in
      let slots = last_slots model p.cells in
      ap (λ o. o >>= rows_of) (one_turn ∙ first_turn ascend)
      ∙ rows_are (history_fault model p.cells) (map (cell_in model slots) (last_set keys (left_walk model keys).acts))
      (map (last_cell model vs slots) (last_set keys (left_walk model keys).acts)) (targets_after [] vs)
      (last_rows model vs slots (last_set keys (left_walk model keys).acts))

  cells_by : (o : Option Placed) → input_fault p ≡ o
      → (option_map_or Err o (turns_from model keys 0 (turn_count model) begun) >>= rows_of)
      ≡ option_map_or Err o (last_versions model p.cells)
  cells_by (Some fault) e = refl
  cells_by None e = last_are (plain.ascend (none_twice p.repeated e))
    where
      none_twice : (o : Option Tuple) → option_or (option_map (λ key. placed_fault 0 key kind.NotUnique) o)
          (if nat_lt MAX_CELLS_OF_PARTITION (length p.cells) then Some (placed_fault 0 [] kind.TooManyCells) else None) ≡ None → o ≡ None
      none_twice None h = refl
      none_twice (Some key) h = cc

pub run_is_versions : (model : Model) (p : PartInput) → RunIsVersions model p
run_is_versions model p plain = ap (part_result p.key) (cells_by model p plain (input_fault p) refl)
