-- One single left side: what it creates, and whether its targets may be assigned.
use Rattle.std.proofs.Common.{◌≡◌, List, Some, None, Err, sym, ap, ◌∙◌}
use Rattle.std.specs.Map.{keys_of}
use Rattle.std.specs.Option.{option_map_or}
use Rattle.mq_ir.specs.declared.query.SingleLeft.{SingleLeft}
use Rattle.mq_ir.specs.Keys.{Tuple}
use Rattle.mq_ir.specs.Placed.{Placed}
use Rattle.mq_ir.specs.Results.{each_in_turn}
use Rattle.mq_ir.specs.Sequential.{Act, left_fault}
use Rattle.mq_ir.specs.Targets.{Targets, targets}
use Rattle.mq_seq.specs.Steps.{State, created_in, left_done, target_done}

module _ (act : List Tuple → Act) (left : SingleLeft) (s : State) where
  -- the targets, and the cells with those that are created
  abbrev found : Targets
  found = targets left (act s.input).rule.mode (keys_of s.track.cells)

  abbrev there : State
  there = created_in found.created s

  module _ (cells created : List Tuple) (now : State) (c : cells ≡ found.cells) (d : created ≡ found.created) (n : now ≡ created_in created s) where
    same : now ≡ there
    same = n ∙ ap (λ l. created_in l s) d

    judged : left_fault (act s.input) left (keys_of there.track.cells) found.cells ≡ left_fault (act now.input) left (keys_of now.track.cells) cells
    judged = λ i. left_fault (act (sym same i).input) left (keys_of (sym same i).track.cells) (sym c i)

    pub left_fails : (fault : Placed) → Some fault ≡ left_fault (act now.input) left (keys_of now.track.cells) cells → left_done act left s ≡ Err fault
    left_fails fault h = ap (λ o. option_map_or Err o (each_in_turn (target_done act) found.cells there)) (judged ∙ sym h)

    pub left_passes : None ≡ left_fault (act now.input) left (keys_of now.track.cells) cells → each_in_turn (target_done act) cells now ≡ left_done act left s
    left_passes h = (λ i. each_in_turn (target_done act) (c i) (same i)) ∙ sym (ap (λ o. option_map_or Err o (each_in_turn (target_done act) found.cells there)) (judged ∙ sym h))
