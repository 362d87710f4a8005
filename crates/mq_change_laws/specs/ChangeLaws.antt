-- What holds between an old and a new input of a partition.
use Rattle.std.specs.Prelude.{◌≡◌, ◌↔◌, ℕ, true, false, ◌||◌, not, List, Some, None}
use Rattle.std.specs.List.Sorted.{IsStrictlySortedBy}
use Rattle.mq_values.specs.Order.{cmp_key}
use Rattle.mq_ir.specs.declared.query.CellName.{CellName}
use Rattle.mq_ir.specs.declared.query.Look.{Look}
use Rattle.mq_ir.specs.declared.query.Look.TheVariants.{Measure}
use Rattle.mq_ir.specs.declared.query.Slot.{Slot}
use Rattle.mq_ir.specs.Affected.{Side, are_same_looks, is_affected, is_seed, looks_or_none}
use Rattle.mq_ir.specs.Automatic.{cycle_in, node_looks, node_step, rule_at, slots_in}
use Rattle.mq_ir.specs.Rounds.{some_look}
use Rattle.mq_ir.specs.Unfolding.{Model}
use Rattle.mq_change_laws.specs.Sides.{IsShaped, is_levelled_in, result_in}

-- Two lists of looks are found to be the same exactly where they are one list.
abbrev pub SameLooksAreOne : List Look → List Look → Type 0
SameLooksAreOne a b = (are_same_looks a b ≡ true) ↔ (a ≡ b)

-- A measure that one rule assigns in both shapes is a seed exactly where its lists of looks differ. That its cell is in both
-- sets, which is asked for first, always holds of it.
abbrev pub OtherLooksAreSeeds : Model → Side → Side → CellName → ℕ → Type 0
OtherLooksAreSeeds model old new c number =
    IsShaped model old → IsShaped model new → rule_at old.shape (Measure c) ≡ Some number → rule_at new.shape (Measure c) ≡ Some number
    → is_seed model old new (Measure c)
    ≡ not (are_same_looks (looks_or_none (node_looks model old.shape (Measure c))) (looks_or_none (node_looks model new.shape (Measure c))))

-- Of a node that one rule assigns in both shapes, with the same looks, of which none is a seed, the rule makes the same over
-- both: over two sets and inputs that agree at its looks, and over any slots of these.
abbrev pub StepsAlike : Model → Side → Side → Look → Type 0
StepsAlike model old new node =
    IsStrictlySortedBy cmp_key old.shape.cells → IsStrictlySortedBy cmp_key new.shape.cells
    → rule_at old.shape node ≡ rule_at new.shape node → node_looks model old.shape node ≡ node_looks model new.shape node
    → some_look (is_seed model old new) (node_looks model new.shape node) ≡ false
    → (slots : Look → Slot) → node_step model old.shape node slots ≡ node_step model new.shape node slots

-- A node is affected exactly where it is a seed or looks at one that is affected.
abbrev pub AffectedByLooks : Model → Side → Side → Look → Type 0
AffectedByLooks model old new node =
    is_affected model old new node ≡ (is_seed model old new node || some_look (is_affected model old new) (node_looks model new.shape node))

-- What is not affected is assigned as before, by the same rule with the same looks, or by none.
abbrev pub AssignmentStays : Model → Side → Side → Look → Type 0
AssignmentStays model old new node =
    IsShaped model old → IsShaped model new → is_affected model old new node ≡ false
    → (rule_at new.shape node ≡ rule_at old.shape node) × (node_looks model new.shape node ≡ node_looks model old.shape node)

-- A measure that a rule assigns in the new shape is not affected exactly where the same rule assigned it in the old one, with
-- the same looks, of which none is affected.
abbrev pub UnaffectedIsUntouched : Model → Side → Side → CellName → ℕ → Type 0
UnaffectedIsUntouched model old new c number =
    let node : Look = Measure c in
    IsShaped model old → IsShaped model new → rule_at new.shape node ≡ Some number
    → (is_affected model old new node ≡ false)
    ↔ ((rule_at old.shape node ≡ Some number) × (node_looks model old.shape node ≡ node_looks model new.shape node)
    × (some_look (is_affected model old new) (node_looks model new.shape node) ≡ false))

-- What is not affected is levelled in the end exactly where it was.
abbrev pub LevelStays : Model → Side → Side → Look → Type 0
LevelStays model old new node =
    IsShaped model old → IsShaped model new → is_affected model old new node ≡ false
    → is_levelled_in model new.shape node ≡ is_levelled_in model old.shape node

-- A measure that is not affected has the slot that it had.
abbrev pub ValueStays : Model → Side → Side → CellName → Type 0
ValueStays model old new c =
    IsShaped model old → IsShaped model new → is_affected model old new (Measure c) ≡ false
    → slots_in model new.shape new.input c ≡ slots_in model old.shape old.input c

-- So it is of the results, which stand at assigned measures alone.
abbrev pub ResultStays : Model → Side → Side → CellName → Type 0
ResultStays model old new c =
    IsShaped model old → IsShaped model new → is_affected model old new (Measure c) ≡ false
    → result_in model new c ≡ result_in model old c

-- Where the old shape had no cycle, what is not levelled in the new one is affected.
abbrev pub CyclesAreAffected : Model → Side → Side → Look → Type 0
CyclesAreAffected model old new node =
    IsShaped model old → IsShaped model new → cycle_in model old.shape ≡ None
    → is_levelled_in model new.shape node ≡ false → is_affected model old new node ≡ true
