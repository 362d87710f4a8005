-- What holds of reads.
use Rattle.std.specs.Prelude.{◌≡◌, ℕ, List, [], ◌∷◌}
use Rattle.mq_ir.specs.declared.expression.Expr.{Expr}
use Rattle.mq_ir.specs.declared.expression.Leaf.{Leaf}
use Rattle.mq_ir.specs.declared.expression.Leaf.TheVariants.{Present}
use Rattle.mq_ir.specs.declared.query.CellName.{CellName}
use Rattle.mq_ir.specs.declared.query.Look.{Look}
use Rattle.mq_ir.specs.declared.query.Look.TheVariants.{Measure, Presence}
use Rattle.mq_ir.specs.declared.query.PartShape.{PartShape}
use Rattle.mq_ir.specs.declared.query.Rule.{Rule}
use Rattle.mq_ir.specs.Expression.{worth_of}
use Rattle.mq_ir.specs.Keys.{Tuple, is_among}
use Rattle.mq_ir.specs.Looks.{leaf_looks, leaves_of, looks_of}
use Rattle.mq_ir.specs.Reads.{Measures, Site, read}
use Rattle.mq_ir.specs.Slots.{Slots, cell_slot, site_in}
use Rattle.mq_ir.specs.Unfolding.{Model}

-- Presence looks at the input alone: not at the cells that are there by now, and not at their measures.
abbrev pub PresenceOfInput : Site → List Tuple → List Expr → Type 0
PresenceOfInput site input indices =
    (set : List Tuple) (now later : Measures) → read site input now (Present indices) ≡ read (record site { set = set }) input later (Present indices)

-- two maps give the same for each measure among these looks
abbrev pub AgreeAt : {V : Type 0} → (CellName → V) → (CellName → V) → List Look → Type 0
AgreeAt f g [] = Unit {0}
AgreeAt f g (Measure c ∷ looks) = (f c ≡ g c) × AgreeAt f g looks
AgreeAt f g (Presence key ∷ looks) = AgreeAt f g looks

-- An expression at a target is worth the same over two maps that agree at the measures that it looks at.
abbrev pub ReadsItsLooks : Site → List Tuple → Expr → Type 0
ReadsItsLooks site input e =
    (now later : Measures) → AgreeAt now later (looks_of site e) → worth_of (read site input now) e ≡ worth_of (read site input later) e

-- The same of a step in automatic order: its slot depends on the slots that it looks at alone.
abbrev pub StepReadsItsLooks : Model → PartShape → ℕ → Rule → Tuple → Type 0
StepReadsItsLooks model shape turn rule target =
    (slots others : Slots) → AgreeAt slots others (looks_of (site_in model shape turn target) rule.right)
    → cell_slot model shape turn rule target slots ≡ cell_slot model shape turn rule target others

-- each leaf looks at the same over these sets
abbrev pub SameLooks : Site → List Tuple → List Leaf → Type 0
SameLooks site set [] = Unit {0}
SameLooks site set (l ∷ ls) = (leaf_looks site l ≡ leaf_looks (record site { set = set }) l) × SameLooks site set ls

-- the cells whose presence is among these looks are in both inputs or in neither
abbrev pub SamePresence : List Tuple → List Tuple → List Look → Type 0
SamePresence input other [] = Unit {0}
SamePresence input other (Measure c ∷ looks) = SamePresence input other looks
SamePresence input other (Presence key ∷ looks) = (is_among input key ≡ is_among other key) × SamePresence input other looks

-- The same rule at a target over two sets and inputs that agree at the looks gives the same step.
abbrev pub SameStep : Model → PartShape → PartShape → ℕ → Rule → Tuple → Type 0
SameStep model shape other turn rule target =
    let site = site_in model shape turn target in
    SameLooks site other.cells (leaves_of rule.right) → SamePresence shape.base other.base (looks_of site rule.right)
    → (slots : Slots) → cell_slot model shape turn rule target slots ≡ cell_slot model other turn rule target slots
