-- Measures of cells as a map has them, and as they are named.
use Rattle.std.proofs.Common.{◌≡◌, ℕ, ◌==◌, ◌&&◌, ◌||◌, Bool, true, false, Some, cond, Ordering, Less, Equal, Greater, refl, sym, ap, ◌∙◌, eqb}
use Rattle.std.specs.Prelude.{if◌then◌else◌, is_some}
use Rattle.std.specs.BTreeMap.{is_at}
use Rattle.std.specs.Cmp.{unsigned_tied}
use Rattle.std.specs.Map.{lookup}
use Rattle.std.specs.Ordering.{is_eq, nat_cmp, ordering_then}
use Rattle.std.proofs.lemmas.Bool.{and_from, and_parts, eq-eqb, eqb-true}
use Rattle.mq_values.specs.Order.{cmp_key}
use Rattle.mq_values.specs.OrderTells.{key_itself}
use Rattle.mq_ir.specs.declared.query.CellName.{CellName}
use Rattle.mq_ir.specs.declared.query.Slot.{Slot}
use Rattle.mq_ir.specs.Derivations.{is_same_measure}
use Rattle.mq_ir.specs.Keys.{Tuple, is_same}
use Rattle.mq_cells.specs.Stores.{DiffersAt, Results, cell_name, is_named}
use Rattle.mq_change_laws.specs.SoundLaws.{same_is}
use Rattle.mq_lineage.specs.Nodes.{Node, Nodes, Numbers, cmp_node, is_in, number_in}

tied : (r s : Ordering) → is_eq (ordering_then r s) ≡ (is_eq r && is_eq s)
tied Less s = refl
tied Equal s = refl
tied Greater s = refl

-- which nodes the map finds equal
pub at_node : (x y : Node) → is_eq (cmp_node x y) ≡ (is_same x.0 y.0 && (x.1 == y.1))
at_node x y = tied (cmp_key x.0 y.0) (nat_cmp x.1 y.1) ∙ ap (λ b. is_same x.0 y.0 && b) (unsigned_tied x.1 y.1)

-- a name that is the same is that name
pub named_same : (c d : CellName) → is_same_measure c d ≡ true → c ≡ d
named_same c d h =
    let both = and_parts (is_same c.key d.key) (eqb c.measure d.measure) h in
    let key : c.key ≡ d.key = same_is c.key d.key both.0 in
    let measure : c.measure ≡ d.measure = eqb-true c.measure d.measure both.1 in
    λ i. record { key = key i; measure = measure i }

pub named_itself : (c : CellName) → is_same_measure c c ≡ true
named_itself c = and_from (is_same c.key c.key) (eqb c.measure c.measure) (ap is_eq (key_itself c.key)) (eq-eqb c.measure c.measure refl)

pub named_turned : (c d : CellName) → is_same_measure c d ≡ is_same_measure d c
named_turned c d = by (is_same_measure c d) refl (is_same_measure d c) refl
  where
    by : (a : Bool) → is_same_measure c d ≡ a → (b : Bool) → is_same_measure d c ≡ b → is_same_measure c d ≡ is_same_measure d c
    by true e b f = let s : c ≡ d = named_same c d e in λ i. is_same_measure (s i) (sym s i)
    by false e true f = let s : d ≡ c = named_same d c f in λ i. is_same_measure (sym s i) (s i)
    by false e false f = e ∙ sym f

-- a number that is put into the map is that of its measure
pub numbered : (key : Tuple) (m number : ℕ) (inside before after : Nodes) → inside ≡ before
    → ((q : Node) → lookup (is_at (cmp_node q)) after ≡ cond (is_eq (cmp_node (key, m) q)) (Some number) (lookup (is_at (cmp_node q)) inside))
    → Numbers before after (cell_name key m) number
numbered key m number inside before after seen h c =
    h (c.key, c.measure)
    ∙ ap (λ b. cond b (Some number) (number_in inside c)) (at_node (key, m) (c.key, c.measure))
    ∙ ap (λ (nodes : Nodes). cond (is_named (cell_name key m) c) (Some number) (number_in nodes c)) seen

-- a measure more is told
pub named_next : (name : CellName) (number : ℕ) (before after : Nodes) → Numbers before after name number → (c : CellName) → is_in after c ≡ (is_same_measure c name || is_in before c)
named_next name number before after h c = ap is_some (h c) ∙ by (is_same_measure name c) ∙ ap (λ b. b || is_in before c) (named_turned name c)
  where
    by : (b : Bool) → is_some (if b then Some number else number_in before c) ≡ (b || is_in before c)
    by true = refl
    by false = refl

pub stands_next : (name : CellName) (slot put : Slot) (before after : Results) → put ≡ slot → DiffersAt before after name (Some put) → (c : CellName)
    → after c ≡ (if is_same_measure c name then Some slot else before c)
stands_next name slot put before after e h c =
    h c
    ∙ ap (λ s. if is_named name c then Some s else before c) e
    ∙ ap (λ b. if b then Some slot else before c) (named_turned name c)
