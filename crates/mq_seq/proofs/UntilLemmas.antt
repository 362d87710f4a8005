-- UNTIL, whose leaves are those of a right side and PREVIOUS.
use Rattle.std.proofs.Common.{◌≡◌, ℕ, List, refl, sym, ap, ◌∙◌}
use Rattle.mq_ir.specs.declared.expression.Expr.{Expr}
use Rattle.mq_ir.specs.declared.expression.Expr.TheOpen as layer
use Rattle.mq_ir.specs.declared.expression.Leaf.{Leaf, out-Leaf, out-roll-Leaf, roll-Leaf, roll-out-Leaf}
use Rattle.mq_ir.specs.declared.expression.Leaf.TheVariants as leaf
use Rattle.mq_ir.specs.Keys.{Tuple}
use Rattle.mq_ir.specs.Reads.{LeafLayer, Measures, Site, cell_value, read, read_layer, read_until, until_layer}

module _ (site : Site) (input : List Tuple) (now before : Measures) (l : Leaf) where
  -- a leaf other than PREVIOUS
  pub leaf_alone : ((m : ℕ) (indices : List Expr) → l ≡ leaf.Previous m indices → ⊥) → read site input now l ≡ read_until site input now before l
  leaf_alone h = by (out-Leaf l) (roll-out-Leaf l)
    where
      by : (x : LeafLayer) → roll-Leaf x ≡ l → read_layer site input now x ≡ until_layer site input now before x
      by (layer.Column item column) e = refl
      by (layer.Cell m indices) e = refl
      by (layer.Range agg m places) e = refl
      by (layer.RefCell r m indices) e = refl
      by (layer.Cv d) e = refl
      by layer.Turn e = refl
      by (layer.Present indices) e = refl
      by (layer.NotNull m indices) e = refl
      by (layer.GroupAgg agg of) e = refl
      by (layer.Previous m indices) e = absurd (h m indices (sym e ∙ leaf.rolls-Previous m indices))

  -- and PREVIOUS
  pub leaf_before : (m : ℕ) (indices : List Expr) → l ≡ leaf.Previous m indices → cell_value site before m indices ≡ read_until site input now before l
  leaf_before m indices e =
      sym (ap (until_layer site input now before) (ap out-Leaf (e ∙ sym (leaf.rolls-Previous m indices)) ∙ out-roll-Leaf (layer.Previous m indices)))
