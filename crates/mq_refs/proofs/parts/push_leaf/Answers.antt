use Rattle.std.proofs.Common.{◌≡◌, ◌++◌, ◌⊎◌, inl, inr, ℕ, List, length, sym, ap, ◌∙◌}
use Rattle.std.specs.List.{filter}
use Rattle.std.proofs.lemmas.Result.{on_ok_weaker}
use Rattle.mq_ir.specs.declared.expression.Expr.{Expr}
use Rattle.mq_ir.specs.declared.expression.Leaf.{Leaf, out-Leaf}
use Rattle.mq_ir.specs.declared.expression.Leaf.TheVariants as leaf
use Rattle.mq_ir.specs.declared.query.Look.{Look}
use Rattle.mq_ir.specs.Looks.{layer_looks, leaf_looks, look_at, looks_named}
use Rattle.mq_ir.specs.Reads.{Site, cell_named}
use Rattle.mq_refs.specs.LookParts.{is_wanted, looks_in}
use Rattle.mq_refs.specs.Sites.{site_of, site_over}
use Rattle.mq_refs.proofs.SiteLemmas.{named_over}
use Rattle.mq_refs.proofs.parts.push_leaf.Goals as goal

-- a leaf that names a single cell
cell_looks : (site : Site) (l : Leaf) (m : ℕ) (indices : List Expr) → (l ≡ leaf.Cell m indices) ⊎ (l ≡ leaf.NotNull m indices)
    → looks_named (look_at m) (cell_named site site.model.part.dims indices) ≡ leaf_looks site l
cell_looks site l m indices (inl is) = ap (layer_looks site) (sym (leaf.outs-Cell m indices) ∙ sym (ap out-Leaf is))
cell_looks site l m indices (inr is) = ap (layer_looks site) (sym (leaf.outs-NotNull m indices) ∙ sym (ap out-Leaf is))

pub returns-in-Cell-clause-looks : goal.returns-in-Cell-clause-looks
returns-in-Cell-clause-looks g c =
    let set = g.K.CellKeys.set c.args.keys.now in
    let at = c.args.at.now in
    let dims = at.model.now.part.now.dims in
    let m = c.in-Cell.measure in
    let indices = c.in-Cell.indices in
    on_ok_weaker c.push_measure.result
    (λ h. h
    ∙ ap (λ (looks : List Look). looks_in set c.args.parts.now ++ filter (is_wanted c.args.wanted.now) looks)
    (ap (λ (lent : List Expr). looks_named (look_at m) (cell_named (site_of at) dims lent)) c.as_slice-in-Cell.ensures
    ∙ ap (looks_named (look_at m)) (named_over at set dims indices)
    ∙ cell_looks (site_over at set) c.args.leaf.now m indices c.in-Cell.is))
    (c.push_measure.ensures.looks set)

pub returns-in-Cell-clause-within : goal.returns-in-Cell-clause-within
returns-in-Cell-clause-within g c = c.push_measure.ensures.within (length (g.K.CellKeys.set c.args.keys.now)) c.requires
