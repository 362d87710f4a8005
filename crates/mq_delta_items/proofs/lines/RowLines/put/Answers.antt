use Rattle.std.proofs.Common.{◌<◌, ◌≤◌, ℕ, List, [], ◌∷◌, ◌++◌, Option, Some, length, refl, sym, ap, subst, ◌∙◌}
use Rattle.mq_values.specs.declared.limits.TheConstants.{MAX_BASE_ROWS}
use Rattle.mq_ir.specs.Keys.{Tuple}
use Rattle.mq_delta_items.specs.LineLaws.{few_are}
use Rattle.mq_delta_items.specs.Lines.{items_in}
use Rattle.mq_delta_items.proofs.LineLemmas.{counted, many_are}
use Rattle.mq_delta_items.proofs.lines.RowLines.put.Goals as goal

pub returns-then-taken-gt-MAX_BASE_ROWS : goal.returns-then-taken-gt-MAX_BASE_ROWS
returns-then-taken-gt-MAX_BASE_ROWS c =
    let old = c.self.inside in
    let count = counted old.lines c.args.self.now c.args.line old.taken c.taken_with-taken.result c.self.view_is c.self.invariant c.taken_with-taken.ensures in
    sym (many_are (c.args.self.now ++ c.args.line ∷ []) (subst (λ (n : ℕ). MAX_BASE_ROWS < n) count c.if-taken-gt-MAX_BASE_ROWS.true))

pub invariant_of-self-2 : goal.invariant_of-self-2
invariant_of-self-2 c =
    let old = c.self.inside in
    counted old.lines old.lines c.args.line old.taken c.taken_with-taken.result refl c.self.invariant c.taken_with-taken.ensures
    ∙ ap (λ (l : List (Option Tuple)). length (items_in l)) (sym c.in_ok-push.ensures.ok)

pub returns : goal.returns
returns c =
    let old = c.self.inside in
    let count = counted old.lines c.args.self.now c.args.line old.taken c.taken_with-taken.result c.self.view_is c.self.invariant c.taken_with-taken.ensures in
    ap Some (c.in_ok-push.ensures.ok ∙ ap (λ (l : List (Option Tuple)). l ++ c.args.line ∷ []) c.self.view_is)
    ∙ sym (few_are (c.args.self.now ++ c.args.line ∷ []) (subst (λ (n : ℕ). n ≤ MAX_BASE_ROWS) count c.if-taken-gt-MAX_BASE_ROWS.false))
