use Rattle.std.proofs.Common.{[], ◌∷◌, false, refl}
use Rattle.std.proofs.lemmas.Result.{err_from_is_err_and}
use Rattle.mq_ir.specs.declared.statement.Bound.TheVariants as bound
use Rattle.mq_ir.specs.Lines.{Counted}
use Rattle.mq_tool.specs.Statements.{inside}
use Rattle.mq_tool.proofs.StepLemmas.{count_refused, line_taken}
use Rattle.mq_tool.proofs.blocks.commit.Goals as goal

pub returns-in_err-count : goal.returns-in_err-count
returns-in_err-count g c =
    let old = c.args.engine.now in
    let p = err_from_is_err_and c.from_residual.result c.from_residual.ensures.1 in
    rw (p.1, p.2) (λ files block is. count_refused (λ count. (c.commit.new.self, Counted count ∷ [])) (inside files old block bound.Commit) old c.commit.new.self c.args.out.now.items c.in_err-count.field-0.0
    (c.in_err-count.ensures.exact block is) c.in_err-count.ensures.err)

pub returns : goal.returns
returns g c =
    let old = c.args.engine.now in
    λ files block is. line_taken (inside files old block bound.Commit) old c.commit.new.self (Counted c.in_ok-count.count) false c.args.out.now.items c.count_text.new.out.items
    (c.in_ok-count.ensures.exact block is) c.in_ok-count_text.ensures.ok refl
