use Rattle.std.proofs.Common.{◌+◌, ◌<◌, [], ◌∷◌, length, Ok, false, refl, sym, ap, ◌∙◌, subst}
use Rattle.mq_values.specs.declared.limits.TheConstants.{MAX_SCENARIO_CHANGES}
use Rattle.mq_ir.specs.declared.statement.Bound.TheVariants as bound
use Rattle.mq_ir.specs.Lines.{Counted}
use Rattle.mq_ir.specs.Scenarios.{changes_at}
use Rattle.mq_ir.specs.Statement.{State}
use Rattle.mq_tool.specs.Statements.{outside}
use Rattle.mq_tool.proofs.StepLemmas.{line_taken}
use Rattle.mq_tool.proofs.scenarios.take_in.Goals as goal

pub add_change-requires : goal.add_change-requires
add_change-requires c = subst (λ n. length (changes_at c.args.engine.now n) < MAX_SCENARIO_CHANGES) (sym c.as_str.ensures) c.requires

pub returns : goal.returns
returns c =
    let old = c.args.engine.now in
    λ files line. line_taken (outside files old line (bound.Under c.args.name.now c.args.change)) old c.add_change.new.self (Counted c.in_ok-count.count) false c.args.out.now.items
    c.count_text.new.out.items
    (ap (λ n. outside files old line (bound.Under n c.args.change)) (sym c.as_str.ensures)
    ∙ ap (λ (s : State). Ok (s, Counted (length (changes_at old c.as_str.result.now) + 1) ∷ [])) (sym c.in_ok-count.ensures.ok.0)
    ∙ ap (λ n. Ok (c.add_change.new.self, Counted n ∷ [])) (sym c.in_ok-count.ensures.ok.1))
    c.in_ok-count_text.ensures.ok refl
