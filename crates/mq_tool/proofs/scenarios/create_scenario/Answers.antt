use Rattle.std.proofs.Common.{[], ◌∷◌, Ok, false, refl, sym, ap, ◌∙◌}
use Rattle.mq_ir.specs.declared.statement.Bound.TheVariants as bound
use Rattle.mq_ir.specs.Lines.{Done}
use Rattle.mq_ir.specs.Names.{is_scenario}
use Rattle.mq_ir.specs.Statement.{State}
use Rattle.mq_engine.specs.Catalogs.{catalog_of}
use Rattle.mq_tool.specs.Statements.{outside}
use Rattle.mq_tool.proofs.StepLemmas.{line_taken}
use Rattle.mq_tool.proofs.scenarios.create_scenario.Goals as goal

pub create_scenario-requires : goal.create_scenario-requires
create_scenario-requires c = ap (is_scenario (catalog_of c.args.engine.now)) c.as_str.ensures ∙ c.requires

pub returns : goal.returns
returns c =
    let old = c.args.engine.now in
    λ files line. line_taken (outside files old line (bound.CreateScenario c.args.name.now)) old c.create_scenario.new.self Done false c.args.out.now.items c.done_text.new.out.items
    (ap (λ n. outside files old line (bound.CreateScenario n)) (sym c.as_str.ensures) ∙ ap (λ (s : State). Ok (s, Done ∷ [])) (sym c.in_ok-create_scenario.ensures.ok))
    c.in_ok-done_text.ensures.ok refl
