use Rattle.std.proofs.Common.{[], ◌∷◌, Ok, false, refl, sym, ap, ◌∙◌}
use Rattle.mq_ir.specs.declared.statement.Bound.TheVariants as bound
use Rattle.mq_ir.specs.Lines.{Done}
use Rattle.mq_ir.specs.Names.{is_view}
use Rattle.mq_ir.specs.Statement.{State}
use Rattle.mq_engine.specs.Catalogs.{catalog_of}
use Rattle.mq_tool.specs.Statements.{outside}
use Rattle.mq_tool.proofs.StepLemmas.{line_taken}
use Rattle.mq_tool.proofs.takes.create_view.Goals as goal

pub create_view-requires-clause-named : goal.create_view-requires-clause-named
create_view-requires-clause-named g c κs alive = ap (is_view (catalog_of c.args.engine.now)) c.as_str.ensures ∙ c.requires.named

pub returns : goal.returns
returns g c =
    let old = c.args.engine.now in
    λ files line. line_taken (outside files old line (bound.CreateView c.args.name.now c.args.query)) old c.create_view.new.self Done false c.args.out.now.items c.done_text.new.out.items
    (ap (λ n. outside files old line (bound.CreateView n c.args.query)) (sym c.as_str.ensures) ∙ ap (λ (s : State). Ok (s, Done ∷ [])) (sym c.in_ok-create_view.ensures.ok))
    c.in_ok-done_text.ensures.ok refl
