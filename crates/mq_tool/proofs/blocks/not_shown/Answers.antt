use Rattle.std.proofs.Common.{Err, refl, sym, ap, ◌∙◌}
use Rattle.std.specs.Prelude.{if◌then◌else◌}
use Rattle.mq_values.specs.declared.faults.Refused.TheVariants as refused
use Rattle.mq_ir.specs.Names.{is_view}
use Rattle.mq_engine.specs.Catalogs.{catalog_of}
use Rattle.mq_tool.proofs.BlockLemmas.{began_there}
use Rattle.mq_tool.proofs.CatalogLemmas.{show_refused}
use Rattle.mq_tool.proofs.blocks.not_shown.Goals as goal

pub returns-then-is_view : goal.returns-then-is_view
returns-then-is_view c =
    let old = c.args.engine.now in
    let name = c.args.name.now in
    λ out files block is. (
      show_refused old.views name (refused.UnknownName name) (Err (refused.InBlock block.line))
          ∙ ap (λ b. if b then Err (refused.InBlock block.line) else Err (refused.UnknownName name))
          (ap (λ n. is_view (catalog_of old) n) (sym c.as_str.ensures) ∙ ap (λ k. is_view k c.as_str.result.now) (sym c.catalog.ensures.there) ∙ sym c.is_view.ensures ∙ c.if-is_view.true)
          ∙ ap (λ l. Err (refused.InBlock l)) (sym (began_there old c.args.begun block c.requires is)),
      refl,
      refl,
    )

pub returns-in-Ok : goal.returns-in-Ok
returns-in-Ok c =
    let old = c.args.engine.now in
    let name = c.args.name.now in
    λ out files block is. (
      show_refused old.views name (refused.UnknownName name) (Err (refused.InBlock block.line))
          ∙ ap (λ b. if b then Err (refused.InBlock block.line) else Err (refused.UnknownName name))
          (ap (λ n. is_view (catalog_of old) n) (sym c.as_str.ensures) ∙ ap (λ k. is_view k c.as_str.result.now) (sym c.catalog.ensures.there) ∙ sym c.is_view.ensures ∙ c.if-is_view.false)
          ∙ ap (λ n. Err (refused.UnknownName n)) (sym c.in-Ok.ensures),
      refl,
      refl,
    )
