use Rattle.std.proofs.Common.{Bool, ap, sym, ◌∙◌}
use Rattle.std.specs.Option.{option_copied}
use Rattle.mq_ir.specs.declared.catalog.View.{View}
use Rattle.mq_ir.specs.NamedItems.{item_of}
use Rattle.mq_ir.specs.Ready.{QueryIsReady}
use Rattle.mq_ir.specs.Tables.{is_name}
use Rattle.mq_answers.specs.FoundLaws.{all_found}
use Rattle.mq_engine.proofs.KeptLemmas.{carried_right}
use Rattle.mq_engine.proofs.kept_views.standing_after.Goals as goal

pub carried-requires-clause-ready : goal.carried-requires-clause-ready
carried-requires-clause-ready c =
    let is_wanted : View → Bool = λ v. is_name v.name c.as_str.result.now in
    all_found is_wanted (λ (v : View). QueryIsReady v.query) c.args.views.now c.in_ok-view.view.now c.requires.ready
    (sym c.get.ensures ∙ ap option_copied c.in_ok-view.was)

pub carried-requires-clause-stood : goal.carried-requires-clause-stood
carried-requires-clause-stood c = record {
  before = c.requires.stood.before;
  change = c.requires.stood.change;
  stood =
      c.requires.stood.standing c.in_ok-view.view.now
      (ap (item_of (λ (view : View). view.name) c.args.views.now) (sym c.as_str.ensures.value) ∙ sym c.get.ensures ∙ ap option_copied c.in_ok-view.was)
      c.in_ok-part.part.now (sym c.as_ref.ensures.value ∙ ap option_copied c.in_ok-part.was);
}

pub returns : goal.returns
returns c =
    carried_right c.args.tables.now c.args.views.now c.args.name.now c.in_ok-view.view.now c.in_ok-part.part.now
    (ap (item_of (λ (view : View). view.name) c.args.views.now) (sym c.as_str.ensures.value) ∙ sym c.get.ensures ∙ ap option_copied c.in_ok-view.was)
    (sym c.as_ref.ensures.value ∙ ap option_copied c.in_ok-part.was) c.carried.result c.kept_or_not.result c.kept_or_not.ensures c.carried.ensures
