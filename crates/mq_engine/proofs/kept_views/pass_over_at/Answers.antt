use Rattle.std.proofs.Common.{sym, ap, ◌∙◌, refl}
use Rattle.std.specs.Option.{option_copied_mut}
use Rattle.mq_engine.proofs.KeptLemmas.{halfway_none, halfway_put, put_as_many}
use Rattle.mq_engine.proofs.kept_views.pass_over_at.Goals as goal

pub returns-in-Some : goal.returns-in-Some
returns-in-Some c =
    let entries = c.args.views.now.entries in
    record {
      halfway =
          λ before now seen.
          halfway_put before now seen c.args.at entries c.in-Some.standing.now (sym c.get_index_mut.ensures.value ∙ ap option_copied_mut c.in-Some.is);
      as_many = put_as_many entries c.args.at _;
    }

pub returns-in-None : goal.returns-in-None
returns-in-None c = record {
  halfway =
      λ before now seen.
      halfway_none before now seen c.args.at c.args.views.now.entries (sym c.get_index_mut.ensures.value ∙ ap option_copied_mut c.in-None.is);
  as_many = refl;
}
