use Rattle.std.proofs.Common.{length, subst}
use Rattle.std.specs.Option.{IfSome}
use Rattle.std.proofs.lemmas.Result.{err_from_is_err_and}
use Rattle.mq_values.specs.Answers.{Gives, result_map}
use Rattle.mq_ir.specs.Ready.{HaveLength, ModelIsReady}
use Rattle.mq_kept.specs.ReadyLaws.{items_have}
use Rattle.mq_kept.specs.Sources.{found_in}
use Rattle.mq_kept.proofs.SourceLemmas.{items_there, no_items}
use Rattle.mq_kept.proofs.sources.sources_over.Goals as goal

pub returns-in_err-read : goal.returns-in_err-read
returns-in_err-read g c =
    let p = err_from_is_err_and c.from_residual.result c.from_residual.ensures.1 in
    rw (p.1, p.2) record {
      exact = no_items (g.T.TableSet.tables c.args.tables.now) c.args.q.now c.args.part.now c.in_err-read.field-0.0 c.in_err-read.ensures.exact;
      ready = tt;
      lines = tt;
    }

pub sources_with-requires : goal.sources_with-requires
sources_with-requires g c =
    let q = c.args.q.now in
    let items = c.in_ok-read.read.items in
    let model = subst (λ o. IfSome o (ModelIsReady (length q.items.items))) c.requires.model c.requires.ready in
    record {
      lefts = model.lefts;
      wide = subst (λ n. HaveLength n items) model.wide (items_have (g.T.TableSet.tables c.args.tables.now) q.from q.items items c.in_ok-read.ensures.exact);
      lines = c.in_ok-read.ensures.lines;
    }

pub returns : goal.returns
returns g c =
    record {
      exact =
          subst (Gives (result_map (found_in c.args.part.now) c.sources_with.result))
          (items_there (g.T.TableSet.tables c.args.tables.now) c.args.q.now c.args.part.now c.in_ok-read.read.items c.in_ok-read.ensures.exact)
          c.sources_with.ensures.exact;
      ready = c.sources_with.ensures.ready;
      lines = c.sources_with.ensures.lines;
    }
