use Rattle.std.proofs.Common.{ap, subst, sym, ◌∙◌}
use Rattle.std.specs.List.{All}
use Rattle.mq_ir.specs.Partitions.{partitions}
use Rattle.mq_ir.specs.Ready.{IsReady}
use Rattle.mq_sources.specs.References.{cells_of_arrays}
use Rattle.mq_kept.specs.ReadyLaws.{all_ready}
use Rattle.mq_kept.proofs.SourceLemmas.{read_there}
use Rattle.mq_kept.proofs.sources.sources_with.Goals as goal

pub returns : goal.returns
returns g c =
    let part = c.args.part.now in
    let items = c.args.read.items in
    let inputs = c.in_ok-inputs.inputs in
    let is = c.in_ok-inputs.ensures ∙ ap (partitions part) c.as_slice.ensures in
    record {
      exact =
          read_there (g.T.TableSet.tables c.args.tables.now) part items (cells_of_arrays c.in_ok-refs.refs) c.in_ok-lists.lists inputs
          c.in_ok-refs.ensures c.in_ok-lists.ensures is;
      lines = c.requires.lines;
      ready = subst (All (IsReady part)) (sym is) (all_ready part items c.requires.lefts c.requires.wide);
    }
