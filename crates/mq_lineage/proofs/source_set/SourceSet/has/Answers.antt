use Rattle.std.proofs.Common.{◌≡◌, Some, false, sym, ap, ◌∙◌}
use Rattle.std.specs.Prelude.{slice_index_or}
use Rattle.std.specs.Option.{option_map_or}
use Rattle.mq_cells.specs.Stores.{cell_name}
use Rattle.mq_auto_shape.specs.Numbers.{number_at}
use Rattle.mq_lineage.specs.Held.{HeldMeasures, is_held}
use Rattle.mq_lineage.specs.Nodes.{is_in}
use Rattle.mq_lineage.proofs.source_set.SourceSet.has.Goals as goal

pub returns-in-Some : goal.returns-in-Some
returns-in-Some c =
    let set = c.self.inside in
    let name = cell_name c.args.key.now c.args.m in
    let found : number_at set.places c.args.key.now c.args.m ≡ Some c.in-Some.place = (λ i. number_at set.places (sym c.as_slice.ensures i) c.args.m) ∙ sym c.in-Some.ensures in
    c.is_flagged.ensures
    ∙ ap (λ o. option_map_or (λ place. slice_index_or set.derived.items place false) o (is_in set.given name)) (sym found)
    ∙ ap (λ (s : HeldMeasures). is_held s name) c.self.view_is
