use Rattle.std.proofs.Common.{length, ap, ◌∙◌}
use Rattle.std.specs.Option.{option_map_or}
use Rattle.mq_seq.proofs.marked_cells.count_at.Goals as goal

pub returns-in-Some : goal.returns-in-Some
returns-in-Some c = λ other. ap length c.as_slice.ensures ∙ ap (λ o. option_map_or length o c.args.count) (c.in-Some.ensures other)

pub returns-in-None : goal.returns-in-None
returns-in-None c = λ other. ap (λ o. option_map_or length o c.args.count) (c.in-None.ensures other)
