use Rattle.std.proofs.Common.{ap, sym, ◌∙◌}
use Rattle.mq_ir.specs.Reads.{read_layer}
use Rattle.mq_ir.specs.declared.expression.Leaf.TheVariants.{outs-Present}
use Rattle.mq_ir.proofs.laws_of_reads.presence_is_of_the_input.Goals as goal

pub returns : goal.returns
returns c = λ site input indices set now later.
    ap (read_layer site input now) (outs-Present indices) ∙ sym (ap (read_layer (record site { set = set }) input later) (outs-Present indices))
