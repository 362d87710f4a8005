use Rattle.std.proofs.Common.{sym, ◌∙◌, subst}
use Rattle.std.specs.Prelude.{IsUtf8}
use Rattle.mq_tool.proofs.generated.generated_summary.Goals as goal

pub unreachable-requires : goal.unreachable-requires
unreachable-requires g c =
    c.in-Err.ensures.cases.0
    (subst IsUtf8 (sym (c.deref.ensures.value ∙ c.in_ok-script.ensures)) (c.scripts_are_text.ensures c.args.number c.args.size c.requires.size c.ranges.size.fits))
