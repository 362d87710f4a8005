use Rattle.std.proofs.Common.{◌≡◌, arith, rules}
use Rattle.std.proofs.lemmas.Str.{IsUtf8-from_ascii}
use Rattle.mq_values.specs.Number.{text_of_number}
use Rattle.mq_values.proofs.NumberTextLemmas.{ascii-number, is_text-number}
use Rattle.mq_values.proofs.convert.number_text.Goals as goal

pub unreachable-requires : goal.unreachable-requires
unreachable-requires c =
    let e : c.print.new.out.items ≡ text_of_number c.args.n = search rules in
    let told = c.in-Err.ensures.succeeds (rw e (IsUtf8-from_ascii (text_of_number c.args.n) (ascii-number c.args.n c.mant-mant.ensures.range))) in
    cc

pub returns-in_err-print-clause-text : goal.returns-in_err-print-clause-text
returns-in_err-print-clause-text c = is_text-number c.args.n (omega (arith, c.scale-scale.ensures)) c.mant-mant.ensures.range

pub returns-clause-text : goal.returns-clause-text
returns-clause-text c = is_text-number c.args.n (omega (arith, c.scale-scale.ensures)) c.mant-mant.ensures.range
