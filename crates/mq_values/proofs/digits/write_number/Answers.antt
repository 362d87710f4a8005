use Rattle.std.proofs.Common.{◌≡◌, ◌^◌, ◌≤◌, ap, sym, ◌∙◌, arith, unsigned_abs, of_z, to_z, int_le, pos, false, length, ◌++◌, drop, rules}
use Rattle.std.specs.Prelude.{decimal}
use Rattle.std.specs.Int.{w128}
use Rattle.std.proofs.lemmas.Int.{to_z-of_z}
use Rattle.mq_values.specs.Number.{fraction_text}
use Rattle.mq_values.proofs.WrittenLemmas.{drop-put, negative_text}
use Rattle.mq_values.proofs.digits.write_number.Goals as goal

pub returns-clause-text : goal.returns-clause-text
returns-clause-text c =
    let room : c.write_whole-start.result ≤ length c.write_whole-start.new.buffer = omega arith in
    let size : c.unsigned_abs-size.result ≡ unsigned_abs c.args.n.mant = c.unsigned_abs-size.ensures.value ∙ ap unsigned_abs (to_z-of_z w128 c.mant.result (search rules) ∙ c.mant.ensures.value) in
    let unit : unsigned_abs (to_z w128 (of_z w128 c.ten_to-unit.result)) ≡ 10 ^ c.args.n.scale = ap unsigned_abs (to_z-of_z w128 c.ten_to-unit.result (search rules) ∙ c.ten_to-unit.ensures.value) ∙ ap (λ k. 10 ^ k) c.scale.ensures.scale in
    let neg : int_le (pos 0) c.args.n.mant ≡ false = ap (int_le (pos 0)) (sym (to_z-of_z w128 c.mant-2.result (search rules) ∙ c.mant-2.ensures.value)) ∙ c.if-mant-ge0.false in
    rw (drop-put c.write_whole-start.new.buffer c.write_whole-start.result 45 (omega arith) room)
    (negative_text c.args.n c.unsigned_abs-size.result _ c.scale-2.result _ _ size unit c.scale-2.ensures.scale neg (c.write_fraction-point.ensures.text ∙ ap (fraction_text c.scale-2.result) c.split-whole.ensures.part)
    (c.write_whole-start.ensures.text ∙ ap (λ whole. decimal whole ++ drop c.write_fraction-point.result c.write_fraction-point.new.buffer) c.split-whole.ensures.whole))
