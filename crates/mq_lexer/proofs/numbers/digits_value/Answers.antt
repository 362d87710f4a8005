use Rattle.std.proofs.Common.{sym, ◌∙◌, arith}
use Rattle.mq_lexer.specs.NumberLemmas.{digit_above}
use Rattle.mq_values.specs.declared.limits.TheConstants.{MAX_MANTISSA}
use Rattle.mq_lexer.proofs.numbers.digits_value.Goals as goal

pub returns-then-value : goal.returns-then-value
returns-then-value c = rw (sym c.loop-number.invariant.0) (digit_above c.loop-number.value MAX_MANTISSA c.loop-number.number.now c.in-len1-up.len_at_least (sym c.is_ascii_digit.ensures.value ∙ c.if-is_ascii_digit.true) (omega arith))

pub returns-then-value-gt-MAX_MANTISSA : goal.returns-then-value-gt-MAX_MANTISSA
returns-then-value-gt-MAX_MANTISSA c = let v = c.if-value-gt-MAX_MANTISSA.true in rw (sym c.loop-number.invariant.0) (digit_above c.loop-number.value MAX_MANTISSA c.loop-number.number.now c.in-len1-up.len_at_least (sym c.is_ascii_digit.ensures.value ∙ c.if-is_ascii_digit.true) (omega (arith, c.from.ensures)))
