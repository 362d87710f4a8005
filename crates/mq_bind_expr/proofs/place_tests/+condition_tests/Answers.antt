use Rattle.std.proofs.Common.{sym, ◌∙◌}
use Rattle.mq_bind_expr.proofs.TestLemmas.{formless}
use Rattle.mq_bind_expr.proofs.place_tests.+condition_tests.Goals as goal

pub test_of-returns-in_default : goal.test_of-returns-in_default
test_of-returns-in_default t c =
    c.no_test.ensures
    ∙ sym (formless c.args.e (record {
      no_or = c.in_default.not-Or;
      no_and = c.in_default.not-And;
      no_not = c.in_default.not-Not;
      no_cmp = c.in_default.not-Cmp;
      no_between = c.in_default.not-Between;
      no_in = c.in_default.not-InList;
      no_null = c.in_default.not-IsNull;
    }))
