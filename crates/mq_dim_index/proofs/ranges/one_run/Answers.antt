use Rattle.std.proofs.Common.{rules, ap, ◌∙◌, arith}
use Rattle.mq_dim_index.specs.PlaceRuns.{numbers_of}
use Rattle.mq_dim_index.proofs.PlaceRunLemmas.{no_numbers, span_listed}
use Rattle.mq_dim_index.proofs.ranges.one_run.Goals as goal

pub returns-then-run-clause-numbers : goal.returns-then-run-clause-numbers
returns-then-run-clause-numbers c =
    ap numbers_of c.new-runs.ensures.items ∙ no_numbers c.args.tests.now c.args.keys.now c.args.run.start c.args.run.end c.requires.span (omega arith)

pub returns-clause-numbers : goal.returns-clause-numbers
returns-clause-numbers c =
    span_listed c.args.tests.now c.args.keys.now c.args.run.start c.args.run.end c.new-runs.result.items c.push.new.self.items _ c.requires.span c.in_ok-push.ensures.items
    c.new-runs.ensures.items (search rules) (search rules)
