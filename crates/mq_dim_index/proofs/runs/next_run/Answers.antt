use Rattle.std.proofs.Common.{◌≡◌, Some, get_or, slice_get, sym, ap, ◌∙◌}
use Rattle.std.proofs.lemmas.Option.{IfSome_then, slice_get-get_or}
use Rattle.mq_dim_index.proofs.RunLemmas.{one_missed}
use Rattle.mq_dim_index.proofs.runs.next_run.Goals as goal

pub returns-in-Some-clause-there : goal.returns-in-Some-clause-there
returns-in-Some-clause-there c =
    let keys = c.args.keys.now in
    let tests = c.args.tests.now in
    let at = c.args.dimension in
    let test = c.in-Some.test.now in
    let found = c.in-Some.ensures.lookup in
    let is : Some test ≡ slice_get tests at = ap Some found.1 ∙ sym (slice_get-get_or tests at test found.3.0) in
    IfSome_then c.next_by.result c.next_by.ensures.there
    (λ run row. record {
      behind = row.behind;
      ordered = row.ordered;
      further = row.further;
      within = row.within;
      between = λ k d low l. one_missed tests at test (get_or keys k d) is (row.between k d low l);
    })

pub returns-in-Some-clause-none : goal.returns-in-Some-clause-none
returns-in-Some-clause-none c none k d low l =
    let keys = c.args.keys.now in
    let tests = c.args.tests.now in
    let at = c.args.dimension in
    let test = c.in-Some.test.now in
    let found = c.in-Some.ensures.lookup in
    let is : Some test ≡ slice_get tests at = ap Some found.1 ∙ sym (slice_get-get_or tests at test found.3.0) in
    one_missed tests at test (get_or keys k d) is (c.next_by.ensures.none none k d low l)
