use Rattle.std.proofs.Common.{rules, ◌≡◌, Some, true, get_or, length, slice_get}
use Rattle.std.specs.List.{AllWithin}
use Rattle.std.proofs.lemmas.Option.{IfSome_then}
use Rattle.mq_values.specs.declared.operators.DimTest.TheVariants.{Any}
use Rattle.mq_dim_index.specs.Places.{meets_every}
use Rattle.mq_dim_index.specs.Runs.{first_has_value}
use Rattle.mq_dim_index.proofs.RunLemmas.{ascend_first, each_has_value}
use Rattle.mq_dim_index.proofs.SpanLemmas.{first_decides, span_as}
use Rattle.mq_dim_index.proofs.ranges.span_of_all.Goals as goal

pub span_of-requires-clause-ascending : goal.span_of-requires-clause-ascending
span_of-requires-clause-ascending c = ascend_first c.args.keys.now c.requires

pub returns-in-Some : goal.returns-in-Some
returns-in-Some c =
    let keys = c.args.keys.now in
    let tests = c.args.tests.now in
    let test = c.in-Some.test.now in
    let is : Some test ≡ slice_get tests 0 = c.in-Some.ensures.value in
    let valued : first_has_value 0 keys ≡ true = search rules in
    let free : AllWithin (λ u. u ≡ Any) tests 1 (length tests) = search rules in
    let ascend = ascend_first keys c.requires in
    IfSome_then c.span_of.result c.span_of.ensures
    (λ run h. span_as _ (meets_every tests) keys run.start run.end (λ k o low l. first_decides test tests (get_or keys k o) is free (each_has_value 0 keys k o ascend valued l)) h)
