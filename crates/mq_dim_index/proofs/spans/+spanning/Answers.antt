use Rattle.std.proofs.Common.{◌≡◌, Bool, true, ◌&&◌, ◌+◌, List, [], ◌∷◌, ◌++◌, get_or, take, sym, subst, ap, ◌∙◌, arith}
use Rattle.std.specs.List.{list_all, slice_get}
use Rattle.std.proofs.lemmas.List.{take_all, take_more}
use Rattle.std.proofs.lemmas.Option.{IfSome_then}
use Rattle.mq_values.specs.declared.operators.DimTest.{DimTest}
use Rattle.mq_dim_index.specs.Places.{Tuple}
use Rattle.mq_dim_index.specs.Runs.{value_meets}
use Rattle.mq_dim_index.specs.Spans.{IsSpan}
use Rattle.mq_dim_index.proofs.SpanLemmas.{and_meets, any_meets, between_meets, one_more_meets, span_as}
use Rattle.mq_dim_index.proofs.spans.+spanning.Goals as goal

pub span_of-returns-in-Any : goal.span_of-returns-in-Any
span_of-returns-in-Any t c =
    let keys = c.args.keys.now in
    let d = c.args.dimension in
    span_as (λ key. true) (λ key. value_meets c.args.test.now (slice_get key d)) keys _ _
    (λ k o low l. any_meets (slice_get (get_or keys k o) d) ∙ ap (λ (u : DimTest). value_meets u (slice_get (get_or keys k o) d)) (sym c.in-Any.is)) c.all_of.ensures

pub span_of-returns-in-At : goal.span_of-returns-in-At
span_of-returns-in-At t c =
    subst (λ (u : DimTest). IsSpan (λ key. value_meets u (slice_get key c.args.dimension)) c.args.keys.now c.span_at.result.start c.span_at.result.end) (sym c.in-At.is) c.span_at.ensures

pub span_of-returns-in-Cmp : goal.span_of-returns-in-Cmp
span_of-returns-in-Cmp t c =
    IfSome_then c.span_by.result c.span_by.ensures
    (λ run h. subst (λ (u : DimTest). IsSpan (λ key. value_meets u (slice_get key c.args.dimension)) c.args.keys.now run.start run.end) (sym c.in-Cmp.is) h)

pub span_of-returns-in-Between : goal.span_of-returns-in-Between
span_of-returns-in-Between t c =
    let keys = c.args.keys.now in
    let d = c.args.dimension in
    IfSome_then c.span_between.result c.span_between.ensures
    (λ run h. span_as _ (λ key. value_meets c.args.test.now (slice_get key d)) keys run.start run.end
    (λ k o low l. between_meets c.in-Between.low c.in-Between.high (slice_get (get_or keys k o) d)
    ∙ ap (λ (u : DimTest). value_meets u (slice_get (get_or keys k o) d)) (sym c.in-Between.is)) h)

pub span_of-returns-in-And : goal.span_of-returns-in-And
span_of-returns-in-And t c =
    let keys = c.args.keys.now in
    let d = c.args.dimension in
    IfSome_then c.span_among.result c.span_among.ensures
    (λ run h. span_as _ (λ key. value_meets c.args.test.now (slice_get key d)) keys run.start run.end
    (λ k o low l. ap (list_all (λ u. value_meets u (slice_get (get_or keys k o) d))) c.as_slice.ensures
    ∙ and_meets c.in-And.tests (slice_get (get_or keys k o) d)
    ∙ ap (λ (u : DimTest). value_meets u (slice_get (get_or keys k o) d)) (sym c.in-And.is)) h)

pub span_among-loop-test-preserved : goal.span_among-loop-test-preserved
span_among-loop-test-preserved t c =
    let keys = c.args.keys.now in
    let d = c.args.dimension in
    let tests = c.args.tests.now in
    let i = c.loop-test.test-index in
    let test = c.test-item.result in
    let so_far : Tuple → Bool = λ key. list_all (λ u. value_meets u (slice_get key d)) (take i tests) in
    let here : Tuple → Bool = λ key. value_meets test (slice_get key d) in
    let more : take (i + 1) tests ≡ _ = take_more tests i test (omega arith) in
    span_as (λ key. so_far key && here key) (λ key. list_all (λ u. value_meets u (slice_get key d)) (take (i + 1) tests)) keys _ _
    (λ k o low l. one_more_meets (λ u. value_meets u (slice_get (get_or keys k o) d)) (take i tests) test
    ∙ ap (list_all (λ u. value_meets u (slice_get (get_or keys k o) d))) (ap (λ (u : DimTest). take i tests ++ u ∷ []) c.test-item.is ∙ sym more))
    (c.common-all.ensures so_far here keys c.loop-test.invariant c.in-Some.ensures)

pub span_among-returns : goal.span_among-returns
span_among-returns t c =
    let keys = c.args.keys.now in
    let d = c.args.dimension in
    let tests = c.args.tests.now in
    let i = c.loop-test.test-index in
    subst (λ (ts : List DimTest). IsSpan (λ key. list_all (λ u. value_meets u (slice_get key d)) ts) keys c.loop-test.all.start c.loop-test.all.end)
    (take_all i tests (omega arith)) c.loop-test.invariant
