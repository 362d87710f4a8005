use Rattle.std.proofs.Common.{◌≡◌, List, None, Some, get_or, length, slice_get, subst, arith}
use Rattle.std.proofs.lemmas.List.{get_or_read}
use Rattle.mq_values.specs.declared.value.Value.{Value}
use Rattle.mq_dim_index.specs.Places.{Tuple}
use Rattle.mq_dim_index.specs.Runs.{IsLeastSoFar}
use Rattle.mq_dim_index.proofs.LeastLemmas.{ends_behind, none_between, none_left}
use Rattle.mq_dim_index.proofs.runs.next_of.Goals as goal

pub returns-in-None-clause-none : goal.returns-in-None-clause-none
returns-in-None-clause-none c none =
    let keys = c.args.keys.now in
    let key = c.index-keys-from.result in
    let is : (d : Tuple) → key ≡ get_or keys c.args.from d = λ d. get_or_read keys c.args.from key c.requires.within c.index-keys-from.is d in
    let least : IsLeastSoFar c.args.ws.now (slice_get key c.args.dimension) (length c.args.ws.now) None =
    subst (λ (l : List Value). IsLeastSoFar l (slice_get key c.args.dimension) (length l) None) c.as_slice.ensures
    (subst (λ (k : Tuple). IsLeastSoFar c.as_slice.result.now (slice_get k c.args.dimension) (length c.as_slice.result.now) None) c.as_slice-2.ensures c.in-None.ensures) in
    none_left c.args.dimension keys c.requires.ascending c.requires.valued c.args.from key is c.requires.within c.args.ws.now least

pub returns-in-Some-clause-there : goal.returns-in-Some-clause-there
returns-in-Some-clause-there c =
    let keys = c.args.keys.now in
    let key = c.index-keys-from.result in
    let at = c.args.dimension in
    let from = c.args.from in
    let w = c.in-Some.w.now in
    let end = c.keys_up_to-end.result in
    let below = c.keys_below.result in
    let is : (d : Tuple) → key ≡ get_or keys from d = λ d. get_or_read keys from key c.requires.within c.index-keys-from.is d in
    let least : IsLeastSoFar c.args.ws.now (slice_get key at) (length c.args.ws.now) (Some w) =
    subst (λ (l : List Value). IsLeastSoFar l (slice_get key at) (length l) (Some w)) c.as_slice.ensures
    (subst (λ (k : Tuple). IsLeastSoFar c.as_slice.result.now (slice_get k at) (length c.as_slice.result.now) (Some w)) c.as_slice-2.ensures c.in-Some.ensures) in
    let behind = ends_behind at keys c.requires.ascending c.requires.valued from key is c.requires.within w end least.0 c.keys_up_to-end.ensures.behind in
    let between = none_between at keys c.requires.ascending c.requires.valued from key is c.requires.within c.args.ws.now w below least c.keys_below.ensures.within c.keys_below.ensures.before in
    record {
      behind = omega arith;
      ordered = omega arith;
      further = behind;
      within = c.keys_up_to-end.ensures.within;
      between = λ k d low l. between k d low (omega arith);
    }
