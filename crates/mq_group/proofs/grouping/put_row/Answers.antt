use Rattle.std.proofs.Common.{◌≡◌, ◌<◌, ◌∷◌, [], ◌++◌, Some, None, cond, length, get_or, ap, ◌∙◌, arith, rules}
use Rattle.std.specs.BTreeMap.{get, is_at}
use Rattle.std.specs.Prelude.{slice_set}
use Rattle.std.specs.Vec.{vec_len}
use Rattle.std.proofs.lemmas.List.{get_or_default}
use Rattle.mq_values.specs.Order.{cmp_key}
use Rattle.mq_group.specs.Columns.{keys_in}
use Rattle.mq_group.proofs.GroupLemmas.{joined, key_here, keys_long, number_below, opened}
use Rattle.mq_group.proofs.grouping.put_row.Goals as goal

pub index_mut-requires : goal.index_mut-requires
index_mut-requires g c =
    let keys = keys_in g.R.RowValues.values c.args.cols.now c.args.rows.now in
    let found : get cmp_key c.args.numbers.now c.in_ok-key.key ≡ Some c.in-Some.number = search rules in
    let below = number_below keys c.args.place c.args.numbers.now c.args.groups.now.items c.in_ok-key.key c.in-Some.number c.requires.grouped found in
    let whole : vec_len c.args.groups.now ≡ length c.args.groups.now.items = search rules in
    omega (arith, below, whole)

pub returns-in-Some : goal.returns-in-Some
returns-in-Some g c =
    let values = g.R.RowValues.values in
    let cols = c.args.cols.now in
    let rows = c.args.rows.now in
    let keys = keys_in values cols rows in
    let place = c.args.place in
    let numbers = c.args.numbers.now in
    let groups = c.args.groups.now.items in
    let key = c.in_ok-key.key in
    let number = c.in-Some.number in
    let here : get_or keys place key ≡ key = key_here values cols rows place c.index-rows-place.result key c.requires.place c.index-rows-place.is c.in_ok-key.ensures in
    let long : place < length keys = omega (arith, c.requires.place, keys_long values cols rows) in
    let found : get cmp_key numbers key ≡ Some number = search rules in
    let below = number_below keys place numbers groups key number c.requires.grouped found in
    let after : c.push.new.self ≡ get_or groups number [] ++ place ∷ [] =
    c.in_ok-push.ensures.ok ∙ ap (λ group. group ++ place ∷ []) (c.index_mut.ensures.value ∙ get_or_default groups number c.index_mut.result.now [] below) in
    joined keys place key long here numbers groups (slice_set groups number c.push.new.self) number c.requires.grouped found (ap (slice_set groups number) after)

pub returns : goal.returns
returns g c =
    let values = g.R.RowValues.values in
    let cols = c.args.cols.now in
    let rows = c.args.rows.now in
    let keys = keys_in values cols rows in
    let place = c.args.place in
    let numbers = c.args.numbers.now in
    let groups = c.args.groups.now.items in
    let key = c.in_ok-key.key in
    let here : get_or keys place key ≡ key = key_here values cols rows place c.index-rows-place.result key c.requires.place c.index-rows-place.is c.in_ok-key.ensures in
    let long : place < length keys = omega (arith, c.requires.place, keys_long values cols rows) in
    let none : get cmp_key numbers key ≡ None = search rules in
    let whole : vec_len c.args.groups.now ≡ length groups = search rules in
    opened keys place key long here numbers c.insert.new.self groups c.push-2.new.self.items c.requires.grouped none
    (λ q. c.in_ok-insert.ensures.updates.0 q ∙ ap (λ n. cond (is_at (cmp_key key) q) (Some n) (get cmp_key numbers q)) (c.len.ensures ∙ whole))
    (c.in_ok-push-2.ensures.items ∙ ap (λ group. groups ++ group ∷ []) c.in_ok-group.ensures)
