use Rattle.std.proofs.Common.{◌≡◌, ◌||◌, ◌<◌, length, rules, sym, ap, subst, ◌∙◌, arith}
use Rattle.std.specs.Vec.{vec_len}
use Rattle.std.proofs.lemmas.List.Quantifiers.{position-Some}
use Rattle.mq_values.specs.KeySetLaws.{among_with}
use Rattle.mq_dim_index.specs.Places.{is_there, with_key, without_key}
use Rattle.mq_ir.specs.Keys.{is_same}
use Rattle.mq_cells.specs.Numberings.{AreNumbered, Numbering}
use Rattle.mq_cells.proofs.NumberLemmas.{came, grown, grown_none, itself, lacks_place, numbered_after, one_more, taken_back}
use Rattle.mq_cells.proofs.numbers.join.Goals as goal

pub place_in-place-requires : goal.place_in-place-requires
place_in-place-requires c =
    let key = c.args.key.now in
    let copy : c.in_ok-copy.field-0 ≡ key = search rules in
    ap (λ keys. is_there keys key) c.in_ok-insert.ensures.ok ∙ ap (λ k. is_there (with_key c.args.index.now k) key) copy
    ∙ among_with key key c.args.index.now ∙ ap (λ b. b || is_there c.args.index.now key) (itself key)

pub insert-requires-2 : goal.insert-requires-2
insert-requires-2 c =
    let key = c.args.key.now in
    let copy : c.in_ok-copy.field-0 ≡ key = search rules in
    let cells : Numbering = record { keys = c.args.index.now; numbers = c.args.numbers.now.items } in
    let keys : c.insert.new.self ≡ with_key c.args.index.now key = c.in_ok-insert.ensures.ok ∙ ap (with_key c.args.index.now) copy in
    let below : c.place_in-place.result < length c.insert.new.self = (position-Some (is_same key) c.insert.new.self c.place_in-place.result key c.place_in-place.ensures).0 in
    let more = ap length keys ∙ one_more key c.args.index.now (lacks_place cells key c.requires.numbered.long c.requires.lacking) in
    let whole : vec_len c.args.numbers.now ≡ length c.args.numbers.now.items = search rules in
    let long = c.requires.numbered.long in
    omega (arith, below, more, whole, long)

pub returns-in-Ok-clause-found : goal.returns-in-Ok-clause-found
returns-in-Ok-clause-found c =
    let key = c.args.key.now in
    let copy : c.in_ok-copy.field-0 ≡ key = search rules in
    let cells : Numbering = record { keys = c.args.index.now; numbers = c.args.numbers.now.items } in
    let keys : c.insert.new.self ≡ with_key c.args.index.now key = c.in_ok-insert.ensures.ok ∙ ap (with_key c.args.index.now) copy in
    let after : Numbering = record { keys = c.insert.new.self; numbers = c.insert-2.new.self.items } in
    came cells after key c.len-number.result c.place_in-place.result c.requires.numbered c.requires.lacking keys c.place_in-place.ensures c.len-number.ensures c.in-Ok.ensures.items

pub returns-in-Ok-clause-grows : goal.returns-in-Ok-clause-grows
returns-in-Ok-clause-grows c =
    let key = c.args.key.now in
    let copy : c.in_ok-copy.field-0 ≡ key = search rules in
    let cells : Numbering = record { keys = c.args.index.now; numbers = c.args.numbers.now.items } in
    let keys : c.insert.new.self ≡ with_key c.args.index.now key = c.in_ok-insert.ensures.ok ∙ ap (with_key c.args.index.now) copy in
    let after : Numbering = record { keys = c.insert.new.self; numbers = c.insert-2.new.self.items } in
    grown cells after key c.len-number.result c.place_in-place.result c.requires.numbered c.requires.lacking keys c.place_in-place.ensures c.len-number.ensures c.in-Ok.ensures.items

pub returns-in-Ok-clause-told : goal.returns-in-Ok-clause-told
returns-in-Ok-clause-told c =
    let key = c.args.key.now in
    let copy : c.in_ok-copy.field-0 ≡ key = search rules in
    let cells : Numbering = record { keys = c.args.index.now; numbers = c.args.numbers.now.items } in
    let keys : c.insert.new.self ≡ with_key c.args.index.now key = c.in_ok-insert.ensures.ok ∙ ap (with_key c.args.index.now) copy in
    let after : Numbering = record { keys = c.insert.new.self; numbers = c.insert-2.new.self.items } in
    numbered_after cells after key c.len-number.result c.place_in-place.result c.requires.numbered c.requires.lacking keys c.place_in-place.ensures c.len-number.ensures c.in-Ok.ensures.items

pub returns-in-Err-clause-same_index : goal.returns-in-Err-clause-same_index
returns-in-Err-clause-same_index c =
    let key = c.args.key.now in
    let copy : c.in_ok-copy.field-0 ≡ key = search rules in
    let cells : Numbering = record { keys = c.args.index.now; numbers = c.args.numbers.now.items } in
    let keys : c.insert.new.self ≡ with_key c.args.index.now key = c.in_ok-insert.ensures.ok ∙ ap (with_key c.args.index.now) copy in
    let back : c.remove.new.self ≡ c.args.index.now =
    c.remove.ensures ∙ ap (λ ks. without_key ks key) keys ∙ taken_back key c.args.index.now (lacks_place cells key c.requires.numbered.long c.requires.lacking) in
    back

pub returns-in-Err-clause-grows : goal.returns-in-Err-clause-grows
returns-in-Err-clause-grows c =
    let key = c.args.key.now in
    let copy : c.in_ok-copy.field-0 ≡ key = search rules in
    let cells : Numbering = record { keys = c.args.index.now; numbers = c.args.numbers.now.items } in
    let keys : c.insert.new.self ≡ with_key c.args.index.now key = c.in_ok-insert.ensures.ok ∙ ap (with_key c.args.index.now) copy in
    let back : c.remove.new.self ≡ c.args.index.now =
    c.remove.ensures ∙ ap (λ ks. without_key ks key) keys ∙ taken_back key c.args.index.now (lacks_place cells key c.requires.numbered.long c.requires.lacking) in
    let same : record { keys = c.remove.new.self; numbers = c.insert-2.new.self.items } ≡ cells = λ i. record { keys = back i; numbers = c.in-Err.ensures.items i } in
    grown_none cells _ same

pub returns-in-Err-clause-told : goal.returns-in-Err-clause-told
returns-in-Err-clause-told c =
    let key = c.args.key.now in
    let copy : c.in_ok-copy.field-0 ≡ key = search rules in
    let cells : Numbering = record { keys = c.args.index.now; numbers = c.args.numbers.now.items } in
    let keys : c.insert.new.self ≡ with_key c.args.index.now key = c.in_ok-insert.ensures.ok ∙ ap (with_key c.args.index.now) copy in
    let back : c.remove.new.self ≡ c.args.index.now =
    c.remove.ensures ∙ ap (λ ks. without_key ks key) keys ∙ taken_back key c.args.index.now (lacks_place cells key c.requires.numbered.long c.requires.lacking) in
    let same : record { keys = c.remove.new.self; numbers = c.insert-2.new.self.items } ≡ cells = λ i. record { keys = back i; numbers = c.in-Err.ensures.items i } in
    subst AreNumbered (sym same) c.requires.numbered
