use Rattle.std.proofs.Common.{rules, ◌≡◌, ◌<◌, ◌≤◌, ◌+◌, ◌++◌, [], ◌∷◌, Ok, get_or, length, min, take, sym, ap, ◌∙◌, arith}
use Rattle.std.specs.List.{zip}
use Rattle.std.proofs.lemmas.List.{take_all, take_more}
use Rattle.mq_values.specs.declared.value.Kind.TheVariants as kind
use Rattle.mq_scalar.specs.WalkLaws.{walk_end, walk_next}
use Rattle.mq_refs.specs.Sites.{index_named, site_of}
use Rattle.mq_refs.proofs.ListLemmas.{zip_done, zip_is, zip_within}
use Rattle.mq_refs.proofs.names.names_at_once.Goals as goal

pub loop-i-preserved : goal.loop-i-preserved
loop-i-preserved c =
    let kinds = c.args.kinds.now in
    let indices = c.args.indices.now in
    let key = c.args.key.now in
    let i = c.loop-i.i in
    let y = c.index-indices-i.result in
    let v = c.index-key-i.result in
    let h : i < min (length kinds) (length indices) = omega arith in
    let l : i < length key = omega arith in
    let one : take (i + 1) key ≡ take i key ++ v ∷ [] = take_more key i v l ∙ ap (λ w. take i key ++ w ∷ []) (sym c.index-key-i.is) in
    let named : index_named (site_of c.args.at.now) (get_or kinds i kind.Int, y) ≡ Ok v = search rules in
    rw one
    (walk_next (index_named (site_of c.args.at.now)) (zip kinds indices) i (take i key) (get_or kinds i kind.Int, y) v (zip_within kinds indices i h)
    (zip_is kinds indices i kind.Int y h c.index-indices-i.is) named c.loop-i.invariant)

pub returns : goal.returns
returns c =
    let kinds = c.args.kinds.now in
    let indices = c.args.indices.now in
    let key = c.args.key.now in
    let i = c.loop-i.i in
    let h : min (length kinds) (length indices) ≤ i = omega arith in
    let l : length key ≤ i = omega arith in
    λ told. walk_end (index_named (site_of c.args.at.now)) (zip kinds indices) i (take i key) (zip_done kinds indices i h) c.loop-i.invariant ∙ ap Ok (take_all i key l)
