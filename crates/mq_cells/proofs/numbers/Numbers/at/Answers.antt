use Rattle.std.proofs.Common.{◌<◌, Some, length, get_or, sym, ap, subst, ◌∙◌, arith}
use Rattle.std.specs.Option.{option_and_then}
use Rattle.std.specs.Prelude.{slice_get}
use Rattle.std.proofs.lemmas.Option.{slice_get-get_or}
use Rattle.mq_cells.specs.Numberings.{Numbering, number_of}
use Rattle.mq_cells.proofs.NumberLemmas.{place_itself}
use Rattle.mq_cells.proofs.numbers.Numbers.at.Goals as goal

pub returns-clause-found : goal.returns-clause-found
returns-clause-found c = λ other.
    let place = c.args.place in
    let numbers = c.self.inside.numbers.items in
    let below : place < length c.self.inside.index = subst (λ (s : Numbering). place < length s.keys) (sym c.self.view_is) c.requires in
    let long = c.self.invariant.long in
    ap (λ (s : Numbering). number_of s (get_or s.keys place other)) (sym c.self.view_is)
    ∙ ap (option_and_then (slice_get numbers)) (place_itself c.self.inside.index place other c.keys.ensures.ascending below)
    ∙ slice_get-get_or numbers place c.index.result.now (omega (arith, below, long)) ∙ ap (λ n. Some n) (sym c.index.ensures)
