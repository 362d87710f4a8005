use Rattle.std.proofs.Common.{rules, ◌≡◌, List, Bool, false, replicate, ap, ◌∙◌}
use Rattle.mq_cells.specs.IndexedStores.{keys_in}
use Rattle.mq_seq.specs.Marks.{marked_keys}
use Rattle.mq_seq.proofs.MarkLemmas.{none_marked}
use Rattle.mq_seq.proofs.ShownLemmas.{input_shown}
use Rattle.mq_seq.proofs.marked_cells.MarkedCells.new.Goals as goal

pub returns : goal.returns
returns c =
    let s = c.in_ok-store.store in
    let made = c.in_ok-store.ensures in
    let marks : List Bool = c.in_ok-marks.marks.items in
    let plain : marks ≡ replicate c.len.result false = search rules in
    let none = ap (λ (ms : List Bool). marked_keys (keys_in s) ms) plain ∙ none_marked (keys_in s) c.len.result in
    let cells = input_shown s c.args.count c.args.p.now.cells c.requires (made.keys c.requires) made.input (λ name. ap (λ f. f name) made.results) in
    λ i. record { input = made.base c.requires i; cells = cells i; updated = none i; count = c.args.count }
