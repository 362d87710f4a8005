use Rattle.std.proofs.Common.{arith, ap, sym, subst, ◌∙◌}
use Rattle.std.specs.Map.{keys_of}
use Rattle.std.proofs.lemmas.Map.Entries.{length-keys_of}
use Rattle.mq_dim_index.specs.Places.{place_of, with_key}
use Rattle.mq_ir.specs.Ready.{HaveLength}
use Rattle.mq_seq.specs.Marks.{Marked}
use Rattle.mq_seq.specs.Steps.{State}
use Rattle.mq_seq.specs.Tracks.{Track, assign}
use Rattle.mq_seq.proofs.CreatedLemmas.{assign_there, assigned_keys}
use Rattle.mq_seq.proofs.PlaceLemmas.{place_below}
use Rattle.mq_seq.proofs.grid.Grid.assigned.Goals as goal

pub assigned-requires-clause-within : goal.assigned-requires-clause-within
assigned-requires-clause-within c =
    let g = c.self.inside in
    let found = ap (λ (s : State). place_of (keys_of s.track.cells) c.args.key.now) c.self.view_is ∙ c.requires in
    let below = place_below c.args.key.now (keys_of g.cells.cells) c.args.at found in
    let long = length-keys_of g.cells.cells in
    omega (arith, below, long)

pub assigned-requires-clause-placed : goal.assigned-requires-clause-placed
assigned-requires-clause-placed c = ap (λ (s : State). place_of (keys_of s.track.cells) c.args.key.now) c.self.view_is ∙ c.requires

pub invariant_of-result : goal.invariant_of-result
invariant_of-result c =
    let g = c.self.inside in
    let found = ap (λ (s : State). place_of (keys_of s.track.cells) c.args.key.now) c.self.view_is ∙ c.requires in
    subst (HaveLength g.width)
    (sym (ap (λ (m : Marked). keys_of m.cells) c.in_ok-cells.ensures ∙ assigned_keys g.cells.cells c.args.key.now c.args.m c.args.v c.args.at c.index-index.ensures.ascending found)) c.self.invariant

pub returns-clause-set : goal.returns-clause-set
returns-clause-set c =
    let g = c.self.inside in
    let key = c.args.key.now in
    let found = ap (λ (s : State). place_of (keys_of s.track.cells) key) c.self.view_is ∙ c.requires in
    let cells = c.in_ok-cells.ensures in
    let track : Track = record { cells = g.cells.cells; firsts = g.noted } in
    (λ i. record { input = (cells i).input; track = record { cells = (cells i).cells; firsts = c.in_ok-noted.ensures i }; updated = (cells i).updated; width = g.width; count = (cells i).count })
    ∙ (λ i. record { input = g.cells.input; track = assign_there track key c.args.m c.args.v c.args.at found i; updated = with_key g.cells.updated key; width = g.width; count = g.cells.count })
    ∙ ap (λ (s : State). record s { track = assign s.track key c.args.m c.args.v; updated = with_key s.updated key }) c.self.view_is

pub returns-clause-same_keys : goal.returns-clause-same_keys
returns-clause-same_keys c =
    let g = c.self.inside in
    let found = ap (λ (s : State). place_of (keys_of s.track.cells) c.args.key.now) c.self.view_is ∙ c.requires in
    ap (λ (m : Marked). keys_of m.cells) c.in_ok-cells.ensures
    ∙ assigned_keys g.cells.cells c.args.key.now c.args.m c.args.v c.args.at c.index-index.ensures.ascending found ∙ ap (λ (s : State). keys_of s.track.cells) c.self.view_is
