use Rattle.std.proofs.Common.{inr, refl, rules}
use Rattle.mq_levels.specs.Levels.{reads_of}
use Rattle.mq_levels.proofs.PlaceLemmas.{left_on, open_is_read, place_set, placed_at, read_there}
use Rattle.mq_levels.proofs.waiting.move_node.Goals as goal

pub returns-in-Some-clause-places : goal.returns-in-Some-clause-places
returns-in-Some-clause-places g c =
    let reads = g.R.Reads.reads c.args.reads.now in
    let left = g.R.Reads.left c.args.reads.now c.args.node in
    let place = c.index-places-node.result in
    let found = c.in-Some.found in
    let was = placed_at reads (g.R.Reads.is_place c.args.reads.now) (g.R.Reads.left c.args.reads.now) c.args.numbers.now c.args.places.now c.requires.places c.args.node place c.requires.node (search rules) in
    place_set reads (g.R.Reads.is_place c.args.reads.now) (g.R.Reads.left c.args.reads.now) c.args.numbers.now c.args.places.now c.requires.places c.args.node found.place c.requires.node
    (record { is = c.in-Some.ensures.place; is_left = left_on c.args.numbers.now (reads_of reads c.args.node) (left place) (left found.place) was.is_left c.in-Some.ensures.ends.is_left })

pub returns-in-Some-clause-went : goal.returns-in-Some-clause-went
returns-in-Some-clause-went g c =
    let reads = g.R.Reads.reads c.args.reads.now in
    let left = g.R.Reads.left c.args.reads.now c.args.node in
    let place = c.index-places-node.result in
    let found = c.in-Some.found in
    let was = placed_at reads (g.R.Reads.is_place c.args.reads.now) (g.R.Reads.left c.args.reads.now) c.args.numbers.now c.args.places.now c.requires.places c.args.node place c.requires.node (search rules) in
    let its = open_is_read c.args.numbers.now (reads_of reads c.args.node) (left place) (left found.place) found.read was.is_left c.in-Some.ensures.ends in
    inr (record {
      read = found.read;
      there = read_there reads c.requires.reads c.args.node found.read c.requires.node its;
      reads_it = its;
      is_open = c.in-Some.ensures.ends.is_open;
      stands = c.put.ensures;
      same = refl;
    })
