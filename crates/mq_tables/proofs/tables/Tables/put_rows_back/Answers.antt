use Rattle.std.proofs.Common.{sym, subst}
use Rattle.mq_ir.specs.Tables.{rows_of}
use Rattle.mq_tables.specs.Held.{HaveOwnNames}
use Rattle.mq_tables.specs.InPlace.{put_at}
use Rattle.mq_tables.proofs.HeldLemmas.{names_changed}
use Rattle.mq_tables.proofs.tables.Tables.put_rows_back.Goals as goal

pub invariant_of-self : goal.invariant_of-self
invariant_of-self c =
    let items = c.self.inside.tables.items in
    let name = c.args.name.now in
    subst HaveOwnNames (sym c.put_at_places.ensures) (names_changed name (put_at c.args.puts (rows_of items name)) items c.self.invariant)
