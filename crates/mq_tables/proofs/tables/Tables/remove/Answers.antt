use Rattle.std.proofs.Common.{not, sym, subst}
use Rattle.mq_ir.specs.Tables.{Table, is_name}
use Rattle.mq_tables.specs.Held.{HaveOwnNames, RowsFit}
use Rattle.mq_tables.proofs.HeldLemmas.{fits_filtered, names_filtered}
use Rattle.mq_tables.proofs.tables.Tables.remove.Goals as goal

pub invariant_of-self : goal.invariant_of-self
invariant_of-self c =
    subst HaveOwnNames (sym c.keep_others.ensures)
    (names_filtered (λ (t : Table). not (is_name c.args.name.now t.name)) c.self.inside.tables.items c.self.invariant)

pub returns-clause-fit : goal.returns-clause-fit
returns-clause-fit c = λ fit.
    subst RowsFit (sym c.keep_others.ensures)
    (fits_filtered (λ (t : Table). not (is_name c.args.name.now t.name)) c.self.inside.tables.items (subst RowsFit (sym c.self.view_is) fit))
