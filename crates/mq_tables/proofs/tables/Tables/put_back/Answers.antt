use Rattle.std.proofs.Common.{ℕ, List, sym, ap, ◌∙◌, subst}
use Rattle.mq_ir.specs.Statement.{with_rows}
use Rattle.mq_ir.specs.Tables.{rows_of}
use Rattle.mq_tables.specs.InPlace.{put_at}
use Rattle.mq_tables.specs.PuttingBack.{HaveSameKeys}
use Rattle.mq_tables.proofs.PuttingBackLemmas.{restored, same_keys}
use Rattle.mq_tables.proofs.tables.Tables.put_back.Goals as goal

pub put_rows_back-requires : goal.put_rows_back-requires
put_rows_back-requires c =
    subst (λ (name : List ℕ). HaveSameKeys c.args.self.now name c.args.were) (sym (c.as_str.ensures ∙ c.table_of.ensures))
    (same_keys c.args.c.now c.args.were c.requires.before c.args.self.now c.requires.replaced)

pub returns : goal.returns
returns c = λ before replaced.
    c.put_rows_back.ensures.rows
    ∙ ap (λ (name : List ℕ). with_rows c.args.self.now name (put_at c.args.were (rows_of c.args.self.now name))) (c.as_str.ensures ∙ c.table_of.ensures)
    ∙ restored c.args.c.now c.args.were before c.args.self.now replaced c.put_rows_back.ensures.own
