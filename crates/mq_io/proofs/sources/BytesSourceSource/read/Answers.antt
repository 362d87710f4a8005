use Rattle.std.proofs.Common.{ap, rules}
use Rattle.mq_io.proofs.SourceLemmas.{given}
use Rattle.mq_io.specs.InMemory.{Feed}
use Rattle.mq_io.proofs.sources.BytesSourceSource.read.Goals as goal

pub returns-clause-bytes : goal.returns-clause-bytes
returns-clause-bytes c =
    let same = c.copy_front-count.ensures in
    given c.self.inside.bytes.items c.deref.result.now c.copy_front-count.new.buf c.args.buf.now c.args.self.now.left c.self.inside.at c.copy_front-count.result c.self.inside.piece
    c.deref.ensures.value (ap (λ (f : Feed). f.left) c.self.view_is) (search rules) (search rules) same.count same.copied
