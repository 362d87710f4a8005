use Rattle.csv.specs.Records.{fields_of}
use Rattle.mq_csvload.proofs.ReaderLemmas.{takes}
use Rattle.mq_csvload.proofs.records.read_next.Goals as goal

pub returns-in-Ok : goal.returns-in-Ok
returns-in-Ok c =
    let read = c.in-Ok.ensures in
    let old = c.requires in
    takes c.in-Ok.found c.args.reader.now c.read_byte_record.new.self (fields_of c.read_byte_record.new.row) old (read.reads old.trim old.ready) read.flexible (read.ready old.trim)
