use Rattle.std.proofs.Common.{sym, ◌∙◌}
use Rattle.std.specs.Str.{bytes_eq}
use Rattle.csv.proofs.RecordFacts.{field-get, field-there}
use Rattle.csv.specs.Records.{fields_of}
use Rattle.mq_lexer.specs.Words.{folded}
use Rattle.mq_csvload.proofs.header.is_column.Goals as goal

pub unreachable-requires : goal.unreachable-requires
unreachable-requires c = field-there (fields_of c.args.header.now) c.args.at c.requires (sym c.in-None.ensures.value)

pub returns : goal.returns
returns c =
    let name = c.as_bytes.ensures.value ∙ c.as_str.ensures in
    let field = field-get (fields_of c.args.header.now) c.args.at c.in-Some.field.now (sym c.in-Some.ensures.value) in
    c.is_name.ensures ∙ (λ i. bytes_eq (name i) (folded (sym field i)))
