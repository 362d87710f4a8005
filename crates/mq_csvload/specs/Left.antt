-- The records that a reader of bytes in memory has before it.
use Rattle.std.proofs.Common.{Bor}
use Rattle.std.specs.Prelude.{ℕ, ◌+◌, ◌≡◌, List, [], ◌∷◌, length, Bool, true, false, Option, Some, IsSome}
use Rattle.std.specs.Option.{option_map_or}
use Rattle.csv.specs.Reading.{Ready, default_config, is_flexible, reader_config, reader_state, reader_trim, records_from, source_of}
use Rattle.csv.specs.declared.reader.Reader.{Reader}
use Rattle.csv.specs.declared.reader.Trim.TheVariants as trim
use Rattle.mq_csvload.specs.Loading.{Fields}

-- a reader over lent bytes
abbrev pub FileReader : Type 0
FileReader = Reader (Bor (List ℕ))

-- the bytes that it has not read, where it has not failed
abbrev pub unread : FileReader → Option (List ℕ)
unread reader = source_of (λ bytes. Some bytes.now) reader

-- it reads records as they are, of any lengths, the next one among them, and has not failed
pub record Goes (reader : FileReader) : Type 0 where
  pub trim : reader_trim reader ≡ trim.None
  pub config : reader_config reader ≡ default_config
  pub flexible : is_flexible reader ≡ true
  pub ready : Ready reader
  pub unread : IsSome (unread reader)

-- the records that are left to be read
abbrev pub left_of : FileReader → List Fields
left_of reader = option_map_or (λ bytes. records_from default_config (length bytes + 1) (reader_state reader) bytes) (unread reader) []

-- a step of the reader took the first of them, or there was none
abbrev pub Takes : Bool → FileReader → FileReader → Fields → Type 0
Takes true old new fields = Goes new × (left_of old ≡ fields ∷ left_of new)
Takes false old new fields = left_of old ≡ []
