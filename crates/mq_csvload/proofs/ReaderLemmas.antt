-- What a step of a reader does to the records that it has before it.
use Rattle.std.proofs.Common.{Bor, ◌≡◌, inl, ℕ, ◌+◌, List, [], ◌∷◌, length, Bool, true, false, Option, Some, None, refl, sym, ap, subst, ◌∙◌}
use Rattle.std.specs.Prelude.{IsSome}
use Rattle.std.specs.Option.{option_map_or}
use Rattle.csv.specs.Reading.{ExplainsRead, ReadRecord, Reached, default_config, is_flexible, reader_state, records, records_from, stops_reader, took_first}
use Rattle.csv.specs.declared.error.ErrorKind.{ErrorKind}
use Rattle.csv.specs.declared.error.ErrorKind.TheVariants as kind
use Rattle.csv.specs.declared.parser.State.TheVariants as st
use Rattle.csv.proofs.ReadFacts.{rows-end, rows-more}
use Rattle.mq_csvload.specs.Left.{FileReader, Goes, Takes, left_of, unread}
use Rattle.mq_csvload.specs.Loading.{Fields}
use Rattle.mq_csvload.proofs.LeftLemmas.{all_from, first_taken, none_taken}

known : {A : Type 0} (o : Option A) → IsSome o → (x : A) × (o ≡ Some x)
known None h = absurd (cc)
known (Some x) h = (x, refl)

left_is : (reader : FileReader) (xs : List ℕ) → unread reader ≡ Some xs → left_of reader ≡ all_from default_config (reader_state reader) xs
left_is reader xs e = ap (λ o. option_map_or (λ bytes. records_from default_config (length bytes + 1) (reader_state reader) bytes) o []) e

-- a reader at the start of a text
pub left_at_start : (reader : FileReader) (xs : List ℕ) → unread reader ≡ Some xs → reader_state reader ≡ st.StartRecord → left_of reader ≡ records default_config xs
left_at_start reader xs e s = left_is reader xs e ∙ ap (λ t. all_from default_config t xs) s

took : (old new : FileReader) (fields : Fields) → Goes old → ReadRecord (λ (bytes : Bor (List ℕ)). Some bytes.now) old new true fields
    → is_flexible new ≡ is_flexible old → took_first new ≡ true → Takes true old new fields
unfolding Reached
took old new fields g r flexible first =
    let (xs, at) = known (unread old) g.unread in
    let (rest, after, reached) =
    rows-more (λ (bytes : Bor (List ℕ)). Some bytes.now) old new fields default_config (reader_state old) xs xs [] g.config at (refl, refl) r in
    let (p, read, same, ends) = reached in (
      record {
        trim = r.3 ∙ g.trim;
        config = r.2 ∙ g.config;
        flexible = flexible ∙ g.flexible;
        ready = inl first;
        unread = subst IsSome (sym after) refl;
      },
      left_is old xs at
          ∙ first_taken default_config (reader_state old) xs p read
          ∙ (λ i. sym same i ∷ all_from default_config (ends.0 i) (ends.1 i))
          ∙ ap (λ more. fields ∷ more) (sym (left_is new rest after)),
    )

took_none : (old new : FileReader) (fields : Fields) → Goes old → ReadRecord (λ (bytes : Bor (List ℕ)). Some bytes.now) old new false fields → left_of old ≡ []
took_none old new fields g r =
    let (xs, at) = known (unread old) g.unread in
    left_is old xs at
    ∙ none_taken default_config (reader_state old) xs (rows-end (λ (bytes : Bor (List ℕ)). Some bytes.now) old new fields default_config xs g.config at r)

pub takes : (found : Bool) (old new : FileReader) (fields : Fields) → Goes old → ReadRecord (λ (bytes : Bor (List ℕ)). Some bytes.now) old new found fields
    → is_flexible new ≡ is_flexible old → took_first new ≡ true → Takes found old new fields
takes true old new fields g r flexible first = took old new fields g r flexible first
takes false old new fields g r flexible first = took_none old new fields g r

-- a read of records of any lengths fails for the bytes or for memory alone
pub stops : (old new : FileReader) (why : ErrorKind) → Goes old → ExplainsRead (λ (bytes : Bor (List ℕ)). Some bytes.now) old new false why → stops_reader why ≡ true
stops old new (kind.Io e) g h = refl
stops old new kind.OutOfMemory g h = refl
stops old new (kind.UnequalLengths pos expected len) g h = absurd (let same = sym h.0 ∙ g.flexible in cc)
stops old new (kind.Utf8 pos err) g h = absurd (let same = h.0 in cc)
stops old new (kind.Serialize text) g h = absurd h
stops old new (kind.Deserialize pos err) g h = absurd h
