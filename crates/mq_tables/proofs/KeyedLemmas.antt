-- Rows whose keys are kept, and new rows behind them.
use Rattle.std.proofs.Common.{◌≡◌, ℕ, List, [], ◌∷◌, ◌++◌, Bool, true, false, ◌||◌, length, map, take, drop, Some, None, Ok, Err, refl, sym, ap, ◌∙◌, subst}
use Rattle.std.specs.Prelude.{◌≢◌, if◌then◌else◌}
use Rattle.std.specs.Option.{option_map}
use Rattle.std.proofs.Math.Seq.{drop-append_seam, take-append_seam}
use Rattle.std.proofs.lemmas.List.{map-append, take-append-drop}
use Rattle.mq_values.specs.Answers.{Gives}
use Rattle.mq_values.specs.declared.memory.Fail.{Fail}
use Rattle.mq_values.specs.declared.memory.Fail.TheVariants as fail
use Rattle.mq_values.specs.declared.faults.Refused.{Refused}
use Rattle.mq_values.specs.declared.faults.Refused.TheVariants as refused
use Rattle.mq_ir.specs.declared.statement.Schema.{Schema}
use Rattle.mq_ir.specs.Changes.{first_repeated, key_fault, row_key}
use Rattle.mq_ir.specs.Keys.{Tuple, is_among, is_same}
use Rattle.mq_ir.specs.Statement.{unless_refused}
use Rattle.mq_tables.specs.Exchanging.{ComesFor, Exchanged, keys_put}
use Rattle.mq_tables.specs.InPlace.{put_at, rows_gone, rows_left}
use Rattle.mq_tables.specs.KeyOrder.{AreKept, AreKeys, Grows, HoldsBoth, Loses, judged, keys_by}
use Rattle.mq_tables.proofs.ExchangeLemmas.{exchanged}
use Rattle.mq_tables.proofs.KeyLemmas.{keyed_fault, repeated_alike}
use Rattle.mq_tables.proofs.KeyOrderLemmas.{among_both, moved, or_false}
use Rattle.mq_tables.proofs.LoseLemmas.{left_kept}

-- keys of which the first ones repeat none
behind : (earlier other a b : List Tuple) → first_repeated earlier a ≡ None → ((q : Tuple) → is_among other q ≡ (is_among a q || is_among earlier q))
    → first_repeated earlier (a ++ b) ≡ first_repeated other b
behind earlier other [] b n h = repeated_alike earlier other (λ q. sym (h q)) b
behind earlier other (k ∷ a) b n h =
    by (is_among earlier k) n (λ m. behind (k ∷ earlier) other a b m (λ q. h q ∙ moved (is_same q k) (is_among a q) (is_among earlier q)))
  where
    by : (t : Bool) → (if t then Some k else first_repeated (k ∷ earlier) a) ≡ None → (first_repeated (k ∷ earlier) a ≡ None → first_repeated (k ∷ earlier) (a ++ b) ≡ first_repeated other b)
        → (if t then Some k else first_repeated (k ∷ earlier) (a ++ b)) ≡ first_repeated other b
    by true e f = absurd (cc)
    by false e f = f e

after_known : (a b order : List Tuple) → AreKeys a order → first_repeated [] (a ++ b) ≡ first_repeated order b
after_known a b order known = behind [] order a b known.apart (λ q. known.all q ∙ sym (or_false (is_among a q)))

module _ (schema : Schema) (rows : List Tuple) (old : ℕ) where
  abbrev pub keys : List Tuple
  keys = map (row_key schema) rows

  abbrev pub front : List Tuple
  front = map (row_key schema) (take old rows)

  abbrev pub new : List Tuple
  new = map (row_key schema) (drop old rows)

  in_parts : keys ≡ front ++ new
  in_parts = ap (map (row_key schema)) (sym (take-append-drop old rows)) ∙ map-append (row_key schema) (take old rows) (drop old rows)

  pub grown_keys : (order all : List Tuple) → AreKeys front order → (first_repeated order new ≡ None) × HoldsBoth new order all → AreKeys keys all
  grown_keys order all known grown = record {
    all = λ q.
        grown.1 q
        ∙ ap (λ b. is_among new q || b) (known.all q)
        ∙ turned (is_among new q) (is_among front q)
        ∙ sym (ap (λ l. is_among l q) in_parts ∙ among_both front new q);
    apart = ap (first_repeated []) in_parts ∙ after_known front new order known ∙ grown.0;
  }
    where
      turned : (a b : Bool) → (a || b) ≡ (b || a)
      turned true true = refl
      turned true false = refl
      turned false b = sym (or_false b)

  pub grown_refused : (order : List Tuple) (e : Refused) → schema.key ≢ [] → AreKeys front order → option_map refused.DuplicateKey (first_repeated order new) ≡ Some e → key_fault schema rows ≡ Some e
  grown_refused order e k known h =
      keyed_fault schema rows k ∙ ap (λ l. option_map refused.DuplicateKey (first_repeated [] l)) in_parts ∙ ap (option_map refused.DuplicateKey) (after_known front new order known) ∙ h

  abbrev Behind : List Tuple → List Tuple → List Tuple → Type 0
  Behind part order all = (first_repeated order (map (row_key schema) part) ≡ None) × HoldsBoth (map (row_key schema) part) order all

  pub grown_kept : (order all part : List Tuple) → part ≡ drop old rows → AreKeys front order → Behind part order all → AreKeys keys all
  grown_kept order all part e known grown = grown_keys order all known (subst (λ (l : List Tuple). Behind l order all) e grown)

  pub grown_exit : (order part : List Tuple) (e : Fail Refused) → part ≡ drop old rows → schema.key ≢ [] → AreKeys front order → Grows order (map (row_key schema) part) (Err e)
      → Gives {T = List Tuple} (Err e) (judged schema rows)
  grown_exit order part (fail.Cause e) p k known h =
      ap (λ o. unless_refused o (Ok rows)) (grown_refused order e k known (ap (λ (l : List Tuple). option_map refused.DuplicateKey (first_repeated order (map (row_key schema) l))) (sym p) ∙ h))
  grown_exit order part fail.Memory p k known h = tt

-- keys that are kept repeat none
pub kept_apart : (schema : Schema) (rows order : List Tuple) → schema.key ≢ [] → AreKeys (map (row_key schema) rows) order → key_fault schema rows ≡ None
kept_apart schema rows order k known = keyed_fault schema rows k ∙ ap (option_map refused.DuplicateKey) known.apart

-- keys that are those of other rows
pub same_kept : (schema : Schema) (rows before order : List Tuple) (columns : List ℕ) → columns ≢ [] → columns ≡ schema.key → AreKept columns before order
    → map (row_key schema) rows ≡ map (row_key schema) before → key_fault schema rows ≡ None
same_kept schema rows before order columns n e kept s =
    kept_apart schema rows order (λ z. n (e ∙ z)) (subst (λ (l : List Tuple). AreKeys l order) (sym s) (subst (λ (cs : List ℕ). AreKeys (keys_by cs before) order) e (kept n)))

-- keys that are kept by the columns of the key
pub kept_front : (schema : Schema) (rows before order : List Tuple) (columns : List ℕ) (n : ℕ) → columns ≢ [] → columns ≡ schema.key → AreKept columns before order
    → take n rows ≡ before → AreKeys (map (row_key schema) (take n rows)) order
kept_front schema rows before order columns n d e kept s =
    subst (λ (l : List Tuple). AreKeys (map (row_key schema) l) order) (sym s) (subst (λ (cs : List ℕ). AreKeys (keys_by cs before) order) e (kept d))

-- ---- rows that change where they stand, whose keys are kept by the columns of the key
module _ (schema : Schema) (before order : List Tuple) (columns : List ℕ) (some : columns ≢ []) (key : columns ≡ schema.key) (kept : AreKept columns before order) where
  keyed : schema.key ≢ []
  keyed e = some (key ∙ e)

  of_key : (rows all : List Tuple) → AreKeys (map (row_key schema) rows) all → AreKept columns rows all
  of_key rows all h n = subst (λ (cs : List ℕ). AreKeys (keys_by cs rows) all) (sym key) h

  none_repeats : (rows all : List Tuple) → AreKeys (map (row_key schema) rows) all → judged schema rows ≡ Ok rows
  none_repeats rows all h = ap (λ o. unless_refused o (Ok rows)) (kept_apart schema rows all keyed h)

  -- some come for others
  module _ (puts were : List (ℕ × Tuple)) (come : ComesFor before puts were) (all : List Tuple) (done : Exchanged order (keys_put schema were) (keys_put schema puts) all) where
    come_known : AreKeys (map (row_key schema) (put_at puts before)) all
    come_known = exchanged schema before order (subst (λ (cs : List ℕ). AreKeys (keys_by cs before) order) key (kept some)) puts were come all done

    pub come_kept : (after : List Tuple) → after ≡ put_at puts before → AreKept columns after all
    come_kept after e = subst (λ (rows : List Tuple). AreKept columns rows all) (sym e) (of_key (put_at puts before) all come_known)

    pub come_judged : (after : List Tuple) → after ≡ put_at puts before → judged schema (put_at puts before) ≡ Ok after
    come_judged after e = none_repeats (put_at puts before) all come_known ∙ ap Ok (sym e)

  -- new rows are put behind them
  module _ (new : List Tuple) where
    front_is : take (length before) (before ++ new) ≡ before
    front_is = take-append_seam before new

    new_is : new ≡ drop (length before) (before ++ new)
    new_is = sym (drop-append_seam before new)

    first_known : AreKeys (map (row_key schema) (take (length before) (before ++ new))) order
    first_known = kept_front schema (before ++ new) before order columns (length before) some key kept front_is

    all_known : (all : List Tuple) → Behind schema (before ++ new) (length before) new order all → AreKeys (map (row_key schema) (before ++ new)) all
    all_known all grown = grown_kept schema (before ++ new) (length before) order all new new_is first_known grown

    pub put_kept : (after all : List Tuple) → after ≡ before ++ new → Behind schema (before ++ new) (length before) new order all → AreKept columns after all
    put_kept after all e grown = subst (λ (rows : List Tuple). AreKept columns rows all) (sym e) (of_key (before ++ new) all (all_known all grown))

    pub put_judged : (after all : List Tuple) → after ≡ before ++ new → Behind schema (before ++ new) (length before) new order all → judged schema (before ++ new) ≡ Ok after
    put_judged after all e grown = none_repeats (before ++ new) all (all_known all grown) ∙ ap Ok (sym e)

    pub put_refused : (e : Refused) → option_map refused.DuplicateKey (first_repeated order (map (row_key schema) new)) ≡ Some e → judged schema (before ++ new) ≡ Err e
    put_refused e h = grown_exit schema (before ++ new) (length before) order new (fail.Cause e) new_is keyed first_known h

  -- some of them are gone
  module _ (gone : List Bool) (told : length gone ≡ length before) (keys : List Tuple) (theirs : keys ≡ map (row_key schema) (rows_gone before gone)) where
    left_known : (all : List Tuple) → Loses order keys all → AreKeys (map (row_key schema) (rows_left before gone)) all
    left_known all lost =
        left_kept (row_key schema) before gone order all told (subst (λ (cs : List ℕ). AreKeys (keys_by cs before) order) key (kept some))
        (subst (λ (ks : List Tuple). Loses order ks all) theirs lost)

    pub lost_kept : (after all : List Tuple) → after ≡ rows_left before gone → Loses order keys all → AreKept columns after all
    lost_kept after all e lost = subst (λ (rows : List Tuple). AreKept columns rows all) (sym e) (of_key (rows_left before gone) all (left_known all lost))

    pub lost_judged : (after all : List Tuple) → after ≡ rows_left before gone → Loses order keys all → judged schema (rows_left before gone) ≡ Ok after
    lost_judged after all e lost = none_repeats (rows_left before gone) all (left_known all lost) ∙ ap Ok (sym e)
