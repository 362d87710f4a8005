-- Keys that are kept, and new keys behind them.
use Rattle.std.proofs.Common.{◌≡◌, ℕ, ◌+◌, ◌<◌, List, ◌∷◌, ◌++◌, Bool, true, false, not, ◌||◌, length, map, drop, get_or, Some, refl, sym, ap, ◌∙◌}
use Rattle.std.specs.Prelude.{if◌then◌else◌}
use Rattle.std.proofs.lemmas.List.Folds.{list_any-append}
use Rattle.mq_ir.specs.declared.statement.Schema.{Schema}
use Rattle.mq_ir.specs.Changes.{first_repeated, row_key}
use Rattle.mq_ir.specs.Keys.{Tuple, is_among, is_same}
use Rattle.mq_tables.specs.KeyOrder.{HoldsBoth, PutsTo}
use Rattle.mq_tables.proofs.KeyLemmas.{next_key, repeated_alike, swapped, was_new}
use Rattle.mq_tables.proofs.Walks.{next_item}

pub among_both : (a b : List Tuple) (q : Tuple) → is_among (a ++ b) q ≡ (is_among a q || is_among b q)
among_both a b q = list_any-append (is_same q) a b

pub moved : (a b c : Bool) → ((a || b) || c) ≡ (b || (a || c))
moved true true c = refl
moved true false c = refl
moved false b c = refl

pub or_false : (a : Bool) → (a || false) ≡ a
or_false true = refl
or_false false = refl

-- ---- keys are put to others
pub own_put : (own new after keys : List Tuple) → HoldsBoth new own after → ((q : Tuple) → is_among new q ≡ is_among keys q) → HoldsBoth keys own after
own_put own new after keys u n q = u q ∙ ap (λ b. b || is_among own q) (n q)

-- ---- new keys behind earlier ones, row by row
pub record Adding (schema : Schema) (earlier : List Tuple) (rows : List Tuple) (i : ℕ) (keys : List Tuple) : Type 0 where
  pub is : first_repeated (earlier ++ keys) (map (row_key schema) (drop i rows)) ≡ first_repeated earlier (map (row_key schema) rows)
  pub among : (q : Tuple) → (is_among (map (row_key schema) (drop i rows)) q || is_among keys q) ≡ is_among (map (row_key schema) rows) q

next_among : (schema : Schema) (rows : List Tuple) (i : ℕ) (row key q : Tuple) → i < length rows → row ≡ get_or rows i row → key ≡ row_key schema row
    → is_among (map (row_key schema) (drop i rows)) q ≡ (is_same q key || is_among (map (row_key schema) (drop (i + 1) rows)) q)
next_among schema rows i row key q h e k =
    ap (λ l. is_among (map (row_key schema) l) q) (next_item rows i row h e)
    ∙ ap (λ l. is_same q l || is_among (map (row_key schema) (drop (i + 1) rows)) q) (sym k)

pub adding_next : (schema : Schema) (earlier rows keys after : List Tuple) (i : ℕ) (row key : Tuple) (added : Bool) → i < length rows → row ≡ get_or rows i row → key ≡ row_key schema row
    → added ≡ not (is_among earlier key || is_among keys key) → added ≡ true → PutsTo key keys after → Adding schema earlier rows i keys → Adding schema earlier rows (i + 1) after
adding_next schema earlier rows keys after i row key added h e k a t n adding = record {
  is =
      repeated_alike (earlier ++ after) (key ∷ (earlier ++ keys)) alike rest
      ∙ sym (ap (λ b. if b then Some key else first_repeated (key ∷ (earlier ++ keys)) rest) (among_both earlier keys key ∙ was_new added (is_among earlier key || is_among keys key) a t))
      ∙ sym (next_key schema rows (earlier ++ keys) i row key h e k)
      ∙ adding.is;
  among = λ q.
      ap (λ b. is_among rest q || b) (n q)
      ∙ sym (moved (is_same q key) (is_among rest q) (is_among keys q))
      ∙ sym (ap (λ b. b || is_among keys q) (next_among schema rows i row key q h e k))
      ∙ adding.among q;
}
  where
    rest : List Tuple
    rest = map (row_key schema) (drop (i + 1) rows)

    alike : (q : Tuple) → is_among (earlier ++ after) q ≡ (is_same q key || is_among (earlier ++ keys) q)
    alike q =
        among_both earlier after q
        ∙ ap (λ b. is_among earlier q || b) (n q)
        ∙ swapped (is_among earlier q) (is_same q key) (is_among keys q)
        ∙ sym (ap (λ b. is_same q key || b) (among_both earlier keys q))
