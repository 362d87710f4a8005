-- Where ORDER BY reads nothing, by its parts. All of it is about lists of tokens.
use Rattle.std.proofs.Common.{ℕ, Bool, List, ◌∷◌, refl, sym, subst}
use Rattle.mq_ast.specs.declared.queries.OrderKey.{OrderKey}
use Rattle.mq_lexer.specs.declared.terminals.Terminal.TheVariants as terminal
use Rattle.mq_lexer.specs.declared.keywords.Keyword.TheVariants as word
use Rattle.mq_ast.specs.Prelude.{DirectionE, EndsKey, EndsList, EndsOrder, KeyE, NameE, Not, OrderE, SomeOf, Tok, Word, direction_asc}
use Rattle.mq_ast.specs.Prelude.{direction_none, key, key_of, name, order_none, order_some}
use Rattle.mq_ast.specs.Laws.{keys_same}
use Rattle.mq_parse_words.specs.Reading.{No, Anywhere}

-- [ASC | DESC]
pub direction_no_asc : {ts : List Tok} → (EndsKey ts → ⊥) → No DirectionE EndsKey (Word word.Asc ∷ ts)
direction_no_asc h a to direction_none s = s.0 refl
direction_no_asc h a to direction_asc s = h s

-- name [ASC | DESC]
pub key_no_name : {ts : List Tok} → No NameE Anywhere ts → No KeyE EndsKey ts
key_no_name h a to (key d) s = h _ _ name tt

pub key_no_direction : {n : List ℕ} {ts mid : List Tok} → NameE n ts mid → No DirectionE EndsKey mid → No KeyE EndsKey ts
key_no_direction name h a to (key d) s = h _ _ d s

pub key_whole : {n : List ℕ} {b : Bool} {ts mid to : List Tok} → NameE n ts mid → DirectionE b mid to → KeyE (key_of n b) ts to
key_whole name d = key d

-- [ORDER BY key {, key}]
pub order_no_order : {ts : List Tok} → Not (terminal.Word word.Order) ts → (EndsOrder ts → ⊥) → No OrderE EndsOrder ts
order_no_order n h a to order_none s = h s
order_no_order n h a to (order_some d) s = n refl

pub order_no_by : {ts : List Tok} → Not (terminal.Word word.By) ts → No OrderE EndsOrder (Word word.Order ∷ ts)
order_no_by n a to order_none s = s.0 refl
order_no_by n a to (order_some d) s = n refl

pub order_no_keys : {ts : List Tok} → No (SomeOf KeyE) (EndsList EndsKey) ts → No OrderE EndsOrder (Word word.Order ∷ Word word.By ∷ ts)
order_no_keys h a to order_none s = s.0 refl
order_no_keys h a to (order_some d) s = h _ _ d ((s.1.1, s.1.2), s.1.0)

pub order_no_end : {xs : List OrderKey} {ts : List Tok} (mid : List Tok) → SomeOf KeyE xs ts mid → EndsList EndsKey mid → (EndsOrder mid → ⊥) → No OrderE EndsOrder (Word word.Order ∷ Word word.By ∷ ts)
order_no_end mid e r h a to order_none s = s.0 refl
order_no_end mid e r h a to (order_some d) s =
    let p = keys_same e d (r.1, r.0.0, r.0.1) s.1 in h (subst EndsOrder (sym p.1) s)
