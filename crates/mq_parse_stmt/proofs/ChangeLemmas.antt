-- Where no change reads the tokens, by its parts.
use Rattle.std.proofs.Common.{ℕ, List, [], ◌∷◌, refl}
use Rattle.std.specs.Prelude.{Option}
use Rattle.mq_ast.specs.declared.expressions.E.{E}
use Rattle.mq_ast.specs.declared.statements.ChangeTree.TheVariants as change
use Rattle.mq_lexer.specs.declared.terminals.Terminal.TheVariants as terminal
use Rattle.mq_lexer.specs.declared.keywords.Keyword.TheVariants as word
use Rattle.mq_ast.specs.Prelude.{ChangeE, Name, NameE, Not, SomeOf, Tok, Tuple, WhereE, Word, change_delete, change_insert}
use Rattle.mq_ast.specs.Prelude.{change_update, name}
use Rattle.mq_ast.specs.Laws.{begin, maybe_names_same}
use Rattle.mq_parse_words.specs.Reading.{No, Anywhere}
use Rattle.mq_parse_stmt.specs.Parsing.{NoChange}
use Rattle.mq_parse_stmt.specs.Pieces.{WordName, word_name, NamesValues, Changes, changes}
use Rattle.mq_parse_stmt.proofs.LastLemmas.{NoneOf}

-- INSERT
pub insert_no_name : {ts : List Tok} → No (WordName word.Into) Anywhere ts → NoChange (Word word.Insert ∷ ts)
insert_no_name h a (change_insert o d) = h _ _ word_name tt

pub insert_no_values : {n : List ℕ} {ts : List Tok} → No NamesValues Anywhere ts → NoChange (Word word.Insert ∷ Word word.Into ∷ Name n ∷ ts)
insert_no_values h a (change_insert o d) = h _ _ o tt

pub insert_no_rows : {n : List ℕ} {o : Option (List (List ℕ))} {ts mid : List Tok} → NamesValues o ts mid → NoneOf (SomeOf Tuple) mid → NoChange (Word word.Insert ∷ Word word.Into ∷ Name n ∷ ts)
insert_no_rows e h a (change_insert o d) = let p = maybe_names_same e o in h _ (begin (SomeOf Tuple) p.1 d)

-- UPDATE
pub update_no_name : {ts : List Tok} → No NameE Anywhere ts → NoChange (Word word.Update ∷ ts)
update_no_name h a (change_update d w) = h _ _ name tt

pub update_no_set : {n : List ℕ} {ts : List Tok} → Not (terminal.Word word.Set) ts → NoChange (Word word.Update ∷ Name n ∷ ts)
update_no_set x a (change_update d w) = x refl

pub update_no_changes : {n : List ℕ} {ts : List Tok} → NoneOf Changes ts → NoChange (Word word.Update ∷ Name n ∷ Word word.Set ∷ ts)
update_no_changes h a (change_update d w) = h _ (changes d w)

pub update_read : {n : List ℕ} {c : List (List ℕ × E) × Option E} {ts : List Tok} → Changes c ts [] → ChangeE (change.Update n c.0 c.1) (Word word.Update ∷ Name n ∷ Word word.Set ∷ ts)
update_read (changes d w) = change_update d w

-- DELETE
pub delete_no_name : {ts : List Tok} → No (WordName word.From) Anywhere ts → NoChange (Word word.Delete ∷ ts)
delete_no_name h a (change_delete w) = h _ _ word_name tt

pub delete_no_where : {n : List ℕ} {ts : List Tok} → NoneOf WhereE ts → NoChange (Word word.Delete ∷ Word word.From ∷ Name n ∷ ts)
delete_no_where h a (change_delete w) = h _ w

-- another first token
pub change_no_other : {ts : List Tok} → Not (terminal.Word word.Insert) ts → Not (terminal.Word word.Update) ts → Not (terminal.Word word.Delete) ts → NoChange ts
change_no_other i u x a (change_insert _ _) = i refl
change_no_other i u x a (change_update _ _) = u refl
change_no_other i u x a (change_delete _) = x refl
