-- What the parser gives is what the tokens are read as.
use Rattle.std.proofs.Common.{◌≡◌, List, [], ◌∷◌, map, Result, Ok, Err, refl, ap, subst}
use Rattle.mq_values.specs.declared.faults.Refused.{Refused}
use Rattle.mq_values.specs.declared.faults.Refused.TheVariants as refused
use Rattle.mq_values.specs.declared.memory.Fail.{Fail}
use Rattle.mq_values.specs.declared.memory.Fail.TheVariants as fail
use Rattle.mq_lexer.specs.declared.sorts.Token.{Token}
use Rattle.mq_lexer.specs.Lexemes.{lexeme}
use Rattle.mq_ast.specs.declared.statements.Stmt.{Stmt}
use Rattle.mq_ast.specs.Prelude.{Tok, tok_of, toks}
use Rattle.mq_parse_words.specs.Reading.{from}
use Rattle.mq_parse_stmt.specs.Parsing.{Parses}
use Rattle.mq_tool.specs.Script.{Deep, NoTree, seen}
use Rattle.mq_tool.specs.Steps.{Finds}

seen_tokens : (ts : List Token) → toks ts ≡ seen (map lexeme ts)
seen_tokens [] = refl
seen_tokens (t ∷ ts) = ap (λ k. tok_of t ∷ k) (seen_tokens ts)

as_seen : (ts : List Token) (r : Result Stmt (Fail Refused)) → Parses (from ts 0) r → Parses (seen (map lexeme ts)) r
as_seen ts r h = subst (λ (k : List Tok). Parses k r) (seen_tokens ts) h

pub found : (ts : List Token) (s : Stmt) → Parses (from ts 0) (Ok s) → Finds (map lexeme ts) (Ok s)
found ts s h = as_seen ts (Ok s) h

module _ (ts : List Token) where
  refuses : (e : Fail Refused) → Parses (seen (map lexeme ts)) (Err e) → Finds (map lexeme ts) (Err e)
  refuses fail.Memory p = tt
  refuses (fail.Cause refused.TooDeep) p = (Deep, p, refl)
  refuses (fail.Cause refused.Syntax) p = (NoTree, p, refl)
  refuses (fail.Cause (refused.UnknownName n)) p = absurd p
  refuses (fail.Cause (refused.DuplicateName n)) p = absurd p
  refuses (fail.Cause refused.KindMismatch) p = absurd p
  refuses (fail.Cause (refused.ModelForm n)) p = absurd p
  refuses (fail.Cause (refused.Limit n)) p = absurd p
  refuses (fail.Cause (refused.InUse n)) p = absurd p
  refuses (fail.Cause refused.NoFile) p = absurd p
  refuses (fail.Cause refused.FileTooLong) p = absurd p
  refuses (fail.Cause refused.LoadHeader) p = absurd p
  refuses (fail.Cause (refused.LoadRow n)) p = absurd p
  refuses (fail.Cause (refused.ChangeValue row f)) p = absurd p
  refuses (fail.Cause (refused.NotNull n)) p = absurd p
  refuses (fail.Cause (refused.DuplicateKey k)) p = absurd p
  refuses (fail.Cause (refused.BlockOpen n)) p = absurd p
  refuses (fail.Cause (refused.InBlock n)) p = absurd p
  refuses (fail.Cause refused.NoBlock) p = absurd p
  refuses (fail.Cause (refused.BlockBroken n)) p = absurd p
  refuses (fail.Cause (refused.NoPartition k)) p = absurd p
  refuses (fail.Cause (refused.NoCell k)) p = absurd p

  pub not_found : (e : Fail Refused) → Parses (from ts 0) (Err e) → Finds (map lexeme ts) (Err e)
  not_found e h = refuses e (as_seen ts (Err e) h)
