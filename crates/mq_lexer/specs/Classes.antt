-- What a token is for the grammar, by its sort and spelling: its class.
use Rattle.std.specs.Prelude.{Bool, true, false, List, [], ◌∷◌, codes, Option, Some, None}
use Rattle.mq_values.specs.declared.operators.CmpOp.TheVariants as cmp
use Rattle.mq_values.specs.declared.operators.SumOp.TheVariants as sum
use Rattle.mq_values.specs.declared.operators.ProdOp.TheVariants as prod
use Rattle.mq_lexer.specs.declared.sorts.Sort.{Sort}
use Rattle.mq_lexer.specs.declared.sorts.Sort.TheVariants as sort
use Rattle.mq_lexer.specs.declared.terminals.Symbol.{Symbol}
use Rattle.mq_lexer.specs.declared.terminals.Symbol.TheVariants as sign
use Rattle.mq_lexer.specs.declared.terminals.Terminal.{Terminal}
use Rattle.mq_lexer.specs.declared.terminals.Terminal.TheVariants as terminal
use Rattle.mq_lexer.specs.Fronts.{Text}
use Rattle.mq_lexer.specs.Words.{spelled, reserved_of}

-- the signs
unfoldable pub symbols : List (Text × Symbol)
symbols =
    (codes "(", sign.Open) ∷ (codes ")", sign.Close) ∷ (codes "[", sign.OpenSquare) ∷ (codes "]", sign.CloseSquare) ∷
    (codes ",", sign.Comma) ∷ (codes ";", sign.Semicolon) ∷ (codes ".", sign.Point) ∷
    (codes "=", sign.Cmp cmp.Eq) ∷ (codes "<>", sign.Cmp cmp.Ne) ∷ (codes "!=", sign.Cmp cmp.Ne) ∷ (codes "<=", sign.Cmp cmp.Le) ∷
    (codes ">=", sign.Cmp cmp.Ge) ∷ (codes "<", sign.Cmp cmp.Lt) ∷ (codes ">", sign.Cmp cmp.Gt) ∷
    (codes "+", sign.Sum sum.Add) ∷ (codes "-", sign.Sum sum.Sub) ∷ (codes "||", sign.Sum sum.Join) ∷
    (codes "*", sign.Prod prod.Mul) ∷ (codes "/", sign.Prod prod.Div) ∷ []

abbrev pub symbol_of : Text → Option Symbol
symbol_of z = spelled z symbols

-- a word that is not reserved is a name
abbrev pub class_of_word : Option Terminal → Terminal
class_of_word None = terminal.Name
class_of_word (Some reserved) = reserved

abbrev pub class_of_sign : Option Symbol → Terminal
class_of_sign None = terminal.Bad
class_of_sign (Some s) = terminal.Sign s

abbrev pub class_of : Sort → Text → Terminal
class_of sort.Word z = class_of_word (reserved_of z)
class_of sort.Number z = terminal.Number
class_of sort.Text z = terminal.Text
class_of sort.Sign z = class_of_sign (symbol_of z)
class_of sort.Bad z = terminal.Bad

abbrev pub is_semicolon_class : Terminal → Bool
is_semicolon_class (terminal.Sign sign.Semicolon) = true
is_semicolon_class _ = false
