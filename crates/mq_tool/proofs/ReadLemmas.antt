-- Tokens are read in one way only.
use Rattle.std.proofs.Common.{◌≡◌, ℕ, List, [], ◌∷◌, refl, sym, ap, ◌∙◌}
use Rattle.mq_lexer.specs.Lexemes.{Lexeme}
use Rattle.mq_lexer.specs.Statements.{Statement}
use Rattle.mq_ast.specs.Laws.OneStatementLemmas.{stmt_same}
use Rattle.mq_ir.specs.Lines.{Line}
use Rattle.mq_engine.specs.Sessions.{nothing}
use Rattle.mq_tool.specs.Loads.{FileMap}
use Rattle.mq_tool.specs.Script.{ArePrinted, AreReadAs, Deep, IsReadAs, NoTree, Read, Tree, lines_from, seen}

pub one_read : (tokens : List Lexeme) (a b : Read) → IsReadAs tokens a → IsReadAs tokens b → a ≡ b
one_read tokens Deep Deep p q = refl
one_read tokens Deep NoTree p q = absurd (q.0 p)
one_read tokens Deep (Tree s) p q = absurd (q.0 p)
one_read tokens NoTree Deep p q = absurd (p.0 q)
one_read tokens NoTree NoTree p q = refl
one_read tokens NoTree (Tree s) p q = absurd (p.1 s q.1)
one_read tokens (Tree s) Deep p q = absurd (p.0 q)
one_read tokens (Tree s) NoTree p q = absurd (q.1 s p.1)
one_read tokens (Tree s) (Tree t) p q = ap Tree (stmt_same s t (seen tokens) p.1 q.1)

-- a line and what is read there
pub at_line : (tokens : List Lexeme) (line : ℕ) (a b : ℕ × Read) → a.0 ≡ line → b.0 ≡ line → IsReadAs tokens a.1 → IsReadAs tokens b.1 → a ≡ b
at_line tokens line a b m n p q = let lines : a.0 ≡ b.0 = m ∙ sym n in let reads : a.1 ≡ b.1 = one_read tokens a.1 b.1 p q in λ i. (lines i, reads i)

one_list : (ss : List Statement) (a b : List (ℕ × Read)) → AreReadAs ss a → AreReadAs ss b → a ≡ b
one_list [] [] [] p q = refl
one_list [] [] (y ∷ ys) p q = absurd q
one_list [] (x ∷ xs) b p q = absurd p
one_list (s ∷ ss) [] b p q = absurd p
one_list (s ∷ ss) (x ∷ xs) [] p q = absurd q
one_list (s ∷ ss) (x ∷ xs) (y ∷ ys) p q =
    let first : x ≡ y = at_line s.tokens s.line x y p.0 q.0 p.1 q.1 in
    let others : xs ≡ ys = one_list ss xs ys p.2 q.2 in
    λ i. first i ∷ others i

-- statements have one list of lines
pub one_printed : (files : FileMap) (ss : List Statement) (a b : List Line) → ArePrinted files ss a → ArePrinted files ss b → a ≡ b
one_printed files ss a b p q = p.printed ∙ ap (lines_from files nothing) (one_list ss p.reads q.reads p.are_read q.are_read) ∙ sym q.printed
