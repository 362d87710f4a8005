-- What the loop over the arms of a CASE keeps.
use Rattle.std.proofs.Common.{◌≡◌, ℕ, ◌<◌, ◌≤◌, List, [], ◌∷◌, ◌++◌, length, refl, sym, ap, ◌∙◌, subst, arith}
use Rattle.mq_lexer.specs.declared.sorts.Token.{Token}
use Rattle.mq_ast.specs.declared.expressions.E.{E}
use Rattle.mq_ast.specs.declared.expressions.Arm.{Arm}
use Rattle.mq_lexer.specs.declared.keywords.Keyword.TheVariants as word
use Rattle.mq_lexer.specs.declared.terminals.Terminal.TheVariants as terminal
use Rattle.mq_ast.specs.Tokens.{Tok, Word, terminal_at}
use Rattle.mq_ast.specs.declared.levels.TheConstants as level
use Rattle.mq_ast.specs.Continuing.{Stops, Not, Ends}
use Rattle.mq_ast.specs.Chains.{arm}
use Rattle.mq_ast.specs.GrammarExpression.{Expr, Whens, whens_end, whens_more}
use Rattle.mq_ast.specs.Laws.{begin, cut}
use Rattle.mq_ast.specs.Laws.{whens_stop, expr_same}
use Rattle.mq_parse_words.specs.Reading.{from, Then, No}
use Rattle.mq_parse_words.specs.Fronts.{IsSome, SomeWhens}
use Rattle.mq_parse_words.specs.StepLemmas.{here, there, till, as_value, push, none}

-- the arms of a CASE
whens_no_test : {ts : List Tok} → No Expr (Stops level.EXPRESSION) ts → No Whens (Ends (terminal.Word word.When)) (Word word.When ∷ ts)
whens_no_test h a to whens_end s = s.1 refl
whens_no_test h a to (whens_more d f ds) s = h _ _ d (omega arith)

whens_no_then : {x : E} {ts mid : List Tok} → Expr x ts mid → Stops level.EXPRESSION mid → Not (terminal.Word word.Then) mid → No Whens (Ends (terminal.Word word.When)) (Word word.When ∷ ts)
whens_no_then e r n a to whens_end s = s.1 refl
whens_no_then e r n a to (whens_more d f ds) s = let p = expr_same e d r (omega arith) in n (ap terminal_at p.1)

whens_no_value : {x : E} {ts mid : List Tok} → Expr x ts (Word word.Then ∷ mid) → No Expr (Stops level.EXPRESSION) mid → No Whens (Ends (terminal.Word word.When)) (Word word.When ∷ ts)
whens_no_value e h a to whens_end s = s.1 refl
whens_no_value e h a to (whens_more d f ds) s =
    let p = expr_same e d (omega arith) (omega arith) in h _ _ (begin Expr (cut p.1) f) (whens_stop ds s)

whens_no_others : {x y : E} {ts mid end : List Tok} → Expr x ts (Word word.Then ∷ mid) → Expr y mid end → Stops level.EXPRESSION end → No Whens (Ends (terminal.Word word.When)) end → No Whens (Ends (terminal.Word word.When)) (Word word.When ∷ ts)
whens_no_others e g r h a to whens_end s = s.1 refl
whens_no_others e g r h a to (whens_more d f ds) s =
    let p = expr_same e d (omega arith) (omega arith) in
    let q = expr_same g (begin Expr (cut p.1) f) r (whens_stop ds s) in
    h _ _ (begin Whens q.1 ds) s

pub whens_none : {ts : List Tok} → Not (terminal.Word word.When) ts → No SomeWhens (Ends (terminal.Word word.When)) ts
whens_none n [] to d s = d.0
whens_none n (_ ∷ _) to (_, whens_more d f ds) s = n refl

some_whens : {ts : List Tok} → No Whens (Ends (terminal.Word word.When)) ts → No SomeWhens (Ends (terminal.Word word.When)) ts
some_whens h a to d s = h a to d.1 s

-- the arms found, where the loop stands behind a WHEN
pub record WhensSoFar (t : List Token) (start to : ℕ) (found : List Arm) : Type 0 where
  pub low : start < to
  pub high : to ≤ length t
  pub ok : (rest : List Arm) (end : List Tok) → Whens rest (Word word.When ∷ from t to) end → Whens (found ++ rest) (from t start) end
  pub no : No Whens (Ends (terminal.Word word.When)) (Word word.When ∷ from t to) → No SomeWhens (Ends (terminal.Word word.When)) (from t start)

some_push : (found : List Arm) (e : Arm) → IsSome (found ++ e ∷ [])
some_push [] e = tt
some_push (x ∷ found) e = tt

pub whens_init : (t : List Token) (at to : ℕ) → Then (Word word.When) t at to → (found : List Arm) → found ≡ [] → WhensSoFar t at to found
whens_init t at to p found e = record {
  low = omega (arith, p.0);
  high = p.1;
  ok = λ rest end d. as_value Whens (ap (λ xs. xs ++ rest) e) (there Whens p.2 d);
  no = λ h. some_whens (here Whens (Ends (terminal.Word word.When)) p.2 h);
}

module _ (t : List Token) (start to : ℕ) (found : List Arm) (kept : WhensSoFar t start to found) where
  pub whens_no_test_at : No Expr (Stops level.EXPRESSION) (from t to) → No SomeWhens (Ends (terminal.Word word.When)) (from t start)
  whens_no_test_at h = kept.no (whens_no_test h)

  pub whens_no_then_at : {x : E} {mid : List Tok} → Expr x (from t to) mid → Stops level.EXPRESSION mid → Not (terminal.Word word.Then) mid → No SomeWhens (Ends (terminal.Word word.When)) (from t start)
  whens_no_then_at d s n = kept.no (whens_no_then d s n)

  module _ (x : E) (end mid : ℕ) (d : Expr x (from t to) (from t end)) (then : Then (Word word.Then) t end mid) where
    first : Expr x (from t to) (Word word.Then ∷ from t mid)
    first = till Expr then.2 d

    pub whens_no_value_at : No Expr (Stops level.EXPRESSION) (from t mid) → No SomeWhens (Ends (terminal.Word word.When)) (from t start)
    whens_no_value_at h = kept.no (whens_no_value first h)

    module _ (y : E) (next : ℕ) (e : Expr y (from t mid) (from t next)) (s : Stops level.EXPRESSION (from t next)) (low : to ≤ next) (high : next ≤ length t) (found2 : List Arm) (f : found2 ≡ found ++ (arm x y) ∷ []) where
      chain : (rest : List Arm) (last : List Tok) → Whens rest (from t next) last → Whens (found2 ++ rest) (from t start) last
      chain rest last ds = as_value Whens (ap (λ xs. xs ++ rest) f ∙ push found (arm x y) rest) (kept.ok (arm x y ∷ rest) last (whens_more first e ds))

      pub whens_kept : (behind : ℕ) → Then (Word word.When) t next behind → WhensSoFar t start behind found2
      whens_kept behind is = record {
        low = let k = kept.low in omega (arith, is.0);
        high = is.1;
        ok = λ rest last ds. chain rest last (there Whens is.2 ds);
        no = λ h. kept.no (whens_no_others first e s (here Whens (Ends (terminal.Word word.When)) is.2 h));
      }

      pub whens_done : Not (terminal.Word word.When) (from t next) → (start ≤ next) × (next ≤ length t) × SomeWhens found2 (from t start) (from t next) × (Stops level.EXPRESSION (from t next) × Not (terminal.Word word.When) (from t next))
      whens_done n =
          let k = kept.low in
          let P : List Arm → Type 0 = IsSome in
          (omega arith, high, (subst P (sym f) (some_push found (arm x y)), as_value Whens (sym (none found2)) (chain [] (from t next) whens_end)), (s, n))
