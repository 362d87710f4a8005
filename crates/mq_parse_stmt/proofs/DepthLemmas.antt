-- The levels that the first tokens open and close, counted one by one.
use Rattle.std.proofs.Common.{◌≡◌, ℕ, zero, suc, ◌+◌, ◌<◌, ◌≤◌, Bool, true, false, List, [], ◌∷◌, length, take, drop, get_or, cond, refl, sym, ap, ◌∙◌, subst, ◌⊎◌, inl, inr, arith}
use Rattle.std.proofs.lemmas.List.{drop-map, drop_more, take_all, length-map}
use Rattle.std.proofs.lemmas.List.Filters.{length-filter_more}
use Rattle.std.proofs.lemmas.Bool.{cases_lt}
use mir.Val.{bool_byte}
use Rattle.mq_values.specs.declared.limits.TheConstants.{MAX_DEPTH}
use Rattle.mq_lexer.specs.declared.sorts.Token.{Token}
use Rattle.mq_lexer.specs.declared.terminals.Terminal.{Terminal}
use Rattle.mq_ast.specs.Prelude.{Tok, terminal_at, tok_of, toks}
use Rattle.mq_parse_words.specs.Reading.{from}
use Rattle.mq_parse_stmt.specs.Depth.{opens, closes, count, Over, TooDeep}

-- the first tokens, counted, and none of their fronts too deep
pub record LevelsSoFar (t : List Token) (at opened closed : ℕ) : Type 0 where
  pub high : at ≤ length t
  pub opening : opened ≡ count opens (take at (toks t))
  pub closing : closed ≡ count closes (take at (toks t))
  pub few : (opened ≤ at) × (closed ≤ at)
  pub none : (n : ℕ) → n ≤ at → Over n (toks t) → ⊥

first_of : {a b : Tok} {us vs : List Tok} → a ∷ us ≡ b ∷ vs → a ≡ b
first_of e = cc

token_of : (t : List Token) (at : ℕ) (k : Tok) (us : List Tok) → at < length (toks t) → from t at ≡ k ∷ us → get_or (toks t) at k ≡ k
token_of t at k us l e = first_of (sym (drop_more (toks t) at k l) ∙ drop-map tok_of at t ∙ e)

count_next : (p : Terminal → Bool) (t : List Token) (at : ℕ) (k : Tok) (us : List Tok) → at < length (toks t) → from t at ≡ k ∷ us → count p (take (at + 1) (toks t)) ≡ count p (take at (toks t)) + cond (p (terminal_at (k ∷ []))) 1 0
count_next p t at k us l e = length-filter_more (λ x. p (terminal_at (x ∷ []))) (toks t) at k l ∙ ap (λ x. count p (take at (toks t)) + cond (p (terminal_at (x ∷ []))) 1 0) (token_of t at k us l e)

zero_not : (n : ℕ) (ts : List Tok) → n ≤ 0 → Over n ts → ⊥
zero_not zero ts low over = omega (arith, over)
zero_not (suc n) ts low over = omega (arith, low)

byte : (b : Bool) → bool_byte b ≡ cond b 1 0
byte true = refl
byte false = refl

pub levels_none : (t : List Token) → LevelsSoFar t 0 0 0
levels_none t = record {
  high = omega arith;
  opening = refl;
  closing = refl;
  few = (omega arith, omega arith);
  none = λ n low over. zero_not n (toks t) low over;
}

module _ (t : List Token) (at opened closed : ℕ) (kept : LevelsSoFar t at opened closed) (k : Tok) (us : List Tok) (low : at < length t) (is : from t at ≡ k ∷ us) (s : Terminal) (same : s ≡ terminal_at (k ∷ [])) where
  within : at < length (toks t)
  within = rw (length-map t tok_of) low

  -- one token more
  opened_next : opened + cond (opens (terminal_at (k ∷ []))) 1 0 ≡ count opens (take (at + 1) (toks t))
  opened_next = ap (λ x. x + cond (opens (terminal_at (k ∷ []))) 1 0) kept.opening ∙ sym (count_next opens t at k us within is)

  closed_next : closed + cond (closes (terminal_at (k ∷ []))) 1 0 ≡ count closes (take (at + 1) (toks t))
  closed_next = ap (λ x. x + cond (closes (terminal_at (k ∷ []))) 1 0) kept.closing ∙ sym (count_next closes t at k us within is)

  none_by : (o c : ℕ) → o ≡ count opens (take (at + 1) (toks t)) → c ≡ count closes (take (at + 1) (toks t)) → (c + MAX_DEPTH < o → ⊥) → (n : ℕ) → n ≤ at + 1 → Over n (toks t) → (at < n) ⊎ (n ≤ at) → ⊥
  none_by o c a b h n l over (inr r) = kept.none n r over
  none_by o c a b h n l over (inl r) =
      let e : n ≡ at + 1 = omega (arith, r, l) in
      let v : Over (at + 1) (toks t) = subst (λ m. Over m (toks t)) e over in
      h (rw (a, b) v)

  none_next : (o c : ℕ) → o ≡ count opens (take (at + 1) (toks t)) → c ≡ count closes (take (at + 1) (toks t)) → (c + MAX_DEPTH < o → ⊥) → (n : ℕ) → n ≤ at + 1 → Over n (toks t) → ⊥
  none_next o c a b h n l over = none_by o c a b h n l over (cases_lt at n)

  counted : (p : Terminal → Bool) (b : Bool) → b ≡ p s → bool_byte b ≡ cond (p (terminal_at (k ∷ []))) 1 0
  counted p b e = byte b ∙ ap (λ x. cond x 1 0) (e ∙ ap p same)

  opened_now : (b : Bool) → b ≡ opens s → opened + bool_byte b ≡ count opens (take (at + 1) (toks t))
  opened_now b e = ap (λ x. opened + x) (counted opens b e) ∙ opened_next

  closed_now : (b : Bool) → b ≡ closes s → closed + bool_byte b ≡ count closes (take (at + 1) (toks t))
  closed_now b e = ap (λ x. closed + x) (counted closes b e) ∙ closed_next

  at_most : (n : ℕ) (b : Bool) → n ≤ at → n + bool_byte b ≤ at + 1
  at_most n true l = omega (arith, l)
  at_most n false l = omega (arith, l)

  pub levels_next : (b d : Bool) → b ≡ opens s → d ≡ closes s → (closed + bool_byte d + MAX_DEPTH < opened + bool_byte b → ⊥) → LevelsSoFar t (at + 1) (opened + bool_byte b) (closed + bool_byte d)
  levels_next b d e f h = record {
    high = omega (arith, low);
    opening = opened_now b e;
    closing = closed_now d f;
    few = (at_most opened b kept.few.0, at_most closed d kept.few.1);
    none = none_next (opened + bool_byte b) (closed + bool_byte d) (opened_now b e) (closed_now d f) h;
  }

  pub levels_over : (b d : Bool) → b ≡ opens s → d ≡ closes s → closed + bool_byte d + MAX_DEPTH < opened + bool_byte b → TooDeep (toks t)
  levels_over b d e f h =
      let v : count closes (take (at + 1) (toks t)) + MAX_DEPTH < count opens (take (at + 1) (toks t)) = rw (sym (opened_now b e), sym (closed_now d f)) h in
      (at + 1, v)

-- the whole list
behind_end : (ts : List Tok) (n : ℕ) → drop n ts ≡ [] → length ts ≤ n
behind_end [] n e = omega arith
behind_end (k ∷ ts) zero e = cc
behind_end (k ∷ ts) (suc n) e = let r = behind_end ts n e in omega (arith, r)

module _ (t : List Token) (at opened closed : ℕ) (kept : LevelsSoFar t at opened closed) (e : from t at ≡ []) where
  all_read : length (toks t) ≤ at
  all_read = behind_end (toks t) at (drop-map tok_of at t ∙ e)

  none_behind : (n : ℕ) → Over n (toks t) → (at < n) ⊎ (n ≤ at) → ⊥
  none_behind n over (inr r) = kept.none n r over
  none_behind n over (inl r) =
      let l = all_read in
      let p = take_all n (toks t) (omega (arith, l, r)) in
      let q = take_all at (toks t) l in
      kept.none at (omega arith) (subst (λ m. count closes m + MAX_DEPTH < count opens m) (p ∙ sym q) over)

  pub levels_all : TooDeep (toks t) → ⊥
  levels_all d = none_behind d.0 d.1 (cases_lt at d.0)
