-- Two lists that read the same tokens are equal, where their members are.
use Rattle.std.proofs.Common.{ℕ, ◌<◌, ◌≤◌, List, ◌∷◌, refl, subst, arith}
use Rattle.mq_lexer.specs.declared.terminals.Symbol.TheVariants as sign
use Rattle.mq_lexer.specs.declared.terminals.Terminal.{Terminal}
use Rattle.mq_lexer.specs.declared.terminals.Terminal.TheVariants as terminal
use Rattle.mq_ast.specs.Tokens.{Tok, comma}
use Rattle.mq_ast.specs.Continuing.{loose, Stops, Not}
use Rattle.mq_ast.specs.OneTree.{OneTree}
use Rattle.mq_ast.specs.GrammarLists.{MoreOf, more_end, more_comma, SomeOf, some_of, ManyOf, many_end, many_more, NameE, name}
use Rattle.mq_ast.specs.Laws.CommonLemmas.{Same, begin}

-- Members end at a `Stop`, as before a comma. The list ends at an `End`, where no member stands behind a comma.
module _ (A : Type 0) (R : A → List Tok → List Tok → Type 0) (Stop End : List Tok → Type 0) (same : OneTree R Stop) (weaker : (ts : List Tok) → End ts → Stop ts) (go_on : (ts : List Tok) → Stop (comma ∷ ts)) (no_more : (a : A) (ts mid : List Tok) → End (comma ∷ ts) → R a ts mid → ⊥) where
  pub more_stop : {xs : List A} {from to : List Tok} → MoreOf R xs from to → End to → Stop from
  more_stop more_end s = weaker _ s
  more_stop (more_comma d ds) s = go_on _

  pub more_same : {xs xs' : List A} {from to to' : List Tok} → MoreOf R xs from to → MoreOf R xs' from to' → End to → End to' → Same xs xs' to to'
  more_same more_end more_end s s' = (refl, refl)
  more_same more_end (more_comma d ds) s s' = absurd (no_more _ _ _ s d)
  more_same (more_comma d ds) more_end s s' = absurd (no_more _ _ _ s' d)
  more_same (more_comma d ds) (more_comma d' ds') s s' =
      let p = same _ _ _ _ _ d d' (more_stop ds s) (more_stop ds' s') in
      let q = more_same ds (begin (MoreOf R) p.1 ds') s s' in
      (cc, q.1)

  pub some_same : {xs xs' : List A} {from to to' : List Tok} → SomeOf R xs from to → SomeOf R xs' from to' → End to → End to' → Same xs xs' to to'
  some_same (some_of d ds) (some_of d' ds') s s' =
      let p = same _ _ _ _ _ d d' (more_stop ds s) (more_stop ds' s') in
      let q = more_same ds (begin (MoreOf R) p.1 ds') s s' in
      (cc, q.1)

-- Without commas: a member ends where another begins, and none begins at an `End`.
module _ (A : Type 0) (R : A → List Tok → List Tok → Type 0) (Stop End : List Tok → Type 0) (same : OneTree R Stop) (weaker : (ts : List Tok) → End ts → Stop ts) (go_on : (a : A) (ts mid : List Tok) → R a ts mid → Stop ts) (no_more : (a : A) (ts mid : List Tok) → End ts → R a ts mid → ⊥) where
  pub many_stop : {xs : List A} {from to : List Tok} → ManyOf R xs from to → End to → Stop from
  many_stop many_end s = weaker _ s
  many_stop (many_more d ds) s = go_on _ _ _ d

  pub many_same : {xs xs' : List A} {from to to' : List Tok} → ManyOf R xs from to → ManyOf R xs' from to' → End to → End to' → Same xs xs' to to'
  many_same many_end many_end s s' = (refl, refl)
  many_same many_end (many_more d ds) s s' = absurd (no_more _ _ _ s d)
  many_same (many_more d ds) many_end s s' = absurd (no_more _ _ _ s' d)
  many_same (many_more d ds) (many_more d' ds') s s' =
      let p = same _ _ _ _ _ d d' (many_stop ds s) (many_stop ds' s') in
      let q = many_same ds (begin (ManyOf R) p.1 ds') s s' in
      (cc, q.1)

-- whatever follows
abbrev pub Whatever : List Tok → Type 0
Whatever _ = Unit {0}

pub name_same : OneTree NameE Whatever
name_same _ _ _ _ _ name name s s' = (refl, refl)

pub names_same : {ns ns' : List (List ℕ)} {from to to' : List Tok} → SomeOf NameE ns from to → SomeOf NameE ns' from to' → Not (terminal.Sign sign.Comma) to → Not (terminal.Sign sign.Comma) to' → Same ns ns' to to'
names_same = some_same (List ℕ) NameE Whatever (Not (terminal.Sign sign.Comma)) name_same (λ ts s. tt) (λ ts. tt) (λ a ts mid s d. s refl)

-- a token that goes on at a level does not stand where none does
pub stops_not : (level : ℕ) (t : Terminal) (ts : List Tok) → loose t ≤ level → Stops level ts → Not t ts
stops_not level t ts h s e = let P : Terminal → Type 0 = λ k. level < loose k in let g : level < loose t = subst P e s in absurd (omega arith)
