-- Pieces that are made of the parts of a list, one after another.
use Rattle.std.proofs.Common.{◌≡◌, ◌+◌, List, [], ◌∷◌, ◌++◌, length, sym, ap, ◌∙◌, subst}
use Rattle.std.specs.List.{All, flat_map}
use Rattle.std.proofs.lemmas.List.{append-nil, length_push}
use Rattle.std.proofs.lemmas.List.Concat.{flat_map-append}
use Rattle.std.proofs.lemmas.List.Elements.{All-cons, All-head, All-nil, All-push, All-tail}
use Rattle.mq_answers.specs.Cuts.{joined}

-- what holds of two lists, one behind the other, holds of each
module _ {T : Type 0} (P : T → Type 0) where
  front : (xs ys : List T) → All P (xs ++ ys) → All P xs
  front [] ys h = All-nil P
  front (x ∷ xs) ys h = All-cons P x xs (All-head P x (xs ++ ys) h) (front xs ys (All-tail P x (xs ++ ys) h))

  back : (xs ys : List T) → All P (xs ++ ys) → All P ys
  back [] ys h = h
  back (x ∷ xs) ys h = back xs ys (All-tail P x (xs ++ ys) h)

  -- what holds of the items of all parts holds of those of one
  pub of_part : (gone : List (List T)) (part : List T) (rest : List (List T)) → All P (joined (gone ++ part ∷ rest)) → All P part
  of_part [] part rest h = front part (joined rest) h
  of_part (g ∷ gone) part rest h = of_part gone part rest (back g (joined (gone ++ part ∷ rest)) h)

module _ {S T : Type 0} (f : S → List T) where
  -- the items of one more
  pub items_push : (ss : List S) (s : S) → flat_map f (ss ++ s ∷ []) ≡ flat_map f ss ++ f s
  items_push ss s = flat_map-append f ss (s ∷ []) ∙ ap (λ l. flat_map f ss ++ l) (append-nil (f s))

  -- each part so far has its piece
  pub record Made (Can : S → Type 0) (gone : List (List T)) (made : List S) : Type 0 where
    pub count : length made ≡ length gone
    pub same : flat_map f made ≡ joined gone
    pub can : All Can made

module _ {S T : Type 0} (f : S → List T) (Can : S → Type 0) where
  pub made_start : (made : List S) → made ≡ [] → Made f Can [] made
  made_start made e = record {
    count = ap length e;
    same = ap (flat_map f) e;
    can = subst (All Can) (sym e) (All-nil Can);
  }

  pub made_next : (gone : List (List T)) (made : List S) (part : List T) (s : S) (after : List S) → after ≡ made ++ s ∷ [] → f s ≡ part → Can s
      → Made f Can gone made → Made f Can (gone ++ part ∷ []) after
  made_next gone made part s after e has can w = record {
    count = ap length e ∙ length_push made s ∙ ap (λ n. n + 1) w.count ∙ sym (length_push gone part);
    same =
        ap (flat_map f) e ∙ items_push f made s ∙ (λ i. w.same i ++ has i)
        ∙ sym (items_push (λ (part : List T). part) gone part);
    can = subst (All Can) (sym e) (All-push Can made s w.can can);
  }
