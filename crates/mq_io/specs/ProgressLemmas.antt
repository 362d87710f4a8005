-- What was written in several pieces.
use Rattle.std.proofs.Common.{◌≡◌, ℕ, ◌+◌, ◌-◌, List, ◌++◌, length, take, drop, Option, sym, ap, ◌∙◌, subst, append_assoc, arith, length-drop, take-append-drop}
use Rattle.std.proofs.Math.Seq.{take-add}
use Rattle.std.proofs.lemmas.List.{take_all}
use Rattle.std.proofs.KnownBytes.{Appends-trans, Appends-kept}
use Rattle.std.specs.Io.KnownBytes.{Appends, Keeps}
use Rattle.mq_io.specs.Progress.{AppendsFront}

-- a whole, and then a front of what follows it
pub AppendsFront-after : (a b c : Option (List ℕ)) (xs ys : List ℕ) → Appends a b xs → AppendsFront b c ys → AppendsFront a c (xs ++ ys)
AppendsFront-after a b c xs ys p q =
    (xs ++ q.0, q.1, ap (λ l. xs ++ l) q.2 ∙ sym (append_assoc xs q.0 q.1), Appends-trans a b c xs q.0 p q.3)

-- a front of the first part is a front of the whole
pub AppendsFront-of_part : (a b : Option (List ℕ)) (xs ys : List ℕ) → AppendsFront a b xs → AppendsFront a b (xs ++ ys)
AppendsFront-of_part a b xs ys p = (p.0, p.1 ++ ys, ap (λ l. l ++ ys) p.2 ∙ append_assoc p.0 p.1 ys, p.3)

rest_from : (at : ℕ) (all : List ℕ) → take (length all - at) (drop at all) ≡ drop at all
rest_from at all = take_all (length all - at) (drop at all) (omega (arith, length-drop at all))

-- the first bytes, and then some of the rest
pub Appends-more : (a b c : Option (List ℕ)) (at n : ℕ) (all : List ℕ) → Appends a b (take at all) → Appends b c (take n (take (length all - at) (drop at all))) → Appends a c (take (at + n) all)
Appends-more a b c at n all p q =
    subst (Appends a c) (ap (λ l. take at all ++ take n l) (rest_from at all) ∙ sym (take-add at n all)) (Appends-trans a b c _ _ p q)

-- the first bytes, and then nothing more
pub AppendsFront-take : (a b c : Option (List ℕ)) (at : ℕ) (all : List ℕ) → Appends a b (take at all) → Keeps b c → AppendsFront a c all
AppendsFront-take a b c at all p q = (take at all, drop at all, sym (take-append-drop at all), Appends-kept a b c _ p q)
