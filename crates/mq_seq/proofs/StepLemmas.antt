-- Loops over a list: what a fold has made so far, and what is not found yet.
use Rattle.std.proofs.Common.{◌≡◌, ℕ, ◌+◌, ◌<◌, ◌≤◌, List, Bool, true, false, drop, length, get_or, Some, refl, sym, ap, ◌∙◌}
use Rattle.std.specs.Prelude.{if◌then◌else◌}
use Rattle.std.specs.List.{find, fold}
use Rattle.std.proofs.lemmas.List.{drop_all}
use Rattle.mq_ir.specs.StepLaws.{next_item}

-- `fold`: what the first i items made
pub record Folded {A B : Type 0} (f : B → A → B) (first : B) (xs : List A) (i : ℕ) (now : B) : Type 0 where
  pub is : fold f first xs ≡ fold f now (drop i xs)

pub fold_start : {A B : Type 0} (f : B → A → B) (first : B) (xs : List A) → Folded f first xs 0 first
fold_start f first xs = record { is = refl }

pub fold_next : {A B : Type 0} (f : B → A → B) (first : B) (xs : List A) (i : ℕ) (now : B) (x : A) (after : B) → i < length xs → x ≡ get_or xs i x → after ≡ f now x → Folded f first xs i now → Folded f first xs (i + 1) after
fold_next f first xs i now x after h e g w = record {
  is = w.is ∙ ap (fold f now) (next_item xs i x h e) ∙ ap (λ b. fold f b (drop (i + 1) xs)) (sym g);
}

pub fold_end : {A B : Type 0} (f : B → A → B) (first : B) (xs : List A) (i : ℕ) (now : B) → length xs ≤ i → Folded f first xs i now → now ≡ fold f first xs
fold_end f first xs i now h w = sym (w.is ∙ ap (fold f now) (drop_all i xs h))

-- `find`: none of the first i items is the one
pub record Sought {A : Type 0} (test : A → Bool) (xs : List A) (i : ℕ) : Type 0 where
  pub is : find test xs ≡ find test (drop i xs)

at_item : {A : Type 0} (test : A → Bool) (xs : List A) (i : ℕ) (x : A) (b : Bool) → i < length xs → x ≡ get_or xs i x → test x ≡ b → Sought test xs i → find test xs ≡ (if b then Some x else find test (drop (i + 1) xs))
at_item test xs i x b h e g w = w.is ∙ ap (find test) (next_item xs i x h e) ∙ ap (λ t. if t then Some x else find test (drop (i + 1) xs)) g

pub seek_next : {A : Type 0} (test : A → Bool) (xs : List A) (i : ℕ) (x : A) → i < length xs → x ≡ get_or xs i x → test x ≡ false → Sought test xs i → Sought test xs (i + 1)
seek_next test xs i x h e g w = record { is = at_item test xs i x false h e g w }

pub seek_found : {A : Type 0} (test : A → Bool) (xs : List A) (i : ℕ) (x : A) → i < length xs → x ≡ get_or xs i x → test x ≡ true → Sought test xs i → Some x ≡ find test xs
seek_found test xs i x h e g w = sym (at_item test xs i x true h e g w)
