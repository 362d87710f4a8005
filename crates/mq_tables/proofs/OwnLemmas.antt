-- Keys that nobody else holds, in two parts.
use Rattle.std.proofs.Common.{◌≡◌, List, ◌++◌, Bool, true, false, not, ◌||◌, refl, sym, ap, ◌∙◌}
use Rattle.mq_ir.specs.Keys.{Tuple, is_among, is_same}
use Rattle.mq_tables.specs.KeyOrder.{HoldsBoth, PutsTo}
use Rattle.mq_tables.proofs.KeyOrderLemmas.{among_both, or_false}

-- a key is put to the one part or to the other
pub put_first : (last after behind : List Tuple) (key : Tuple) → ((q : Tuple) → is_among after q ≡ (is_same q key || is_among last q)) → PutsTo key (last ++ behind) (after ++ behind)
put_first last after behind key h q =
    among_both after behind q
    ∙ ap (λ b. b || is_among behind q) (h q)
    ∙ grouped (is_same q key) (is_among last q) (is_among behind q)
    ∙ ap (λ b. is_same q key || b) (sym (among_both last behind q))
  where
    grouped : (a b c : Bool) → ((a || b) || c) ≡ (a || (b || c))
    grouped true b c = refl
    grouped false b c = refl

pub new_to_both : (last behind all : List Tuple) (key : Tuple) → last ++ behind ≡ all → is_among last key ≡ false → is_among behind key ≡ false → true ≡ not (is_among all key)
new_to_both last behind all key e f g =
    ap not (sym (sym (ap (λ l. is_among l key) e) ∙ among_both last behind key ∙ ap (λ b. b || is_among behind key) f ∙ g))

-- others are put to the two parts, in parts or together
pub joined : (last after behind others more : List Tuple) → HoldsBoth others last after → HoldsBoth (others ++ more) (last ++ behind) (after ++ (behind ++ more))
joined last after behind others more h q =
    among_both after (behind ++ more) q
    ∙ ap (λ b. b || is_among (behind ++ more) q) (h q)
    ∙ ap (λ b. (is_among others q || is_among last q) || b) (among_both behind more q)
    ∙ turned (is_among others q) (is_among last q) (is_among behind q) (is_among more q)
    ∙ (λ i. sym (among_both others more q) i || sym (among_both last behind q) i)
  where
    turned : (a b c d : Bool) → ((a || b) || (c || d)) ≡ ((a || d) || (b || c))
    turned true b c d = refl
    turned false true c true = refl
    turned false true c false = refl
    turned false false true true = refl
    turned false false true false = refl
    turned false false false d = sym (or_false d)

pub joined_first : (last middle after behind others more : List Tuple) → HoldsBoth others last middle → HoldsBoth more middle after → HoldsBoth (others ++ more) (last ++ behind) (after ++ behind)
joined_first last middle after behind others more h k q =
    among_both after behind q
    ∙ ap (λ b. b || is_among behind q) (k q ∙ ap (λ b. is_among more q || b) (h q))
    ∙ turned (is_among others q) (is_among last q) (is_among behind q) (is_among more q)
    ∙ (λ i. sym (among_both others more q) i || sym (among_both last behind q) i)
  where
    turned : (a b c d : Bool) → ((d || (a || b)) || c) ≡ ((a || d) || (b || c))
    turned true b c true = refl
    turned true b c false = refl
    turned false b c true = refl
    turned false b c false = refl

-- what an ordered set says of all keys that are put to it
pub both_from_union : (others last after : List Tuple) → ((q : Tuple) → is_among after q ≡ (is_among last q || is_among others q)) → HoldsBoth others last after
both_from_union others last after u q = u q ∙ turned (is_among last q) (is_among others q)
  where
    turned : (a b : Bool) → (a || b) ≡ (b || a)
    turned true true = refl
    turned true false = refl
    turned false true = refl
    turned false false = refl
