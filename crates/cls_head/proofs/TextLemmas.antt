-- Texts and pairs in bytes.
use Rattle.std.proofs.Common.{◌≡◌, ℕ, zero, suc, ◌+◌, ◌<◌, ◌≤◌, List, [], ◌∷◌, ◌++◌, length, take, drop, get_or, refl, sym, ap, ap₂, ◌∙◌, arith, subst, append_assoc, length-append}
use Rattle.std.specs.List.{AllByRecursion}
use Rattle.std.proofs.lemmas.List.{take_more, drop_more, append-nil}
use Rattle.index_entry.specs.Numbers.{number_bytes}
use Rattle.index_entry.proofs.PieceLemmas.{length-number_bytes}
use Rattle.cls_head.specs.Layouts.{IsPair, pairs_bytes, text_bytes}

-- bytes that begin with a number are eight at least
pub number_long : (bs : List ℕ) (x : ℕ) (rest : List ℕ) → bs ≡ number_bytes x ++ rest → 8 ≤ length bs
number_long bs x rest here = omega (arith, ap length here, length-append (number_bytes x) rest, length-number_bytes x)

-- a text with what is behind it
pub text_split : (text rest : List ℕ) → text_bytes text ++ rest ≡ number_bytes (length text) ++ (text ++ rest)
text_split text rest = append_assoc (number_bytes (length text)) text rest

abbrev pub Pair : Type 0
Pair = List ℕ × List ℕ

abbrev no_pair : Pair
no_pair = ([], [])

-- the pair at a place, and what follows it
pub record PairAt (all : List Pair) (place : ℕ) : Type 0 where
  pub pair : Pair
  pub fits : IsPair pair
  pub here : pairs_bytes (drop place all) ≡ text_bytes pair.0 ++ (text_bytes pair.1 ++ pairs_bytes (drop (place + 1) all))
  pub more : take (place + 1) all ≡ take place all ++ pair ∷ []

pair_fits : (all : List Pair) (place : ℕ) → place < length all → AllByRecursion IsPair all → IsPair (get_or all place no_pair)
pair_fits [] place some fit = absurd (omega (arith, some))
pair_fits (p ∷ ps) zero some fit = fit.0
pair_fits (p ∷ ps) (suc place) some fit = pair_fits ps place (omega (arith, some)) fit.1

pub pair_at : (all : List Pair) (place : ℕ) → place < length all → AllByRecursion IsPair all → PairAt all place
pair_at all place some fit = record {
  pair = get_or all place no_pair;
  fits = pair_fits all place some fit;
  here = ap pairs_bytes (drop_more all place no_pair some);
  more = take_more all place no_pair some;
}

pub pairs_bytes-append : (ps qs : List Pair) → pairs_bytes (ps ++ qs) ≡ pairs_bytes ps ++ pairs_bytes qs
pairs_bytes-append [] qs = refl
pairs_bytes-append (p ∷ ps) qs =
    ap (λ z. text_bytes p.0 ++ (text_bytes p.1 ++ z)) (pairs_bytes-append ps qs)
    ∙ ap (λ z. text_bytes p.0 ++ z) (sym (append_assoc (text_bytes p.1) (pairs_bytes ps) (pairs_bytes qs)))
    ∙ sym (append_assoc (text_bytes p.0) (text_bytes p.1 ++ pairs_bytes ps) (pairs_bytes qs))

-- one pair more behind a front
pub one_pair_more : (front bytes : List ℕ) (ps : List Pair) (place : ℕ) (d : Pair) → place < length ps
    → bytes ≡ front ++ pairs_bytes (take place ps)
    → (bytes ++ text_bytes (get_or ps place d).0) ++ text_bytes (get_or ps place d).1 ≡ front ++ pairs_bytes (take (place + 1) ps)
one_pair_more front bytes ps place d some here =
    let p = get_or ps place d in
    let done = pairs_bytes (take place ps) in
    let more : pairs_bytes (take (place + 1) ps) ≡ done ++ (text_bytes p.0 ++ text_bytes p.1) =
    ap pairs_bytes (take_more ps place d some) ∙ pairs_bytes-append (take place ps) (p ∷ []) ∙ ap (λ z. done ++ (text_bytes p.0 ++ z)) (append-nil (text_bytes p.1)) in
    append_assoc bytes (text_bytes p.0) (text_bytes p.1) ∙ ap (λ z. z ++ (text_bytes p.0 ++ text_bytes p.1)) here
    ∙ append_assoc front done (text_bytes p.0 ++ text_bytes p.1) ∙ ap (λ z. front ++ z) (sym more)

pairs_push : (ps : List Pair) (p : Pair) → AllByRecursion IsPair ps → IsPair p → AllByRecursion IsPair (ps ++ p ∷ [])
pairs_push [] p all fits = (fits, tt)
pairs_push (q ∷ qs) p all fits = (all.0, pairs_push qs p all.1 fits)

pub one_pair_fits : (ps : List Pair) (place : ℕ) (d : Pair) → place < length ps → AllByRecursion IsPair (take place ps) → IsPair (get_or ps place d) → AllByRecursion IsPair (take (place + 1) ps)
one_pair_fits ps place d some all fits =
    subst (AllByRecursion IsPair) (sym (take_more ps place d some)) (pairs_push (take place ps) (get_or ps place d) all fits)

-- a piece behind bytes that are known
pub added : {x y known piece more : List ℕ} → y ≡ x ++ piece → x ≡ known → piece ≡ more → y ≡ known ++ more
added done here is = done ∙ ap₂ (λ a b. a ++ b) here is
