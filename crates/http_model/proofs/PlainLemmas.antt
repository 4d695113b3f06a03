-- What begins with a head is more than empty lines.
use Rattle.std.proofs.Common.{◌≡◌, ℕ, ◌≤◌, ◌==◌, ◌||◌, Bool, true, false, cond, refl, ◌≢◌, List, [], ◌∷◌, ◌++◌, length, ap, sym, ◌∙◌, inl, inr, arith}
use Rattle.std.proofs.lemmas.List.{length-append}
use Rattle.http_model.specs.Heads.{skip_breaks, EndsIn, EndsHead, BeginsWithText}

-- the bytes have no fewer than they end in
ends_in_some : (bytes last : List ℕ) → EndsIn bytes last → length last ≤ length bytes
ends_in_some bytes last (front, is) = omega (arith, ap length is, length-append front last)

-- where the whole is empty lines, each front of it is
skip_more : (breaks : Bool) (b : ℕ) (front rest : List ℕ)
    → cond breaks (skip_breaks (front ++ rest)) (b ∷ (front ++ rest)) ≡ []
    → (skip_breaks (front ++ rest) ≡ [] → skip_breaks front ≡ []) → cond breaks (skip_breaks front) (b ∷ front) ≡ []
skip_more true b front rest e further = further e
skip_more false b front rest e further = absurd (cc)

skip_front : (front rest : List ℕ) → skip_breaks (front ++ rest) ≡ [] → skip_breaks front ≡ []
skip_front [] rest e = refl
skip_front (b ∷ front) rest e = skip_more ((b == 13) || (b == 10)) b front rest e (skip_front front rest)

-- the text of a head has more than empty lines
ends_not_blank : (text : List ℕ) → EndsHead text → skip_breaks text ≢ []
ends_not_blank text (inl ends) blank = omega (arith, ends_in_some (skip_breaks text) (10 ∷ 10 ∷ []) ends, ap length blank)
ends_not_blank text (inr ends) blank = omega (arith, ends_in_some (skip_breaks text) (10 ∷ 13 ∷ 10 ∷ []) ends, ap length blank)

pub begun_not_blank : (bytes text rest : List ℕ) → BeginsWithText bytes text rest → skip_breaks bytes ≢ []
begun_not_blank bytes text rest begins blank =
    ends_not_blank text begins.is_text.ends (skip_front text rest (ap skip_breaks (sym begins.whole) ∙ blank))
