-- A scan for the end of a head, one byte on.
use Rattle.std.proofs.Common.{◌≡◌, ◌≢◌, ℕ, ◌<◌, ◌≤◌, ◌⊎◌, Bool, true, false, cond, List, [], ◌∷◌, ◌++◌, suc, length, take, drop, Option, Some, None, refl, sym, ap, ◌∙◌, subst, subst₂, inl, inr, ⊎_elim, arith, append_assoc, length-append, append-nil, take-append-drop, length-take-le}
use Rattle.std.proofs.lemmas.List.{take-append-le, take_all, same_from_push}
use Rattle.std.proofs.lemmas.Bool.{cases_lt, eqb-true, eqb-false, or_parts}
use Rattle.std.specs.Prelude.{◌||◌, ◌==◌}
use Rattle.http_model.specs.Heads.{skip_breaks, EndsIn, EndsHead, HasNoHeadText, IsHeadText}
use Rattle.http_chunks.specs.declared.place.Place.{Place}
use Rattle.http_chunks.specs.declared.place.Place.TheVariants.{Before, Inside, Fresh, Return, Behind, Line}
use Rattle.http_chunks.specs.Scans.{after_byte, then_from, scan_from}
use Rattle.http_chunks.proofs.Scanning.{scan_one, scan_none}
use Rattle.http_intake.specs.Scan.{IsBehind, Scanned, FindsEnd}

-- ---- what a list ends in

-- the last byte of the one ending is the last of all
pub last_is : (text last : List ℕ) (b c : ℕ) → EndsIn (text ++ b ∷ []) (last ++ c ∷ []) → EndsIn text last × (b ≡ c)
last_is text last b c ends =
    let pushed = ends.1 ∙ sym (append_assoc ends.0 last (c ∷ [])) in
    let same = same_from_push text (ends.0 ++ last) b c pushed in
    ((ends.0, same.0), same.1)

pub ends_more : (text last : List ℕ) (c : ℕ) → EndsIn text last → EndsIn (text ++ c ∷ []) (last ++ c ∷ [])
ends_more text last c ends = (ends.0, ap (λ l. l ++ c ∷ []) ends.1 ∙ append_assoc ends.0 last (c ∷ []))

-- a list ends in no more than it has
pub too_short : (text last : List ℕ) → length text < length last → ¬ (EndsIn text last)
too_short text last short ends = omega (arith, ap length ends.1, length-append ends.0 last)

-- no list ends in LF and in LF CR
pub one_end : (text : List ℕ) → EndsIn text (10 ∷ []) → ¬ (EndsIn text (10 ∷ 13 ∷ []))
one_end text lf crlf =
    let both : lf.0 ++ 10 ∷ [] ≡ (crlf.0 ++ 10 ∷ []) ++ 13 ∷ [] = sym lf.1 ∙ crlf.1 ∙ sym (append_assoc crlf.0 (10 ∷ []) (13 ∷ [])) in
    let same : Path ℕ 10 13 = (same_from_push lf.0 (crlf.0 ++ 10 ∷ []) 10 13 both).1 in
    omega (arith, same)

-- ---- the empty lines in front

abbrev is_break : ℕ → Bool
is_break b = (b == 13) || (b == 10)

skip_one : (b : ℕ) (bytes : List ℕ) → skip_breaks (b ∷ bytes) ≡ cond (is_break b) (skip_breaks bytes) (b ∷ bytes)
skip_one b bytes = refl

by_break : (t : Bool) (b c : ℕ) (bytes : List ℕ) → (skip_breaks bytes ≡ [] → skip_breaks (bytes ++ c ∷ []) ≡ skip_breaks (c ∷ []))
    → cond t (skip_breaks bytes) (b ∷ bytes) ≡ [] → cond t (skip_breaks (bytes ++ c ∷ [])) (b ∷ (bytes ++ c ∷ [])) ≡ skip_breaks (c ∷ [])
by_break true b c bytes h e = h e
by_break false b c bytes h e = cc

-- where there were only empty lines, one more byte is the first or a break
pub skip_first : (bytes : List ℕ) (c : ℕ) → skip_breaks bytes ≡ [] → skip_breaks (bytes ++ c ∷ []) ≡ skip_breaks (c ∷ [])
skip_first [] c e = refl
skip_first (b ∷ bytes) c e = by_break (is_break b) b c bytes (skip_first bytes c) e

by_break_more : (t : Bool) (b c : ℕ) (bytes : List ℕ) → (skip_breaks bytes ≢ [] → skip_breaks (bytes ++ c ∷ []) ≡ skip_breaks bytes ++ c ∷ [])
    → cond t (skip_breaks bytes) (b ∷ bytes) ≢ [] → cond t (skip_breaks (bytes ++ c ∷ [])) (b ∷ (bytes ++ c ∷ [])) ≡ cond t (skip_breaks bytes) (b ∷ bytes) ++ c ∷ []
by_break_more true b c bytes h e = h e
by_break_more false b c bytes h e = refl

-- behind the first byte of a line, one more byte is one more
pub skip_more : (bytes : List ℕ) (c : ℕ) → skip_breaks bytes ≢ [] → skip_breaks (bytes ++ c ∷ []) ≡ skip_breaks bytes ++ c ∷ []
skip_more [] c e = absurd (e refl)
skip_more (b ∷ bytes) c e = by_break_more (is_break b) b c bytes (skip_more bytes c) e

-- ---- one byte more

-- a front of the bytes and one more is a front of the bytes, or all of them
fronts : (seen : List ℕ) (b n : ℕ) → ((n ≤ length seen) × (take n (seen ++ b ∷ []) ≡ take n seen)) ⊎ (take n (seen ++ b ∷ []) ≡ seen ++ b ∷ [])
fronts seen b n =
    ⊎_elim (λ above. inr (take_all n (seen ++ b ∷ []) (omega (arith, above, length-append seen (b ∷ []))))) (λ within. inl (within, take-append-le n seen (b ∷ []) within))
    (cases_lt (length seen) n)

pub open_more : (seen : List ℕ) (b : ℕ) → HasNoHeadText seen → ¬ (EndsHead (seen ++ b ∷ [])) → HasNoHeadText (seen ++ b ∷ [])
open_more seen b open_so_far not_here n ends =
    ⊎_elim (λ below. open_so_far n (subst EndsHead below.1 ends)) (λ all. not_here (subst EndsHead all ends)) (fronts seen b n)

pub ends_here : (seen : List ℕ) (b : ℕ) → HasNoHeadText seen → EndsHead (seen ++ b ∷ []) → IsHeadText (seen ++ b ∷ [])
ends_here seen b open_so_far here = record {
  ends = here;
  first = λ n below ends.
      let within : n ≤ length seen = omega (arith, length-append seen (b ∷ [])) in
      open_so_far n (subst EndsHead (take-append-le n seen (b ∷ []) within) ends);
}

-- ---- the place behind one more byte

-- the text ends in an empty line
abbrev EndsText : List ℕ → Type 0
EndsText text = EndsIn text (10 ∷ 10 ∷ []) ⊎ EndsIn text (10 ∷ 13 ∷ 10 ∷ [])

-- what the place behind the last byte of a text says of it
abbrev Tells : List ℕ → Option Place → Type 0
Tells text None = EndsText text
Tells text (Some place) = IsBehind text place × ¬ (EndsText text)

not_lf : (text : List ℕ) (b : ℕ) → b ≢ 10 → ¬ (EndsText (text ++ b ∷ []))
not_lf text b other ends =
    ⊎_elim (λ e. other (last_is text (10 ∷ []) b 10 e).1) (λ e. other (last_is text (10 ∷ 13 ∷ []) b 10 e).1) ends

not_empty : (text : List ℕ) (b : ℕ) → text ++ b ∷ [] ≢ []
not_empty text b e = omega (arith, ap length e, length-append text (b ∷ []))

-- the last byte is neither LF, nor CR at the start of a line
is_inside : (text : List ℕ) (b : ℕ) → b ≢ 10 → (EndsIn text (10 ∷ []) → b ≢ 13) → Tells (text ++ b ∷ []) (Some Inside)
is_inside text b other not_return =
    let not_fresh : ¬ (EndsIn (text ++ b ∷ []) (10 ∷ [])) = λ e. other (last_is text [] b 10 e).1 in
    let not_returned : ¬ (EndsIn (text ++ b ∷ []) (10 ∷ 13 ∷ [])) = λ e. let l = last_is text (10 ∷ []) b 13 e in not_return l.0 l.1 in
    ((not_empty text b, not_fresh, not_returned), not_lf text b other)

before_more : (b : ℕ) (t : Bool) → ((b == 13) || (b == 10)) ≡ t → Tells (cond t [] (b ∷ [])) (cond t (Some Before) (Some Inside))
before_more b true is =
    (refl, λ ends. ⊎_elim (too_short [] (10 ∷ 10 ∷ []) (omega arith)) (too_short [] (10 ∷ 13 ∷ 10 ∷ []) (omega arith)) ends)
before_more b false is =
    let other : ((b == 13) ≡ false) × ((b == 10) ≡ false) = or_parts (b == 13) (b == 10) is in is_inside [] b (eqb-false b 10 other.1) (λ e. eqb-false b 13 other.0)

inside_more : (text : List ℕ) (b : ℕ) (t : Bool) → (b == 10) ≡ t → IsBehind text Inside → Tells (text ++ b ∷ []) (cond t (Some Fresh) (Some Inside))
inside_more text b true is inside = (
  (text, ap (λ c. text ++ c ∷ []) (eqb-true b 10 is)),
  λ ends. ⊎_elim (λ e. inside.1 (last_is text (10 ∷ []) b 10 e).0) (λ e. inside.2 (last_is text (10 ∷ 13 ∷ []) b 10 e).0) ends,
)
inside_more text b false is inside = is_inside text b (eqb-false b 10 is) (λ e. absurd (inside.1 e))

fresh_more : (text : List ℕ) (b : ℕ) (t u : Bool) → (b == 10) ≡ t → (b == 13) ≡ u → IsBehind text Fresh
    → Tells (text ++ b ∷ []) (cond t None (cond u (Some Return) (Some Inside)))
fresh_more text b true u is_lf is_cr fresh =
    inl (subst (λ c. EndsIn (text ++ c ∷ []) (10 ∷ 10 ∷ [])) (sym (eqb-true b 10 is_lf)) (ends_more text (10 ∷ []) 10 fresh))
fresh_more text b false true is_lf is_cr fresh =
    (subst (λ c. EndsIn (text ++ c ∷ []) (10 ∷ 13 ∷ [])) (sym (eqb-true b 13 is_cr)) (ends_more text (10 ∷ []) 13 fresh), not_lf text b (eqb-false b 10 is_lf))
fresh_more text b false false is_lf is_cr fresh = is_inside text b (eqb-false b 10 is_lf) (λ e. eqb-false b 13 is_cr)

return_more : (text : List ℕ) (b : ℕ) (t : Bool) → (b == 10) ≡ t → IsBehind text Return → Tells (text ++ b ∷ []) (cond t None (Some Inside))
return_more text b true is returned =
    inr (subst (λ c. EndsIn (text ++ c ∷ []) (10 ∷ 13 ∷ 10 ∷ [])) (sym (eqb-true b 10 is)) (ends_more text (10 ∷ 13 ∷ []) 10 returned))
return_more text b false is returned = is_inside text b (eqb-false b 10 is) (λ e. absurd (one_end text e returned))

-- a text that ends in something is not empty
some_text : (text last : List ℕ) → 0 < length last → EndsIn text last → text ≢ []
some_text text last some ends none = omega (arith, ap length ends.1, ap length none, length-append ends.0 last)

tells_more : (seen : List ℕ) (b : ℕ) (place : Place) → IsBehind (skip_breaks seen) place → Tells (skip_breaks (seen ++ b ∷ [])) (after_byte place b)
tells_more seen b Before at =
    subst (λ text. Tells text (after_byte Before b)) (sym (skip_first seen b at)) (before_more b ((b == 13) || (b == 10)) refl)
tells_more seen b Inside at =
    subst (λ text. Tells text (after_byte Inside b)) (sym (skip_more seen b at.0)) (inside_more (skip_breaks seen) b (b == 10) refl at)
tells_more seen b Fresh at =
    subst (λ text. Tells text (after_byte Fresh b)) (sym (skip_more seen b (some_text (skip_breaks seen) (10 ∷ []) (omega arith) at)))
    (fresh_more (skip_breaks seen) b (b == 10) (b == 13) refl refl at)
tells_more seen b Return at =
    subst (λ text. Tells text (after_byte Return b)) (sym (skip_more seen b (some_text (skip_breaks seen) (10 ∷ 13 ∷ []) (omega arith) at)))
    (return_more (skip_breaks seen) b (b == 10) refl at)
tells_more seen b Behind at = absurd at
tells_more seen b Line at = absurd at

-- no head is empty
pub no_head : ¬ (EndsHead [])
no_head ends = ⊎_elim (too_short [] (10 ∷ 10 ∷ []) (omega arith)) (too_short [] (10 ∷ 13 ∷ 10 ∷ []) (omega arith)) ends

-- before the first byte
pub scanned_none : Scanned [] Before
scanned_none = record {
  open_so_far = λ n ends. no_head (subst EndsHead (take_all n [] (omega arith)) ends);
  behind = refl;
}

pub scanned_more : (seen : List ℕ) (b : ℕ) (place next : Place) → Scanned seen place → after_byte place b ≡ Some next → Scanned (seen ++ b ∷ []) next
scanned_more seen b place next scanned is =
    let told = subst (Tells (skip_breaks (seen ++ b ∷ []))) is (tells_more seen b place scanned.behind) in
    record { open_so_far = open_more seen b scanned.open_so_far told.1; behind = told.0 }

pub scanned_end : (seen : List ℕ) (b : ℕ) (place : Place) → Scanned seen place → after_byte place b ≡ None → IsHeadText (seen ++ b ∷ [])
scanned_end seen b place scanned is =
    ends_here seen b scanned.open_so_far (subst (Tells (skip_breaks (seen ++ b ∷ []))) is (tells_more seen b place scanned.behind))

-- ---- all the bytes that are left

take_front : (xs ys : List ℕ) (n : ℕ) → length xs ≡ n → take n (xs ++ ys) ≡ xs
take_front xs ys n is = take-append-le n xs ys (omega (arith, is)) ∙ take_all n xs (omega (arith, is))

further : (o : Option Place) (seen : List ℕ) (b : ℕ) (rest : List ℕ) (place : Place) → Scanned seen place → after_byte place b ≡ o
    → ((next : Place) → Scanned (seen ++ b ∷ []) next → FindsEnd ((seen ++ b ∷ []) ++ rest) (scan_from next (length (seen ++ b ∷ [])) rest))
    → FindsEnd (seen ++ b ∷ rest) (then_from (λ next. scan_from next (suc (length seen)) rest) (suc (length seen)) o)
further None seen b rest place scanned is later =
    let text : take (suc (length seen)) (seen ++ b ∷ rest) ≡ seen ++ b ∷ [] =
    ap (take (suc (length seen))) (sym (append_assoc seen (b ∷ []) rest)) ∙ take_front (seen ++ b ∷ []) rest (suc (length seen)) (omega (arith, length-append seen (b ∷ []))) in
    (omega (arith, length-append seen (b ∷ rest)), subst IsHeadText (sym text) (scanned_end seen b place scanned is))
further (Some next) seen b rest place scanned is later =
    let count : length (seen ++ b ∷ []) ≡ suc (length seen) = omega (arith, length-append seen (b ∷ [])) in
    subst₂ FindsEnd (append_assoc seen (b ∷ []) rest) (ap (λ n. scan_from next n rest) count) (later next (scanned_more seen b place next scanned is))

finds_from : (rest seen : List ℕ) (place : Place) → Scanned seen place → FindsEnd (seen ++ rest) (scan_from place (length seen) rest)
finds_from [] seen place scanned =
    subst₂ FindsEnd (sym (append-nil seen)) (sym (scan_none place (length seen))) scanned
finds_from (b ∷ rest) seen place scanned =
    subst (FindsEnd (seen ++ b ∷ rest)) (sym (scan_one place (length seen) b rest))
    (further (after_byte place b) seen b rest place scanned refl (λ next more. finds_from rest (seen ++ b ∷ []) next more))

pub finds_end : (bytes : List ℕ) (seen : ℕ) (place : Place) → seen ≤ length bytes → Scanned (take seen bytes) place → FindsEnd bytes (scan_from place seen (drop seen bytes))
finds_end bytes seen place within scanned =
    subst₂ FindsEnd (take-append-drop seen bytes) (ap (λ n. scan_from place n (drop seen bytes)) (length-take-le seen bytes within))
    (finds_from (drop seen bytes) (take seen bytes) place scanned)
