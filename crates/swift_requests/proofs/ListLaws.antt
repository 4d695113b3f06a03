-- Lists by commas: cut and freed of blanks by the words of std, they are the lists of the standard.
use Rattle.std.proofs.Common.{◌≡◌, ℕ, suc, ◌+◌, ◌-◌, ◌<◌, ◌≤◌, Bool, true, false, cond, ◌==◌, List, [], ◌∷◌, ◌++◌, length, map, take, drop, reverse, All, refl, sym, ap, ap₂, subst, ◌∙◌, arith}
use Rattle.std.specs.Char.{is_ascii_whitespace}
use Rattle.std.specs.List.{onto_first, prefix_len, list_all}
use Rattle.std.proofs.lemmas.Bool.{and_parts}
use Rattle.std.proofs.lemmas.Bool.Decides.{nat_tests}
use Rattle.std.proofs.lemmas.List.{reverse-append, reverse-reverse, length-reverse, take-append-drop, take_at, get_or-reverse, length-drop}
use Rattle.std.proofs.lemmas.List.Elements.{All-head, All-tail, All-nil, All-cons, All-drop}
use Rattle.std.proofs.lemmas.List.Sums.{prefix_len-le-length}
use Rattle.httparse.specs.Grammar.{is_ows, skip_ows, trim_ows}
use Rattle.http1.specs.Fields.{cons_first, split_commas, elements}
use Rattle.swift_auth.specs.Lists.{parts_of, member_in, without_front}
use Rattle.swift_requests.specs.Etags.{is_field_byte}

-- std and the standard take the byte for a blank, or both do not
abbrev IsAlike : ℕ → Type 0
IsAlike b = is_ascii_whitespace b ≡ is_ows b

alike : (b : ℕ) → is_field_byte b ≡ true → IsAlike b
alike b is = grind (arith, nat_tests)

all_alike : (value : List ℕ) → list_all is_field_byte value ≡ true → All IsAlike value
all_alike [] is = All-nil IsAlike
all_alike (b ∷ value) is =
    let parts = and_parts (is_field_byte b) (list_all is_field_byte value) is in
    All-cons IsAlike b value (alike b parts.0) (all_alike value parts.1)

-- ---- cut at commas

onto : (b : ℕ) (pieces : List (List ℕ)) → onto_first b pieces ≡ cons_first b pieces
onto b [] = refl
onto b (piece ∷ pieces) = refl

pub cut : (value : List ℕ) → parts_of value ≡ split_commas value
cut [] = refl
cut (b ∷ value) = rw (cut value, onto b (split_commas value)) refl

-- ---- without blanks

skip_from : (b : ℕ) (text : List ℕ) (blank : Bool) → is_ascii_whitespace b ≡ blank → is_ows b ≡ blank
    → drop (prefix_len is_ascii_whitespace text) text ≡ skip_ows text
    → drop (cond (is_ascii_whitespace b) (1 + prefix_len is_ascii_whitespace text) 0) (b ∷ text) ≡ cond (is_ows b) (skip_ows text) (b ∷ text)
skip_from b text true is too rest =
    let n = prefix_len is_ascii_whitespace text in
    let next : 1 + n ≡ suc n = omega arith in
    rw (is, too) (ap (λ m. drop m (b ∷ text)) next ∙ rest)
skip_from b text false is too rest = rw (is, too) refl

skip : (text : List ℕ) → All IsAlike text → without_front text ≡ skip_ows text
skip [] all = refl
skip (b ∷ text) all =
    skip_from b text (is_ascii_whitespace b) refl (sym (All-head IsAlike b text all)) (skip text (All-tail IsAlike b text all))

alike_back : (text : List ℕ) → All IsAlike text → All IsAlike (reverse text)
alike_back text all k d inside =
    let short : k < length text = rw (← length-reverse text) inside in
    subst IsAlike (sym (get_or-reverse text k d short)) (all (length text - 1 - k) d (omega arith))

back : (n : ℕ) (text : List ℕ) → n ≤ length text → reverse (drop n (reverse text)) ≡ take (length text - n) text
back n text few =
    let turned = reverse text in
    let whole : reverse (drop n turned) ++ reverse (take n turned) ≡ text =
    sym (reverse-append (take n turned) (drop n turned)) ∙ ap reverse (take-append-drop n turned) ∙ reverse-reverse text in
    let so_many : length (reverse (drop n turned)) ≡ length text - n =
    length-reverse (drop n turned) ∙ length-drop n turned ∙ ap (λ m. m - n) (length-reverse text) in
    sym (take_at (reverse (drop n turned)) (reverse (take n turned)) (length text - n) so_many) ∙ ap (take (length text - n)) whole

trimmed : (part : List ℕ) → All IsAlike part → member_in part ≡ trim_ows part
unfolding trim_ows
trimmed part all =
    let front = without_front part in
    let alike = All-drop IsAlike (prefix_len is_ascii_whitespace part) part all in
    let n = prefix_len is_ascii_whitespace (reverse front) in
    sym (back n front (subst (λ m. n ≤ m) (length-reverse front) (prefix_len-le-length is_ascii_whitespace (reverse front))))
    ∙ ap reverse (skip (reverse front) (alike_back front alike))
    ∙ ap (λ text. reverse (skip_ows (reverse text))) (skip part all)

-- ---- both

parts_from : (b : ℕ) (parts : List (List ℕ)) (comma : Bool) → IsAlike b → All (All IsAlike) parts
    → All (All IsAlike) (cond comma ([] ∷ parts) (onto_first b parts))
parts_from b parts true alike all = All-cons (All IsAlike) [] parts (All-nil IsAlike) all
parts_from b [] false alike all =
    All-cons (All IsAlike) (b ∷ []) [] (All-cons IsAlike b [] alike (All-nil IsAlike)) (All-nil (All IsAlike))
parts_from b (part ∷ parts) false alike all =
    All-cons (All IsAlike) (b ∷ part) parts (All-cons IsAlike b part alike (All-head (All IsAlike) part parts all))
    (All-tail (All IsAlike) part parts all)

parts_alike : (value : List ℕ) → All IsAlike value → All (All IsAlike) (parts_of value)
parts_alike [] all = All-cons (All IsAlike) [] [] (All-nil IsAlike) (All-nil (All IsAlike))
parts_alike (b ∷ value) all =
    parts_from b (parts_of value) (b == 44) (All-head IsAlike b value all) (parts_alike value (All-tail IsAlike b value all))

each : (parts : List (List ℕ)) → All (All IsAlike) parts → map member_in parts ≡ map trim_ows parts
each [] all = refl
each (part ∷ parts) all =
    ap₂ (λ p ps. p ∷ ps) (trimmed part (All-head (All IsAlike) part parts all)) (each parts (All-tail (All IsAlike) part parts all))

pub same_elements : (value : List ℕ) → list_all is_field_byte value ≡ true → map member_in (parts_of value) ≡ elements value
unfolding elements
same_elements value is = each (parts_of value) (parts_alike value (all_alike value is)) ∙ ap (map trim_ows) (cut value)
