-- One byte more of a part, and the fault of a word by its two tests.
use Rattle.std.proofs.Common.{◌≡◌, ◌≢◌, ℕ, ◌+◌, ◌<◌, ◌≤◌, eqb, Bool, true, false, not, ◌||◌, ◌&&◌, List, length, get_or, drop, Option, Some, None, refl, sym, ap, ◌∙◌, add-one, arith, drop-cons}
use Rattle.std.specs.Str.{IsUtf8, is_utf8}
use Rattle.std.proofs.lemmas.Bool.Decides.{nat_tests}
use Rattle.std.proofs.lemmas.List.{drop_all}
use Rattle.std.proofs.lemmas.Str.{IsUtf8-from_is_utf8, is_utf8-from_IsUtf8}
use Rattle.percent_encoding.specs.Percent.{percent_decode}
use Rattle.std.specs.Option.{option_or}
use Rattle.swift_words.specs.declared.fault.WordFault.{WordFault}
use Rattle.swift_words.specs.declared.fault.WordFault.TheVariants.{BadEscape, BadUtf8}
use Rattle.swift_words.specs.Parts.{Tells, begins_with_digits, has_whole_escapes, word_fault}

-- ---- escapes

escapes_at : (bytes : List ℕ) (i : ℕ) → i < length bytes
    → has_whole_escapes (drop i bytes)
    ≡ ((not (eqb (get_or bytes i 0) 37) || begins_with_digits (drop (i + 1) bytes)) && has_whole_escapes (drop (i + 1) bytes))
unfolding has_whole_escapes
escapes_at bytes i lt = rw add-one (ap has_whole_escapes (drop-cons bytes i 0 lt))

pub escape_cut : (bytes : List ℕ) (i : ℕ) → i < length bytes → get_or bytes i 0 ≡ 37
    → begins_with_digits (drop (i + 1) bytes) ≡ false → has_whole_escapes (drop i bytes) ≡ false
escape_cut bytes i lt is cut = escapes_at bytes i lt ∙ rw (is, cut) refl

pub escape_passed : (bytes : List ℕ) (i : ℕ) → i < length bytes → get_or bytes i 0 ≡ 37
    → begins_with_digits (drop (i + 1) bytes) ≡ true → has_whole_escapes (drop (i + 1) bytes) ≡ has_whole_escapes (drop i bytes)
escape_passed bytes i lt is whole = sym (escapes_at bytes i lt ∙ rw (is, whole) refl)

pub plain_passed : (bytes : List ℕ) (i : ℕ) → i < length bytes → get_or bytes i 0 ≢ 37
    → has_whole_escapes (drop (i + 1) bytes) ≡ has_whole_escapes (drop i bytes)
plain_passed bytes i lt other =
    let not_mark : eqb (get_or bytes i 0) 37 ≡ false = grind (arith, nat_tests) in
    sym (escapes_at bytes i lt ∙ rw not_mark refl)

pub escapes_end : (bytes : List ℕ) (i : ℕ) → length bytes ≤ i → has_whole_escapes (drop i bytes) ≡ true
unfolding has_whole_escapes
escapes_end bytes i past = ap has_whole_escapes (drop_all i bytes past)

pub ruleset escape_steps = (escape_cut, escape_passed, plain_passed, escapes_end)

-- ---- words

pub word_malformed : (part : List ℕ) → has_whole_escapes part ≡ false → word_fault part ≡ Some BadEscape
unfolding word_fault
word_malformed part cut = rw cut refl

pub word_whole : (part : List ℕ) → has_whole_escapes part ≡ true → IsUtf8 (percent_decode part) → word_fault part ≡ None
unfolding word_fault
word_whole part whole text = rw (whole, is_utf8-from_IsUtf8 (percent_decode part) text) refl

no_text : (bytes : List ℕ) → ¬ (IsUtf8 bytes) → is_utf8 bytes ≡ false
no_text bytes none = by_test (is_utf8 bytes) refl
  where
    by_test : (test : Bool) → is_utf8 bytes ≡ test → test ≡ false
    by_test true is = absurd (none (IsUtf8-from_is_utf8 bytes is))
    by_test false is = refl

pub word_no_text : (part : List ℕ) → has_whole_escapes part ≡ true → ¬ (IsUtf8 (percent_decode part)) → word_fault part ≡ Some BadUtf8
unfolding word_fault
word_no_text part whole none = rw (whole, no_text (percent_decode part) none) refl

pub ruleset word_cases = (word_malformed, word_whole, word_no_text)

-- ---- the first of two faults

pub tells_first : (first later : Option WordFault) (fault : WordFault) → Tells first fault → Tells (option_or first later) fault
tells_first first later fault told other = rw (told other) refl

pub tells_later : (first later : Option WordFault) (fault : WordFault) → first ≡ None → Tells later fault
    → Tells (option_or first later) fault
tells_later first later fault none told other = rw none (told other)

pub no_fault : (first later : Option WordFault) → first ≡ None → later ≡ None → option_or first later ≡ None
no_fault first later none none_later = rw none none_later

pub ruleset fault_order = (tells_first, tells_later, no_fault)
