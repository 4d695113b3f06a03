-- What UTF-8 is read as.
use Rattle.std.proofs.Common.{◌≡◌, ℕ, true, List, Option, Some, None, Bor, refl, sym, ap, ◌∙◌}
use Rattle.std.specs.Str.{IsUtf8, is_utf8}
use Rattle.std.specs.Result.{MatchResult, IsOk, is_ok}
use Rattle.std.specs.declared.result.Result.{Result}
use Rattle.std.specs.declared.result.Result.TheVariants.{Ok, Err}
use Rattle.std.proofs.lemmas.Bool.{false_from_ne_true}
use Rattle.std.proofs.lemmas.Str.{IsUtf8-from_is_utf8, is_utf8-from_IsUtf8}
use Rattle.swift_requests.specs.Fields.{is_text_if_any}

-- the answer of a reader of UTF-8
abbrev pub ReadsUtf8 : {E : Type 0} → List ℕ → Result (Bor (List ℕ)) E → (E → Type 0) → Type 0
ReadsUtf8 bytes r Says = MatchResult r (λ text. (text.now ≡ bytes) × IsUtf8 bytes) (λ e. ¬ (IsUtf8 bytes) × Says e)

pub is_read : {E : Type 0} (bytes : List ℕ) (r : Result (Bor (List ℕ)) E) (Says : E → Type 0) → ReadsUtf8 bytes r Says → is_utf8 bytes ≡ true → IsOk r
is_read bytes (Ok text) Says h is = refl
is_read bytes (Err e) Says h is = absurd (h.0 (IsUtf8-from_is_utf8 bytes is))

pub read_is : {E : Type 0} (bytes : List ℕ) (r : Result (Bor (List ℕ)) E) (Says : E → Type 0) → ReadsUtf8 bytes r Says → is_ok r ≡ is_utf8 bytes
read_is bytes (Ok text) Says h = sym (is_utf8-from_IsUtf8 bytes h.1)
read_is bytes (Err e) Says h = sym (false_from_ne_true (is_utf8 bytes) (λ is. h.0 (IsUtf8-from_is_utf8 bytes is)))

-- the value that counts of a field that holds text
pub text_value : (sent : Option (List ℕ)) (value : List ℕ) → Some value ≡ sent → is_text_if_any sent ≡ true → is_utf8 value ≡ true
text_value None value is h = absurd (cc)
text_value (Some other) value is h = let same : value ≡ other = cc in ap is_utf8 same ∙ h
