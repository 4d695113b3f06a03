-- A body in chunks has one reading, whole or not.
use Rattle.std.proofs.Common.{◌≡◌, ℕ, ◌-◌, ◌<◌, ◌≤◌, Bool, true, List, [], ◌∷◌, ◌++◌, length, take, drop, refl, sym, ap, ◌∙◌, subst, subst₂, inl, inr, arith, length-append, take-append-drop, length-take-le}
use Rattle.std.proofs.lemmas.List.{take-append-le}
use Rattle.http_chunks.specs.declared.body.BodyEnd.{BodyEnd}
use Rattle.http_chunks.specs.declared.body.BodyEnd.TheVariants as End
use Rattle.http_chunks.specs.declared.place.Place.{Place}
use Rattle.http_chunks.specs.declared.place.Place.TheVariants.{Fresh}
use Rattle.http_chunks.specs.declared.trailers.TheConstants.{TRAILER_LIMIT}
use Rattle.http_chunks.specs.Scans.{scan_from, opening_start, BeginsWithText, EndsText, IsOpen}
use Rattle.http_chunks.specs.Chunks.{opening_limit, SaysOpening, OpensChunk, AreTrailers, BeginsWithTrailers, IsCutOpening, IsLongOpening, IsNoOpening, IsCutTrailers, AreLongTrailers, AreNoTrailers, EndsBody, AreChunks}
use Rattle.http_chunks.proofs.Scanning.{not_both}
use Rattle.http_chunks.proofs.Bodies.{take_front, drop_front}
use Rattle.http_chunks.proofs.BodyLaws.{scan_here, text_unique, opens_unique, trailers_unique}

-- ---- a text, or none

open_apart : (place : Place) (bytes text rest : List ℕ) → bytes ≡ text ++ rest → EndsText place text → IsOpen place bytes → ⊥
open_apart place bytes text rest whole ends open_so_far =
    not_both (length text) open_so_far.0 (sym open_so_far.1 ∙ ap (scan_from place 0) whole ∙ scan_here text rest place 0 (length text) ends)

text_in_front : (place : Place) (limit : ℕ) (bytes text rest : List ℕ) → BeginsWithText place limit bytes text rest → limit ≤ length bytes
    → take limit bytes ≡ text ++ drop (length text) (take limit bytes)
text_in_front place limit bytes text rest begins within =
    let inside : length text ≤ length (take limit bytes) = omega (arith, begins.fits, length-take-le limit bytes within) in
    let same : take (length text) (take limit bytes) ≡ text =
    sym (take-append-le (length text) (take limit bytes) (drop limit bytes) inside) ∙ ap (take (length text)) (take-append-drop limit bytes ∙ begins.whole)
    ∙ take_front text rest (length text) refl in
    sym (take-append-drop (length text) (take limit bytes)) ∙ ap (λ l. l ++ drop (length text) (take limit bytes)) same

cut_apart : (place : Place) (limit : ℕ) (bytes text rest : List ℕ) → BeginsWithText place limit bytes text rest → (length bytes ≤ limit) × IsOpen place bytes → ⊥
cut_apart place limit bytes text rest begins cut = open_apart place bytes text rest begins.whole begins.ends cut.1

long_apart : (place : Place) (limit : ℕ) (bytes text rest : List ℕ) → BeginsWithText place limit bytes text rest
    → (limit < length bytes) × IsOpen place (take limit bytes) → ⊥
long_apart place limit bytes text rest begins long =
    open_apart place (take limit bytes) text (drop (length text) (take limit bytes))
    (text_in_front place limit bytes text rest begins (omega (arith, long.0))) begins.ends long.1

too_short : (limit n : ℕ) → n ≤ limit → limit < n → ⊥
too_short limit n few many = omega (arith, few, many)

-- ---- trailers

-- how a body ends whose last chunk these bytes follow
data Trail (bytes : List ℕ) : BodyEnd → Type 0 where
  trail_cut : IsCutTrailers bytes → Trail bytes End.Cut
  trail_long : AreLongTrailers bytes → Trail bytes End.BadChunk
  trail_none : AreNoTrailers bytes → Trail bytes End.BadChunk
  trail_whole : (rest : List ℕ) → BeginsWithTrailers bytes rest → Trail bytes End.Whole

no_both_trailers : (bytes rest : List ℕ) → AreNoTrailers bytes → BeginsWithTrailers bytes rest → ⊥
no_both_trailers bytes rest (text, left, begins, none) trailers =
    none (subst AreTrailers (text_unique Fresh TRAILER_LIMIT bytes trailers.0 rest text left trailers.1 begins).0 trailers.2)

same_trail : (bytes : List ℕ) (e f : BodyEnd) → Trail bytes e → Trail bytes f → e ≡ f
same_trail bytes e f (trail_cut x) (trail_cut y) = refl
same_trail bytes e f (trail_cut x) (trail_long y) = absurd (too_short TRAILER_LIMIT (length bytes) x.0 y.0)
same_trail bytes e f (trail_cut x) (trail_none y) = absurd (cut_apart Fresh TRAILER_LIMIT bytes y.0 y.1 y.2 x)
same_trail bytes e f (trail_cut x) (trail_whole rest y) = absurd (cut_apart Fresh TRAILER_LIMIT bytes y.0 rest y.1 x)
same_trail bytes e f (trail_long x) (trail_cut y) = absurd (too_short TRAILER_LIMIT (length bytes) y.0 x.0)
same_trail bytes e f (trail_long x) (trail_long y) = refl
same_trail bytes e f (trail_long x) (trail_none y) = refl
same_trail bytes e f (trail_long x) (trail_whole rest y) = absurd (long_apart Fresh TRAILER_LIMIT bytes y.0 rest y.1 x)
same_trail bytes e f (trail_none x) (trail_cut y) = absurd (cut_apart Fresh TRAILER_LIMIT bytes x.0 x.1 x.2 y)
same_trail bytes e f (trail_none x) (trail_long y) = refl
same_trail bytes e f (trail_none x) (trail_none y) = refl
same_trail bytes e f (trail_none x) (trail_whole rest y) = absurd (no_both_trailers bytes rest x y)
same_trail bytes e f (trail_whole rest x) (trail_cut y) = absurd (cut_apart Fresh TRAILER_LIMIT bytes x.0 rest x.1 y)
same_trail bytes e f (trail_whole rest x) (trail_long y) = absurd (long_apart Fresh TRAILER_LIMIT bytes x.0 rest x.1 y)
same_trail bytes e f (trail_whole rest x) (trail_none y) = absurd (no_both_trailers bytes rest y x)
same_trail bytes e f (trail_whole rest x) (trail_whole left y) = refl

-- ---- chunks

-- how a body ends in a chunk of this size, or with it
data Opened (room size : ℕ) (after : List ℕ) : BodyEnd → Type 0 where
  large : room < size → Opened room size after End.TooLarge
  short : size ≤ room → length after < size → Opened room size after End.Cut
  last : (end : BodyEnd) → size ≡ 0 → Trail after end → Opened room size after end

none_left : (size n : ℕ) → size ≡ 0 → n < size → ⊥
none_left size n none some = omega (arith, none, some)

same_opened : (room size : ℕ) (after : List ℕ) (e f : BodyEnd) → Opened room size after e → Opened room size after f → e ≡ f
same_opened room size after e f (large x) (large y) = refl
same_opened room size after e f (large x) (short y less) = absurd (too_short room size y x)
same_opened room size after e f (large x) (last end none y) = absurd (none_left size room none x)
same_opened room size after e f (short x less) (large y) = absurd (too_short room size x y)
same_opened room size after e f (short x less) (short y few) = refl
same_opened room size after e f (short x less) (last end none y) = absurd (none_left size (length after) none less)
same_opened room size after e f (last end none x) (large y) = absurd (none_left size room none y)
same_opened room size after e f (last end none x) (short y less) = absurd (none_left size (length after) none less)
same_opened room size after e f (last end none x) (last other nothing y) = same_trail after e f x y

-- how a body ends with these bytes
data Front (behind : Bool) (room : ℕ) (bytes : List ℕ) : BodyEnd → Type 0 where
  front_cut : IsCutOpening behind bytes → Front behind room bytes End.Cut
  front_long : IsLongOpening behind bytes → Front behind room bytes End.BadChunk
  front_none : IsNoOpening behind bytes → Front behind room bytes End.BadChunk
  opens : (end : BodyEnd) (size : ℕ) (after : List ℕ) → OpensChunk behind bytes size after → Opened room size after end → Front behind room bytes end

cut_opens : (behind : Bool) (bytes after : List ℕ) (size : ℕ) → IsCutOpening behind bytes → OpensChunk behind bytes size after → ⊥
cut_opens behind bytes after size cut chunk = cut_apart (opening_start behind) (opening_limit behind) bytes chunk.0 after chunk.1 cut

long_opens : (behind : Bool) (bytes after : List ℕ) (size : ℕ) → IsLongOpening behind bytes → OpensChunk behind bytes size after → ⊥
long_opens behind bytes after size long chunk = long_apart (opening_start behind) (opening_limit behind) bytes chunk.0 after chunk.1 long

none_opens : (behind : Bool) (bytes after : List ℕ) (size : ℕ) → IsNoOpening behind bytes → OpensChunk behind bytes size after → ⊥
none_opens behind bytes after size (text, rest, begins, none) chunk =
    let same = text_unique (opening_start behind) (opening_limit behind) bytes chunk.0 after text rest chunk.1 begins in
    none size (subst (λ t. SaysOpening behind t size) same.0 chunk.2)

cut_none : (behind : Bool) (bytes : List ℕ) → IsCutOpening behind bytes → IsNoOpening behind bytes → ⊥
cut_none behind bytes cut (text, rest, begins, none) = cut_apart (opening_start behind) (opening_limit behind) bytes text rest begins cut

-- a chunk is opened once
same_chunk : (behind : Bool) (room : ℕ) (bytes rest left : List ℕ) (n m : ℕ) (e : BodyEnd) → OpensChunk behind bytes n rest → OpensChunk behind bytes m left
    → Opened room m left e → Opened room n rest e
same_chunk behind room bytes rest left n m e a b opened =
    let same = opens_unique behind bytes left rest m n b a in
    subst₂ (λ size after. Opened room size after e) same.0 same.1 opened

same_front : (behind : Bool) (room : ℕ) (bytes : List ℕ) (e f : BodyEnd) → Front behind room bytes e → Front behind room bytes f → e ≡ f
same_front behind room bytes e f (front_cut x) (front_cut y) = refl
same_front behind room bytes e f (front_cut x) (front_long y) = absurd (too_short (opening_limit behind) (length bytes) x.0 y.0)
same_front behind room bytes e f (front_cut x) (front_none y) = absurd (cut_none behind bytes x y)
same_front behind room bytes e f (front_cut x) (opens end size after y opened) = absurd (cut_opens behind bytes after size x y)
same_front behind room bytes e f (front_long x) (front_cut y) = absurd (too_short (opening_limit behind) (length bytes) y.0 x.0)
same_front behind room bytes e f (front_long x) (front_long y) = refl
same_front behind room bytes e f (front_long x) (front_none y) = refl
same_front behind room bytes e f (front_long x) (opens end size after y opened) = absurd (long_opens behind bytes after size x y)
same_front behind room bytes e f (front_none x) (front_cut y) = absurd (cut_none behind bytes y x)
same_front behind room bytes e f (front_none x) (front_long y) = refl
same_front behind room bytes e f (front_none x) (front_none y) = refl
same_front behind room bytes e f (front_none x) (opens end size after y opened) = absurd (none_opens behind bytes after size x y)
same_front behind room bytes e f (opens end size after x opened) (front_cut y) = absurd (cut_opens behind bytes after size y x)
same_front behind room bytes e f (opens end size after x opened) (front_long y) = absurd (long_opens behind bytes after size y x)
same_front behind room bytes e f (opens end size after x opened) (front_none y) = absurd (none_opens behind bytes after size y x)
same_front behind room bytes e f (opens end size after x opened) (opens other n left y further) =
    same_opened room size after e f opened (same_chunk behind room bytes after left size n f x y further)

front_of : (behind : Bool) (room : ℕ) (bytes : List ℕ) (end : BodyEnd) (rest : List ℕ) → EndsBody behind room bytes end rest → Front behind room bytes end
front_of behind room bytes End.Whole rest (after, chunk, trailers) = opens End.Whole 0 after chunk (last End.Whole refl (trail_whole rest trailers))
front_of behind room bytes End.Cut rest (inl (inl cut), same) = front_cut cut
front_of behind room bytes End.Cut rest (inl (inr (after, chunk, cut)), same) = opens End.Cut 0 after chunk (last End.Cut refl (trail_cut cut))
front_of behind room bytes End.Cut rest (inr (size, after, chunk, fits, less), same) = opens End.Cut size after chunk (short fits less)
front_of behind room bytes End.BadChunk rest (inl long, same) = front_long long
front_of behind room bytes End.BadChunk rest (inr (inl none), same) = front_none none
front_of behind room bytes End.BadChunk rest (inr (inr (after, chunk, inl long)), same) = opens End.BadChunk 0 after chunk (last End.BadChunk refl (trail_long long))
front_of behind room bytes End.BadChunk rest (inr (inr (after, chunk, inr none)), same) = opens End.BadChunk 0 after chunk (last End.BadChunk refl (trail_none none))
front_of behind room bytes End.TooLarge rest ((size, after, chunk, more), same) = opens End.TooLarge size after chunk (large more)

-- where a body ends no chunk follows
not_ended : (room : ℕ) (chunk next : List ℕ) (end : BodyEnd) → Opened room (length chunk) (chunk ++ next) end → 0 < length chunk → length chunk ≤ room → ⊥
not_ended room chunk next end (large x) some fits = too_short room (length chunk) fits x
not_ended room chunk next end (short x less) some fits = omega (arith, less, length-append chunk next)
not_ended room chunk next end (last other none x) some fits = none_left (length chunk) 0 none some

goes_on : (behind : Bool) (room : ℕ) (bytes chunk next : List ℕ) (end : BodyEnd) → Front behind room bytes end
    → OpensChunk behind bytes (length chunk) (chunk ++ next) → 0 < length chunk → length chunk ≤ room → ⊥
goes_on behind room bytes chunk next end (front_cut x) y some fits = cut_opens behind bytes (chunk ++ next) (length chunk) x y
goes_on behind room bytes chunk next end (front_long x) y some fits = long_opens behind bytes (chunk ++ next) (length chunk) x y
goes_on behind room bytes chunk next end (front_none x) y some fits = none_opens behind bytes (chunk ++ next) (length chunk) x y
goes_on behind room bytes chunk next end (opens other size after x opened) y some fits =
    not_ended room chunk next end (same_chunk behind room bytes (chunk ++ next) after (length chunk) size end y x opened) some fits

-- ---- a body

same_rest : (behind : Bool) (room : ℕ) (bytes : List ℕ) (end : BodyEnd) (rest left : List ℕ) → EndsBody behind room bytes end rest → EndsBody behind room bytes end left → rest ≡ left
same_rest behind room bytes End.Whole rest left a b = trailers_unique a.0 b.0 rest left (opens_unique behind bytes a.0 b.0 0 0 a.1 b.1).1 a.2 b.2
same_rest behind room bytes End.Cut rest left a b = a.1 ∙ sym b.1
same_rest behind room bytes End.BadChunk rest left a b = a.1 ∙ sym b.1
same_rest behind room bytes End.TooLarge rest left a b = a.1 ∙ sym b.1

pub chunks_unique : (contents others : List (List ℕ)) (behind : Bool) (room : ℕ) (bytes : List ℕ) (e f : BodyEnd) (rest left : List ℕ)
    → AreChunks behind room bytes contents e rest → AreChunks behind room bytes others f left → (contents ≡ others) × (e ≡ f) × (rest ≡ left)
chunks_unique [] [] behind room bytes e f rest left a b =
    let same = same_front behind room bytes e f (front_of behind room bytes e rest a) (front_of behind room bytes f left b) in
    (refl, same, same_rest behind room bytes f rest left (subst (λ end. EndsBody behind room bytes end rest) same a) b)
chunks_unique [] (other ∷ others) behind room bytes e f rest left a b =
    absurd (goes_on behind room bytes other b.0 e (front_of behind room bytes e rest a) b.1 b.2 b.3)
chunks_unique (content ∷ contents) [] behind room bytes e f rest left a b =
    absurd (goes_on behind room bytes content a.0 f (front_of behind room bytes f left b) a.1 a.2 a.3)
chunks_unique (content ∷ contents) (other ∷ others) behind room bytes e f rest left a b =
    let same = opens_unique behind bytes (content ++ a.0) (other ++ b.0) (length content) (length other) a.1 b.1 in
    let first : content ≡ other =
    sym (take_front content a.0 (length content) refl) ∙ ap (take (length content)) same.1 ∙ take_front other b.0 (length content) same.0 in
    let next : a.0 ≡ b.0 =
    sym (drop_front content a.0 (length content) refl) ∙ ap (drop (length content)) same.1 ∙ drop_front other b.0 (length content) same.0 in
    let further = subst₂ (λ n l. AreChunks true (room - n) l contents e rest) same.0 next a.4 in
    let later = chunks_unique contents others true (room - length other) b.0 e f rest left further b.4 in
    (ap (λ c. c ∷ contents) first ∙ ap (λ cs. other ∷ cs) later.0, later.1, later.2)
