-- Texts, chunk lines and trailers have one reading, which later bytes leave as it is.
use Rattle.std.proofs.Common.{◌≡◌, ℕ, suc, ◌-◌, Bool, true, false, List, [], ◌∷◌, ◌++◌, length, take, drop, Option, Some, None, refl, sym, ap, ◌∙◌, subst, append_assoc}
use Rattle.httparse.proofs.ChunkLemmas.{chunk_line_unique}
use Rattle.httparse.specs.Grammar.{chunk_size}
use Rattle.http_chunks.specs.declared.body.BodyEnd.TheVariants as End
use Rattle.http_chunks.specs.declared.place.Place.{Place}
use Rattle.http_chunks.specs.declared.place.Place.TheVariants.{Fresh}
use Rattle.http_chunks.specs.declared.place.TextEnd.TheVariants.{Here}
use Rattle.http_chunks.specs.declared.trailers.TheConstants.{TRAILER_LIMIT}
use Rattle.http_chunks.specs.Scans.{after_byte, then_from, scan_from, opening_start, BeginsWithText}
use Rattle.http_chunks.specs.Chunks.{SaysSize, SaysOpening, break_of, opening_limit, OpensChunk, BeginsWithTrailers, AreChunks}
use Rattle.http_chunks.proofs.Scanning.{scan_one, scan_none, here_is, not_both, begins_more, opens_more}
use Rattle.http_chunks.proofs.Sizes.{same_line}
use Rattle.http_chunks.proofs.Bodies.{take_front, drop_front}

-- ---- texts

here_step : (o : Option Place) (n m : ℕ) (xs ys : List ℕ)
    → ((mid : Place) → scan_from mid (suc n) xs ≡ Here m → scan_from mid (suc n) (xs ++ ys) ≡ Here m)
    → then_from (λ mid. scan_from mid (suc n) xs) (suc n) o ≡ Here m → then_from (λ mid. scan_from mid (suc n) (xs ++ ys)) (suc n) o ≡ Here m
here_step None n m xs ys rest e = e
here_step (Some mid) n m xs ys rest e = rest mid e

pub scan_here : (xs ys : List ℕ) (place : Place) (n m : ℕ) → scan_from place n xs ≡ Here m → scan_from place n (xs ++ ys) ≡ Here m
scan_here [] ys place n m e = absurd (not_both m place (sym (scan_none place n) ∙ e))
scan_here (b ∷ xs) ys place n m e =
    scan_one place n b (xs ++ ys) ∙ here_step (after_byte place b) n m xs ys (λ mid h. scan_here xs ys mid (suc n) m h) (sym (scan_one place n b xs) ∙ e)

pub text_unique : (place : Place) (limit : ℕ) (bytes text rest other left : List ℕ) → BeginsWithText place limit bytes text rest
    → BeginsWithText place limit bytes other left → (text ≡ other) × (rest ≡ left)
text_unique place limit bytes text rest other left a b =
    let ends = ap (scan_from place 0) a.whole ∙ scan_here text rest place 0 (length text) a.ends in
    let too = ap (scan_from place 0) b.whole ∙ scan_here other left place 0 (length other) b.ends in
    let size = here_is (length text) (length other) (sym ends ∙ too) in
    let whole = sym a.whole ∙ b.whole in (
      sym (take_front text rest (length text) refl) ∙ ap (take (length text)) whole ∙ take_front other left (length text) size,
      sym (drop_front text rest (length text) refl) ∙ ap (drop (length text)) whole ∙ drop_front other left (length text) size,
    )

-- ---- chunks

line_unique : (behind : Bool) (line other : List ℕ) → break_of behind ++ line ≡ break_of behind ++ other → line ≡ other
line_unique true line other e = same_line line other e
line_unique false line other e = e

size_unique : (line other : List ℕ) (n m : ℕ) → line ≡ other → SaysSize line n → SaysSize other m → n ≡ m
size_unique line other n m same a b =
    let c = subst (λ l. SaysSize l n) same a in
    sym c.2 ∙ ap chunk_size (chunk_line_unique other c.0 b.0 [] [] c.1 b.1).0 ∙ b.2

pub opening_unique : (behind : Bool) (text other : List ℕ) (n m : ℕ) → text ≡ other → SaysOpening behind text n → SaysOpening behind other m → n ≡ m
opening_unique behind text other n m same a b =
    size_unique a.0 b.0 n m (line_unique behind a.0 b.0 (sym a.1 ∙ same ∙ b.1)) a.2 b.2

pub opens_unique : (behind : Bool) (bytes rest left : List ℕ) (n m : ℕ) → OpensChunk behind bytes n rest → OpensChunk behind bytes m left → (n ≡ m) × (rest ≡ left)
opens_unique behind bytes rest left n m a b =
    let same = text_unique (opening_start behind) (opening_limit behind) bytes a.0 rest b.0 left a.1 b.1 in
    (opening_unique behind a.0 b.0 n m same.0 a.2 b.2, same.1)

pub trailers_unique : (bytes other rest left : List ℕ) → bytes ≡ other → BeginsWithTrailers bytes rest → BeginsWithTrailers other left → rest ≡ left
trailers_unique bytes other rest left same a b =
    let c = subst (λ l. BeginsWithTrailers l rest) same a in
    (text_unique Fresh TRAILER_LIMIT other c.0 rest b.0 left c.1 b.1).1

pub chunks_more : (contents : List (List ℕ)) (behind : Bool) (room : ℕ) (bytes more rest : List ℕ) → AreChunks behind room bytes contents End.Whole rest
    → AreChunks behind room (bytes ++ more) contents End.Whole (rest ++ more)
chunks_more [] behind room bytes more rest a =
    (a.0 ++ more, opens_more behind bytes a.0 more 0 a.1, (a.2.0, begins_more Fresh TRAILER_LIMIT a.0 a.2.0 rest more a.2.1, a.2.2))
chunks_more (content ∷ contents) behind room bytes more rest a = (
  a.0 ++ more,
  subst (OpensChunk behind (bytes ++ more) (length content)) (append_assoc content a.0 more) (opens_more behind bytes (content ++ a.0) more (length content) a.1),
  a.2,
  a.3,
  chunks_more contents true (room - length content) a.0 more rest a.4,
)
