-- A body that is read chunk by chunk.
use Rattle.std.proofs.Common.{◌≡◌, ℕ, ◌-◌, ◌<◌, ◌≤◌, Bool, true, false, List, [], ◌∷◌, ◌++◌, length, take, drop, refl, sym, ap, ◌∙◌, subst, arith, append_assoc}
use Rattle.std.proofs.lemmas.List.{append-nil, length-append, take-append-le, take_all, drop-append-le, drop_all}
use Rattle.http_chunks.specs.declared.body.BodyEnd.{BodyEnd}
use Rattle.http_chunks.specs.declared.place.Place.{Place}
use Rattle.http_chunks.specs.declared.place.TextEnd.TheVariants.{Here}
use Rattle.http_chunks.specs.Scans.{scan_from, BeginsWithText}
use Rattle.http_chunks.specs.Chunks.{OpensChunk, EndsBody, AreChunks, content_of, IsChunkedBody}
use Rattle.http_chunks.proofs.Scanning.{begins_at}

pub take_front : (xs ys : List ℕ) (n : ℕ) → n ≡ length xs → take n (xs ++ ys) ≡ xs
take_front xs ys n is = take-append-le n xs ys (omega (arith, is)) ∙ take_all n xs (omega (arith, is))

pub drop_front : (xs ys : List ℕ) (n : ℕ) → n ≡ length xs → drop n (xs ++ ys) ≡ ys
drop_front xs ys n is = drop-append-le n xs ys (omega (arith, is)) ∙ ap (λ l. l ++ ys) (drop_all n xs (omega (arith, is)))

-- a text that ends within the first bytes begins all of them
pub split_begins : (place : Place) (limit n m : ℕ) (bytes : List ℕ) → n ≤ limit → scan_from place 0 (take n bytes) ≡ Here m
    → (m ≤ length bytes) × BeginsWithText place limit bytes (take m bytes) (drop m bytes)
split_begins place limit n m bytes few e =
    let found = begins_at place limit n m bytes few e in
    let begins = found.2 in
    let text = ap (take m) begins.whole ∙ take_front found.0 found.1 m found.3 in
    let rest = ap (drop m) begins.whole ∙ drop_front found.0 found.1 m found.3 in (
      omega (arith, found.3, ap length begins.whole, length-append found.0 found.1),
      subst (λ t. BeginsWithText place limit bytes t (drop m bytes)) (sym text) (subst (BeginsWithText place limit bytes found.0) (sym rest) begins),
    )

pub opens_last : (behind : Bool) (bytes after : List ℕ) (size : ℕ) → OpensChunk behind bytes size after → size ≤ 0 → OpensChunk behind bytes 0 after
opens_last behind bytes after size opens none =
    let is : size ≡ 0 = omega (arith, none) in subst (λ n. OpensChunk behind bytes n after) is opens

-- ---- all of it

-- these chunks went, and whatever the rest is, all is they and it
pub record Went (largest : ℕ) (all : List ℕ) (behind : Bool) (room : ℕ) (rest content : List ℕ) : Type 0 where
  pub contents : List (List ℕ)
  pub leads : (later : List (List ℕ)) (end : BodyEnd) (left : List ℕ) → AreChunks behind room rest later end left → AreChunks false largest all (contents ++ later) end left
  pub held : content ≡ content_of contents

pub went_start : (largest : ℕ) (all : List ℕ) → Went largest all false largest all []
went_start largest all = record { contents = []; leads = λ later end left h. h; held = refl }

content_of-append : (xs ys : List (List ℕ)) → content_of (xs ++ ys) ≡ content_of xs ++ content_of ys
content_of-append [] ys = refl
content_of-append (x ∷ xs) ys = ap (λ l. x ++ l) (content_of-append xs ys) ∙ sym (append_assoc x (content_of xs) (content_of ys))

pub went_more : (largest : ℕ) (all : List ℕ) (behind : Bool) (room : ℕ) (rest content chunk next : List ℕ) → Went largest all behind room rest content
    → OpensChunk behind rest (length chunk) (chunk ++ next) → 0 < length chunk → length chunk ≤ room
    → Went largest all true (room - length chunk) next (content ++ chunk)
went_more largest all behind room rest content chunk next went opens some fits = record {
  contents = went.contents ++ chunk ∷ [];
  leads = λ later end left h.
      subst (λ cs. AreChunks false largest all cs end left) (sym (append_assoc went.contents (chunk ∷ []) later))
      (went.leads (chunk ∷ later) end left (next, opens, some, fits, h));
  held = ap (λ l. l ++ chunk) went.held ∙ ap (λ l. content_of went.contents ++ l) (sym (append-nil chunk)) ∙ sym (content_of-append went.contents (chunk ∷ []));
}

pub went_end : (largest : ℕ) (all : List ℕ) (behind : Bool) (room : ℕ) (rest content : List ℕ) (end : BodyEnd) (left : List ℕ) → Went largest all behind room rest content
    → EndsBody behind room rest end left → IsChunkedBody largest all content end left
went_end largest all behind room rest content end left went ends = (
  went.contents,
  subst (λ cs. AreChunks false largest all cs end left) (append-nil went.contents) (went.leads [] end left ends),
  went.held,
)

-- what follows a chunk is shorter
pub shorter : (behind : Bool) (rest chunk next : List ℕ) → OpensChunk behind rest (length chunk) (chunk ++ next) → 0 < length chunk → length next < length rest
shorter behind rest chunk next opens some =
    omega (arith, some, ap length opens.1.whole, length-append opens.0 (chunk ++ next), length-append chunk next)
