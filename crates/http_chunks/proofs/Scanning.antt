-- A scan for the end of a text, one byte on.
use Rattle.std.proofs.Common.{◌≡◌, ◌≢◌, ℕ, suc, ◌+◌, ◌<◌, ◌≤◌, Bool, List, [], ◌∷◌, ◌++◌, length, get_or, take, drop, slice_range, Option, Some, None, refl, sym, ap, ◌∙◌, arith, add-one, append_assoc, drop-cons, take-append-drop}
use Rattle.std.proofs.lemmas.List.{take_rest, get_or-drop, length-append, length-drop, length-take, drop_all}
use Rattle.http_chunks.specs.declared.place.Place.{Place}
use Rattle.http_chunks.specs.declared.place.TextEnd.TheVariants.{Here, Later}
use Rattle.http_chunks.specs.Scans.{after_byte, then_from, scan_from, opening_start, BeginsWithText}
use Rattle.http_chunks.specs.Chunks.{opening_limit, OpensChunk}

-- the byte at a place of what follows the first
pub byte_at : (bytes : List ℕ) (seen i : ℕ) → i < length (slice_range bytes seen (length bytes))
    → (seen + i < length bytes) × (get_or (slice_range bytes seen (length bytes)) i 0 ≡ get_or bytes (seen + i) 0)
byte_at bytes seen i within =
    let rest = take_rest bytes seen in
    (omega (arith, within, ap length rest, length-drop seen bytes), ap (λ l. get_or l i 0) rest ∙ get_or-drop seen bytes i 0)

pub scan_one : (place : Place) (n b : ℕ) (bytes : List ℕ)
    → scan_from place n (b ∷ bytes) ≡ then_from (λ next. scan_from next (suc n) bytes) (suc n) (after_byte place b)
unfolding scan_from
scan_one place n b bytes = refl

pub scan_none : (place : Place) (n : ℕ) → scan_from place n [] ≡ Later place
unfolding scan_from
scan_none place n = refl

pub scans_next : (bytes : List ℕ) (n : ℕ) (place next : Place) → n < length bytes → after_byte place (get_or bytes n 0) ≡ Some next
    → scan_from place n (drop n bytes) ≡ scan_from next (n + 1) (drop (n + 1) bytes)
scans_next bytes n place next within is =
    ap (scan_from place n) (drop-cons bytes n 0 within) ∙ scan_one place n (get_or bytes n 0) (drop (suc n) bytes)
    ∙ ap (then_from (λ next. scan_from next (suc n) (drop (suc n) bytes)) (suc n)) is ∙ sym (ap (λ m. scan_from next m (drop m bytes)) (add-one n))

pub scans_last : (bytes : List ℕ) (n : ℕ) (place : Place) → n < length bytes → after_byte place (get_or bytes n 0) ≡ None
    → scan_from place n (drop n bytes) ≡ Here (n + 1)
scans_last bytes n place within is =
    ap (scan_from place n) (drop-cons bytes n 0 within) ∙ scan_one place n (get_or bytes n 0) (drop (suc n) bytes)
    ∙ ap (then_from (λ next. scan_from next (suc n) (drop (suc n) bytes)) (suc n)) is ∙ sym (ap Here (add-one n))

pub scans_all : (bytes : List ℕ) (n : ℕ) (place : Place) → length bytes ≤ n → scan_from place n (drop n bytes) ≡ Later place
scans_all bytes n place all = ap (scan_from place n) (drop_all n bytes all) ∙ scan_none place n

pub all_passed : (bytes : List ℕ) (seen i : ℕ) → length (slice_range bytes seen (length bytes)) ≤ i → length bytes ≤ seen + i
all_passed bytes seen i all = omega (arith, all, ap length (take_rest bytes seen), length-drop seen bytes)

pub next_at : (place : Place) (seen i : ℕ) (bytes : List ℕ)
    → scan_from place ((seen + i) + 1) (drop ((seen + i) + 1) bytes) ≡ scan_from place (seen + (i + 1)) (drop (seen + (i + 1)) bytes)
next_at place seen i bytes = let e : (seen + i) + 1 ≡ seen + (i + 1) = omega arith in ap (λ n. scan_from place n (drop n bytes)) e

-- ---- a scan over the front of bytes, and over the rest

later_is : (a b : Place) → Later a ≡ Later b → a ≡ b
later_is a b e = cc

pub here_is : (a b : ℕ) → Here a ≡ Here b → a ≡ b
here_is a b e = cc

pub not_both : (n : ℕ) (a : Place) → Later a ≢ Here n
not_both n a e = cc

append_step : (o : Option Place) (n : ℕ) (place next : Place) (b : ℕ) (xs ys : List ℕ) → after_byte place b ≡ o
    → ((mid : Place) → scan_from mid (suc n) xs ≡ Later next → scan_from mid (suc n) (xs ++ ys) ≡ scan_from next (suc n + length xs) ys)
    → then_from (λ mid. scan_from mid (suc n) xs) (suc n) o ≡ Later next
    → then_from (λ mid. scan_from mid (suc n) (xs ++ ys)) (suc n) o ≡ scan_from next (suc n + length xs) ys
append_step None n place next b xs ys is rest e = absurd (not_both (suc n) next (sym e))
append_step (Some mid) n place next b xs ys is rest e = rest mid e

-- behind bytes in which no text ends the scan goes on from the place behind them
pub scan_append : (xs ys : List ℕ) (place next : Place) (n : ℕ) → scan_from place n xs ≡ Later next
    → scan_from place n (xs ++ ys) ≡ scan_from next (n + length xs) ys
scan_append [] ys place next n e =
    let same = later_is place next (sym (scan_none place n) ∙ e) in
    let none : n ≡ n + 0 = omega arith in
    ap (λ p. scan_from p n ys) same ∙ ap (λ m. scan_from next m ys) none
scan_append (b ∷ xs) ys place next n e =
    let step = append_step (after_byte place b) n place next b xs ys refl (λ mid h. scan_append xs ys mid next (suc n) h) (sym (scan_one place n b xs) ∙ e) in
    let count : suc n + length xs ≡ n + suc (length xs) = omega arith in
    scan_one place n b (xs ++ ys) ∙ step ∙ ap (λ m. scan_from next m ys) count

-- a front of the bytes, that ends a text
pub record EndsAtFront (place : Place) (n m : ℕ) (bytes : List ℕ) : Type 0 where
  pub text : List ℕ
  pub rest : List ℕ
  pub whole : bytes ≡ text ++ rest
  pub size : m ≡ n + length text
  pub ends : scan_from place n text ≡ Here m

front_step : (o : Option Place) (n m : ℕ) (place : Place) (b : ℕ) (bytes : List ℕ) → after_byte place b ≡ o
    → ((mid : Place) → scan_from mid (suc n) bytes ≡ Here m → EndsAtFront mid (suc n) m bytes)
    → then_from (λ mid. scan_from mid (suc n) bytes) (suc n) o ≡ Here m → EndsAtFront place n m (b ∷ bytes)
front_step None n m place b bytes is rest e =
    let same = here_is (suc n) m e in
    record {
      text = b ∷ [];
      rest = bytes;
      whole = refl;
      size = omega arith;
      ends = scan_one place n b [] ∙ ap (then_from (λ mid. scan_from mid (suc n) []) (suc n)) is ∙ ap Here same;
    }
front_step (Some mid) n m place b bytes is rest e =
    let later = rest mid e in
    record {
      text = b ∷ later.text;
      rest = later.rest;
      whole = ap (λ l. b ∷ l) later.whole;
      size = omega (arith, later.size);
      ends = scan_one place n b later.text ∙ ap (then_from (λ mid. scan_from mid (suc n) later.text) (suc n)) is ∙ later.ends;
    }

pub ends_front : (bytes : List ℕ) (place : Place) (n m : ℕ) → scan_from place n bytes ≡ Here m → EndsAtFront place n m bytes
ends_front [] place n m e = absurd (not_both m place (sym (scan_none place n) ∙ e))
ends_front (b ∷ bytes) place n m e =
    front_step (after_byte place b) n m place b bytes refl (λ mid h. ends_front bytes mid (suc n) m h) (sym (scan_one place n b bytes) ∙ e)

-- ---- texts at the front of bytes

pub begins_more : (place : Place) (limit : ℕ) (bytes text rest more : List ℕ) → BeginsWithText place limit bytes text rest
    → BeginsWithText place limit (bytes ++ more) text (rest ++ more)
begins_more place limit bytes text rest more begins =
    record { ends = begins.ends; fits = begins.fits; whole = ap (λ l. l ++ more) begins.whole ∙ append_assoc text rest more }

-- a text that ends within the first bytes begins all of them
pub begins_at : (place : Place) (limit n m : ℕ) (bytes : List ℕ) → n ≤ limit → scan_from place 0 (take n bytes) ≡ Here m
    → (text : List ℕ) × (rest : List ℕ) × BeginsWithText place limit bytes text rest × (m ≡ length text)
begins_at place limit n m bytes few e =
    let front = ends_front (take n bytes) place 0 m e in
    let size : m ≡ length front.text = omega (arith, front.size) in (
      front.text,
      front.rest ++ drop n bytes,
      record {
        ends = front.ends ∙ ap Here size;
        fits = omega (arith, few, length-take n bytes, ap length front.whole, length-append front.text front.rest);
        whole = sym (take-append-drop n bytes) ∙ ap (λ l. l ++ drop n bytes) front.whole ∙ append_assoc front.text front.rest (drop n bytes);
      },
      size,
    )

pub opens_more : (behind : Bool) (bytes rest more : List ℕ) (size : ℕ) → OpensChunk behind bytes size rest → OpensChunk behind (bytes ++ more) size (rest ++ more)
opens_more behind bytes rest more size opens =
    (opens.0, begins_more (opening_start behind) (opening_limit behind) bytes opens.0 rest more opens.1, opens.2)
