-- Pieces of bytes, one after another.
use Rattle.std.proofs.Common.{◌≡◌, ℕ, suc, ◌+◌, ◌-◌, ◌^◌, ◌<◌, ◌≤◌, List, [], ◌∷◌, ◌++◌, length, take, drop, get_or, refl, sym, ap, ap₂, ◌∙◌, arith, inl, inr, subst, append_assoc, length-append}
use Rattle.std.specs.Int.{w16, w32, w64, to_be_bytes, from_be_bytes}
use Rattle.std.specs.List.{AllByRecursion}
use Rattle.std.proofs.lemmas.Bool.{cases_lt}
use Rattle.std.proofs.lemmas.List.{drop-drop, take-append-drop, take_at, drop_at, length-drop, length-take, get_or-take, get_or-drop, get_or_past}
use Rattle.std.proofs.lemmas.Nat.{be_bytes_2, be_bytes_4, be_bytes_8, from_be_bytes-to_be_bytes_2, from_be_bytes-to_be_bytes_4, from_be_bytes-to_be_bytes_8}
use Rattle.index_entry.specs.Numbers.{number_bytes, short_bytes, word_bytes}

pub length-number_bytes : (n : ℕ) → length (number_bytes n) ≡ 8
unfolding number_bytes
length-number_bytes n = refl

pub length-short_bytes : (n : ℕ) → length (short_bytes n) ≡ 2
unfolding short_bytes
length-short_bytes n = refl

pub length-word_bytes : (n : ℕ) → length (word_bytes n) ≡ 4
unfolding word_bytes
length-word_bytes n = refl

abbrev pub AreBytes : List ℕ → Type 0
AreBytes bs = (i : ℕ) → get_or bs i 0 < 256

pub part_fits : (bs : List ℕ) (at n : ℕ) → AreBytes bs → AreBytes (take n (drop at bs))
part_fits bs at n fit i = elim (cases_lt i n) [
  | inl below ↦ omega (arith, fit (at + i), get_or-take n (drop at bs) i 0 below, get_or-drop at bs i 0)
  | inr past ↦ omega (arith, get_or_past (take n (drop at bs)) i 0 (omega (arith, length-take n (drop at bs))))
]

-- what is at a place begins with its first bytes
pub begins : (bs : List ℕ) (at n : ℕ) → drop at bs ≡ take n (drop at bs) ++ drop (at + n) bs
begins bs at n = sym (take-append-drop n (drop at bs)) ∙ ap (λ z. take n (drop at bs) ++ z) (drop-drop n at bs)

-- what is behind a piece
pub behind : (bs : List ℕ) (k n m : ℕ) (X Y : List ℕ) → drop k bs ≡ X ++ Y → length X ≡ n → m ≡ k + n → drop m bs ≡ Y
behind bs k n m X Y here long at = ap (λ z. drop z bs) at ∙ sym (drop-drop n k bs) ∙ ap (drop n) here ∙ drop_at X Y n long

-- a piece is the bytes that it takes
pub taken : (bs : List ℕ) (k n : ℕ) (X Y : List ℕ) → drop k bs ≡ X ++ Y → length X ≡ n → take n (drop k bs) ≡ X
taken bs k n X Y here long = ap (take n) here ∙ take_at X Y n long

pub number_read : (bs : List ℕ) (at n : ℕ) → AreBytes bs → at + 8 ≤ length bs → n ≡ from_be_bytes w64 (take 8 (drop at bs)) → drop at bs ≡ number_bytes n ++ drop (at + 8) bs
unfolding number_bytes
number_read bs at n fit long is =
    begins bs at 8 ∙ ap (λ z. z ++ drop (at + 8) bs) (sym (be_bytes_8 (take 8 (drop at bs)) n (omega (arith, length-take 8 (drop at bs), length-drop at bs)) (part_fits bs at 8 fit) is))

pub number_once : (bs : List ℕ) (at n x : ℕ) (rest : List ℕ) → n ≡ from_be_bytes w64 (take 8 (drop at bs)) → x < 2 ^ 64 → drop at bs ≡ number_bytes x ++ rest → n ≡ x
unfolding number_bytes
number_once bs at n x rest is fits here = is ∙ ap (from_be_bytes w64) (taken bs at 8 (to_be_bytes w64 x) rest here refl) ∙ from_be_bytes-to_be_bytes_8 x fits

pub short_read : (bs : List ℕ) (at n : ℕ) → AreBytes bs → at + 2 ≤ length bs → n ≡ from_be_bytes w16 (take 2 (drop at bs)) → drop at bs ≡ short_bytes n ++ drop (at + 2) bs
unfolding short_bytes
short_read bs at n fit long is =
    begins bs at 2 ∙ ap (λ z. z ++ drop (at + 2) bs) (sym (be_bytes_2 (take 2 (drop at bs)) n (omega (arith, length-take 2 (drop at bs), length-drop at bs)) (part_fits bs at 2 fit) is))

pub short_once : (bs : List ℕ) (at n x : ℕ) (rest : List ℕ) → n ≡ from_be_bytes w16 (take 2 (drop at bs)) → x < 2 ^ 16 → drop at bs ≡ short_bytes x ++ rest → n ≡ x
unfolding short_bytes
short_once bs at n x rest is fits here = is ∙ ap (from_be_bytes w16) (taken bs at 2 (to_be_bytes w16 x) rest here refl) ∙ from_be_bytes-to_be_bytes_2 x fits

pub word_read : (bs : List ℕ) (at n : ℕ) → AreBytes bs → at + 4 ≤ length bs → n ≡ from_be_bytes w32 (take 4 (drop at bs)) → drop at bs ≡ word_bytes n ++ drop (at + 4) bs
unfolding word_bytes
word_read bs at n fit long is =
    begins bs at 4 ∙ ap (λ z. z ++ drop (at + 4) bs) (sym (be_bytes_4 (take 4 (drop at bs)) n (omega (arith, length-take 4 (drop at bs), length-drop at bs)) (part_fits bs at 4 fit) is))

pub word_once : (bs : List ℕ) (at n x : ℕ) (rest : List ℕ) → n ≡ from_be_bytes w32 (take 4 (drop at bs)) → x < 2 ^ 32 → drop at bs ≡ word_bytes x ++ rest → n ≡ x
unfolding word_bytes
word_once bs at n x rest is fits here = is ∙ ap (from_be_bytes w32) (taken bs at 4 (to_be_bytes w32 x) rest here refl) ∙ from_be_bytes-to_be_bytes_4 x fits

-- bytes that are looked at one by one fit
pub all_fit : (bs : List ℕ) → AreBytes bs → AllByRecursion (λ b. b < 256) bs
all_fit [] fit = tt
all_fit (b ∷ bs) fit = (fit 0, all_fit bs (λ i. fit (suc i)))

-- these bytes were written behind others, in place of as many
abbrev pub IsPut : List ℕ → List ℕ → List ℕ → List ℕ → Type 0
IsPut p q done out = out ≡ (p ++ done) ++ drop (length done) q

-- and a piece behind them
pub put_more : (p q done x out : List ℕ) → out ≡ ((p ++ done) ++ x) ++ drop (length x) (drop (length done) q) → IsPut p q (done ++ x) out
put_more p q done x out is =
    is ∙ ap₂ (λ a b. a ++ b) (append_assoc p done x) (drop-drop (length x) (length done) q ∙ ap (λ n. drop n q) (sym (length-append done x)))

pub put_as : (p q done x out : List ℕ) → done ≡ x → IsPut p q done out → IsPut p q x out
put_as p q done x out same is = subst (λ z. IsPut p q z out) same is

-- a number that eight bytes are
pub record ANumber (bs : List ℕ) (at : ℕ) : Type 0 where
  pub number : ℕ
  pub fits : number < 2 ^ 64
  pub read : drop at bs ≡ number_bytes number ++ drop (at + 8) bs

number_fits : (bs : List ℕ) → AreBytes bs → from_be_bytes w64 bs < 2 ^ 64
number_fits bs fit = omega (arith, fit 0, fit 1, fit 2, fit 3, fit 4, fit 5, fit 6, fit 7)

pub a_number : (bs : List ℕ) (at : ℕ) → AreBytes bs → at + 8 ≤ length bs → ANumber bs at
a_number bs at fit long = record {
  number = from_be_bytes w64 (take 8 (drop at bs));
  fits = number_fits (take 8 (drop at bs)) (part_fits bs at 8 fit);
  read = number_read bs at (from_be_bytes w64 (take 8 (drop at bs))) fit long refl;
}

-- the slice from a place to eight bytes on, to four and to two
pub number_slice : (bs : List ℕ) (at n : ℕ) → n ≡ from_be_bytes w64 (take (at + 8 - at) (drop at bs)) → n ≡ from_be_bytes w64 (take 8 (drop at bs))
number_slice bs at n is = let e : at + 8 - at ≡ 8 = omega arith in is ∙ ap (λ k. from_be_bytes w64 (take k (drop at bs))) e

pub word_slice : (bs : List ℕ) (at n : ℕ) → n ≡ from_be_bytes w32 (take (at + 4 - at) (drop at bs)) → n ≡ from_be_bytes w32 (take 4 (drop at bs))
word_slice bs at n is = let e : at + 4 - at ≡ 4 = omega arith in is ∙ ap (λ k. from_be_bytes w32 (take k (drop at bs))) e

pub short_slice : (bs : List ℕ) (at n : ℕ) → n ≡ from_be_bytes w16 (take (at + 2 - at) (drop at bs)) → n ≡ from_be_bytes w16 (take 2 (drop at bs))
short_slice bs at n is = let e : at + 2 - at ≡ 2 = omega arith in is ∙ ap (λ k. from_be_bytes w16 (take k (drop at bs))) e

pub put_long : (p x : List ℕ) (at end : ℕ) → length p ≡ at → end ≡ at + length x → length (p ++ x) ≡ end
put_long p x at end long is = omega (arith, length-append p x, long, is)

pub next_long : (p done x : List ℕ) (at end : ℕ) → length (p ++ done) ≡ at → end ≡ at + length x → length (p ++ (done ++ x)) ≡ end
next_long p done x at end long is = omega (arith, length-append p done, length-append p (done ++ x), length-append done x, long, is)
