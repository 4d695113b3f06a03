-- Bytes as the encoding of a manifest.
use Rattle.std.proofs.Common.{◌≡◌, ℕ, ◌+◌, ◌<◌, ◌↔◌, List, [], ◌∷◌, ◌++◌, length, take, drop, get_or, refl, sym, ap, ◌∙◌, true≢false, arith, inl, inr, subst, Option, Some, None, IfSome, IfNone, IsSome}
use Rattle.std.specs.Int.{w32, w64, from_be_bytes}
use Rattle.std.proofs.lemmas.Bool.{cases_lt}
use Rattle.std.proofs.lemmas.List.{take_all, drop-drop, take-append-drop, length-drop, length-take, get_or-take, get_or-drop, get_or_past}
use Rattle.std.proofs.lemmas.Nat.{be_bytes_4, be_bytes_8, from_be_bytes-to_be_bytes_4, from_be_bytes-to_be_bytes_8}
use Rattle.rgw_types.specs.Stripes.{ManifestView, IsManifest}
use Rattle.manifest.specs.Layouts.{encoding}

abbrev pub AreBytes : List ℕ → Type 0
AreBytes bs = (i : ℕ) → get_or bs i 0 < 256

-- what the three numbers of a manifest are read from
pub record IsRead (bs : List ℕ) (m : ManifestView) : Type 0 where
  pub write_read : m.write ≡ from_be_bytes w64 (take 8 (drop 1 bs))
  pub stripe_read : m.stripe ≡ from_be_bytes w32 (take 4 (drop 9 bs))
  pub size_read : m.size ≡ from_be_bytes w64 (take 8 (drop 13 bs))

-- a list is its first bytes, the next ones and the rest
in_three : (xs : List ℕ) (a b c : ℕ) → length xs ≡ a + b + c → take a xs ++ (take b (drop a xs) ++ take c (drop (a + b) xs)) ≡ xs
in_three xs a b c long =
    let rest : take c (drop (a + b) xs) ≡ drop b (drop a xs) = take_all c (drop (a + b) xs) (omega (arith, length-drop (a + b) xs)) ∙ sym (drop-drop b a xs) in
    ap (λ z. take a xs ++ (take b (drop a xs) ++ z)) rest ∙ ap (λ z. take a xs ++ z) (take-append-drop b (drop a xs)) ∙ take-append-drop a xs

in_fields : (bs : List ℕ) → length bs ≡ 21 → get_or bs 0 0 ≡ 1 → 1 ∷ (take 8 (drop 1 bs) ++ (take 4 (drop 9 bs) ++ take 8 (drop 13 bs))) ≡ bs
in_fields [] long one = absurd (omega arith)
in_fields (x ∷ xs) long one = λ i. sym one i ∷ in_three xs 8 4 8 (omega arith) i

field_of_bytes : (bs : List ℕ) (at n : ℕ) → AreBytes bs → AreBytes (take n (drop at bs))
field_of_bytes bs at n fit i = elim (cases_lt i n) [
  | inl below ↦ omega (arith, fit (at + i), get_or-take n (drop at bs) i 0 below, get_or-drop at bs i 0)
  | inr past ↦ omega (arith, get_or_past (take n (drop at bs)) i 0 (omega (arith, length-take n (drop at bs))))
]

-- 21 bytes that begin with the layout's number are the encoding of what is read from them
pub is_encoding : (bs : List ℕ) (m : ManifestView) → AreBytes bs → length bs ≡ 21 → get_or bs 0 0 ≡ 1 → IsRead bs m → bs ≡ encoding m
is_encoding bs m fit long one r =
    let w = be_bytes_8 (take 8 (drop 1 bs)) m.write (omega (arith, length-take 8 (drop 1 bs), length-drop 1 bs)) (field_of_bytes bs 1 8 fit) r.write_read in
    let k = be_bytes_4 (take 4 (drop 9 bs)) m.stripe (omega (arith, length-take 4 (drop 9 bs), length-drop 9 bs)) (field_of_bytes bs 9 4 fit) r.stripe_read in
    let s = be_bytes_8 (take 8 (drop 13 bs)) m.size (omega (arith, length-take 8 (drop 13 bs), length-drop 13 bs)) (field_of_bytes bs 13 8 fit) r.size_read in
    sym ((λ i. 1 ∷ (w i ++ (k i ++ s i))) ∙ in_fields bs long one)

-- a manifest is what is read from its encoding
pub is_read : (m : ManifestView) → IsManifest m → IsRead (encoding m) m
is_read m is = record {
  write_read = sym (from_be_bytes-to_be_bytes_8 m.write is.write_fits);
  stripe_read = sym (from_be_bytes-to_be_bytes_4 m.stripe (omega (arith, is.stripe_high)));
  size_read = sym (from_be_bytes-to_be_bytes_8 m.size (omega (arith, is.size_high)));
}

-- what is read from bytes is one manifest
read_once : (bs : List ℕ) (m n : ManifestView) → IsRead bs m → IsRead bs n → m ≡ n
read_once bs m n p q =
    let w = p.write_read ∙ sym q.write_read in
    let k = p.stripe_read ∙ sym q.stripe_read in
    let s = p.size_read ∙ sym q.size_read in
    λ i. record { write = w i; stripe = k i; size = s i }

pub one_manifest : (m n : ManifestView) → IsManifest m → IsManifest n → encoding m ≡ encoding n → m ≡ n
one_manifest m n p q e = read_once (encoding n) m n (subst (λ bs. IsRead bs m) e (is_read m p)) (is_read n q)

-- a manifest of the numbers that were read, where they are within the bounds
pub record IsMadeOf (read : ManifestView) (r : Option ManifestView) : Type 0 where
  pub made : IfSome r (λ m. m ≡ read)
  pub bounds : IsSome r ↔ IsManifest read

pub decoded : (bs : List ℕ) (read : ManifestView) (r : Option ManifestView) → AreBytes bs → length bs ≡ 21 → get_or bs 0 0 ≡ 1
    → IsRead bs read → IsMadeOf read r → IfSome r (λ m. IsManifest m × (bs ≡ encoding m))
decoded bs read None fit long one is made = tt
decoded bs read (Some m) fit long one is made =
    let e = sym made.made in
    (subst IsManifest e (made.bounds.0 refl), subst (λ n. bs ≡ encoding n) e (is_encoding bs read fit long one is))

pub decoded_exactly : (bs : List ℕ) (read : ManifestView) (r : Option ManifestView) → IsRead bs read → IsMadeOf read r
    → (m : ManifestView) → IsManifest m → bs ≡ encoding m → r ≡ Some m
decoded_exactly bs read None is made m bounds e =
    absurd (true≢false (sym (made.bounds.1 (subst IsManifest (read_once bs m read (subst (λ x. IsRead x m) (sym e) (is_read m bounds)) is) bounds))))
decoded_exactly bs read (Some n) is made m bounds e =
    ap Some (made.made ∙ read_once bs read m is (subst (λ x. IsRead x m) (sym e) (is_read m bounds)))

pub decoded_none : (bs : List ℕ) (read : ManifestView) (r : Option ManifestView) → IsRead bs read → IsMadeOf read r
    → IfNone r ((m : ManifestView) → IsManifest m → bs ≡ encoding m → ⊥)
decoded_none bs read None is made = λ m bounds e.
    true≢false (sym (made.bounds.1 (subst IsManifest (read_once bs m read (subst (λ x. IsRead x m) (sym e) (is_read m bounds)) is) bounds)))
decoded_none bs read (Some n) is made = tt
