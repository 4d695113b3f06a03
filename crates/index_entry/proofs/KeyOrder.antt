-- The keys of a log's rows are in the order of their positions.
use Rattle.std.proofs.Common.{◌≡◌, ℕ, ◌+◌, ◌*◌, ◌/◌, ◌%◌, ◌^◌, ◌<◌, ◌≤◌, List, ◌∷◌, drop, refl, sym, ap, ap₂, ◌∙◌, arith}
use Rattle.std.specs.declared.cmp.Ordering.{Ordering}
use Rattle.std.specs.declared.cmp.Ordering.TheVariants.{Less, Equal, Greater}
use Rattle.std.specs.Ordering.{nat_cmp, ordering_then, MatchOrdering}
use Rattle.std.specs.Cmp.{nat_cmp_is, ranks}
use Rattle.std.specs.Cmp.Lexicographic.{slice_cmp}
use Rattle.index_entry.specs.Numbers.{number_bytes}
use Rattle.index_entry.specs.LogRows.{log_key}

below : (m a b x y : ℕ) → a * m + m ≤ b * m → x < m → a * m + x < b * m + y
below m a b x y high fx = omega arith

shifted : (r : Ordering) (c d x y : ℕ) → c ≡ d → MatchOrdering r (x < y) (x ≡ y) (y < x) → MatchOrdering r (c + x < d + y) (c + x ≡ d + y) (d + y < c + x)
shifted Less c d x y e is = omega arith
shifted Equal c d x y e is = omega arith
shifted Greater c d x y e is = omega arith

joined : (m a b x y : ℕ) (r : Ordering) → MatchOrdering r (a < b) (a ≡ b) (b < a) → ((c d : ℕ) → c < d → c * m + m ≤ d * m) → x < m → y < m
    → ordering_then r (nat_cmp x y) ≡ nat_cmp (a * m + x) (b * m + y)
joined m a b x y Less is steps fx fy = nat_cmp_is (a * m + x) (b * m + y) Less (below m a b x y (steps a b is) fx)
joined m a b x y Greater is steps fx fy = nat_cmp_is (a * m + x) (b * m + y) Greater (below m b a y x (steps b a is) fy)
joined m a b x y Equal is steps fx fy = nat_cmp_is (a * m + x) (b * m + y) (nat_cmp x y) (shifted (nat_cmp x y) (a * m) (b * m) x y (ap (λ z. z * m) is) (ranks x y))

-- a digit before numbers that are in order
digit : (m n p q : ℕ) (ps qs : List ℕ) → ((c d : ℕ) → c < d → c * m + m ≤ d * m) → p % m < m → q % m < m
    → p % n ≡ (p / m % 256) * m + p % m → q % n ≡ (q / m % 256) * m + q % m
    → slice_cmp nat_cmp ps qs ≡ nat_cmp (p % m) (q % m)
    → slice_cmp nat_cmp ((p / m % 256) ∷ ps) ((q / m % 256) ∷ qs) ≡ nat_cmp (p % n) (q % n)
digit m n p q ps qs steps fp fq sp sq is =
    let a = p / m % 256 in
    let b = q / m % 256 in
    ap (ordering_then (nat_cmp a b)) is ∙ joined m a b (p % m) (q % m) (nat_cmp a b) (ranks a b) steps fp fq ∙ ap₂ nat_cmp (sym sp) (sym sq)

last_digit : (r : Ordering) → ordering_then r Equal ≡ r
last_digit Less = refl
last_digit Equal = refl
last_digit Greater = refl

bytes_in_order : (p q : ℕ) → p < 2 ^ 64 → q < 2 ^ 64 → slice_cmp nat_cmp (number_bytes p) (number_bytes q) ≡ nat_cmp p q
unfolding number_bytes
bytes_in_order p q fp fq =
    let steps_1 : slice_cmp nat_cmp (drop 7 (number_bytes p)) (drop 7 (number_bytes q)) ≡ nat_cmp (p % 256) (q % 256) = last_digit (nat_cmp (p % 256) (q % 256)) in
    let steps_2 = digit 256 65536 p q (drop 7 (number_bytes p)) (drop 7 (number_bytes q)) (λ c d h. omega arith) (omega arith) (omega arith) (omega arith) (omega arith) steps_1 in
    let steps_3 = digit 65536 16777216 p q (drop 6 (number_bytes p)) (drop 6 (number_bytes q)) (λ c d h. omega arith) (omega arith) (omega arith) (omega arith) (omega arith) steps_2 in
    let steps_4 = digit 16777216 4294967296 p q (drop 5 (number_bytes p)) (drop 5 (number_bytes q)) (λ c d h. omega arith) (omega arith) (omega arith) (omega arith) (omega arith) steps_3 in
    let steps_5 = digit 4294967296 1099511627776 p q (drop 4 (number_bytes p)) (drop 4 (number_bytes q)) (λ c d h. omega arith) (omega arith) (omega arith) (omega arith) (omega arith) steps_4 in
    let steps_6 = digit 1099511627776 281474976710656 p q (drop 3 (number_bytes p)) (drop 3 (number_bytes q)) (λ c d h. omega arith) (omega arith) (omega arith) (omega arith) (omega arith) steps_5 in
    let steps_7 = digit 281474976710656 72057594037927936 p q (drop 2 (number_bytes p)) (drop 2 (number_bytes q)) (λ c d h. omega arith) (omega arith) (omega arith) (omega arith) (omega arith) steps_6 in
    let steps_8 = digit 72057594037927936 18446744073709551616 p q (drop 1 (number_bytes p)) (drop 1 (number_bytes q)) (λ c d h. omega arith) (omega arith) (omega arith) (omega arith) (omega arith) steps_7 in
    let fits_p : p % 18446744073709551616 ≡ p = omega arith in
    let fits_q : q % 18446744073709551616 ≡ q = omega arith in
    steps_8 ∙ ap₂ nat_cmp fits_p fits_q

pub keys_in_order : (p q : ℕ) → p < 2 ^ 64 → q < 2 ^ 64 → slice_cmp nat_cmp (log_key p) (log_key q) ≡ nat_cmp p q
keys_in_order p q fp fq = bytes_in_order p q fp fq
