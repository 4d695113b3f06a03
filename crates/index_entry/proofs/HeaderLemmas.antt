-- A header in bytes.
use Rattle.std.proofs.Common.{◌≡◌, ℕ, append-nil, ◌+◌, ◌*◌, ◌/◌, ◌%◌, ◌^◌, ◌<◌, List, [], ◌∷◌, ◌++◌, length, drop, get_or, refl, sym, ap, ◌∙◌, arith, Some, unwrap_or, append_assoc}
use Rattle.std.proofs.lemmas.List.{length-drop, get_or-drop}
use Rattle.std.proofs.lemmas.Nat.{shr_high, mod_low}
use Rattle.index_entry.specs.Numbers.{number_bytes}
use Rattle.index_entry.specs.declared.header.ShardHeader.{ShardHeader}
use Rattle.index_entry.specs.Headers.{fate_kind, fate_number, header_bytes, hold_kind, hold_number}
use Rattle.index_entry.proofs.PieceLemmas.{behind, length-number_bytes}

-- where the parts of a header are
pub record HeaderRead (bs : List ℕ) (h : ShardHeader) : Type 0 where
  pub start : bs ≡ 237 ∷ 1 ∷ drop 2 bs
  pub at_2 : drop 2 bs ≡ number_bytes h.objects ++ drop 10 bs
  pub at_10 : drop 10 bs ≡ number_bytes (h.bytes / 2 ^ 64) ++ drop 18 bs
  pub at_18 : drop 18 bs ≡ number_bytes (h.bytes % 2 ^ 64) ++ drop 26 bs
  pub at_26 : drop 26 bs ≡ number_bytes h.tags ++ drop 34 bs
  pub at_34 : drop 34 bs ≡ number_bytes h.last ++ drop 42 bs
  pub at_42 : drop 42 bs ≡ number_bytes h.fence ++ drop 50 bs
  pub at_50 : drop 50 bs ≡ hold_kind h.hold ∷ drop 51 bs
  pub at_51 : drop 51 bs ≡ number_bytes (hold_number h.hold) ++ drop 59 bs
  pub at_59 : drop 59 bs ≡ fate_kind h.fate ∷ drop 60 bs
  pub at_60 : drop 60 bs ≡ number_bytes (fate_number h.fate)

pub header_read : (bs : List ℕ) (h : ShardHeader) → bs ≡ header_bytes h → HeaderRead bs h
header_read bs h here =
    let at_2 = ap (drop 2) here in
    let at_10 = behind bs 2 8 10 _ _ at_2 (length-number_bytes h.objects) refl in
    let at_18 = behind bs 10 8 18 _ _ at_10 (length-number_bytes (h.bytes / 2 ^ 64)) refl in
    let at_26 = behind bs 18 8 26 _ _ at_18 (length-number_bytes (h.bytes % 2 ^ 64)) refl in
    let at_34 = behind bs 26 8 34 _ _ at_26 (length-number_bytes h.tags) refl in
    let at_42 = behind bs 34 8 42 _ _ at_34 (length-number_bytes h.last) refl in
    let at_50 = behind bs 42 8 50 _ _ at_42 (length-number_bytes h.fence) refl in
    let at_51 = behind bs 50 1 51 (hold_kind h.hold ∷ []) _ at_50 refl refl in
    let at_59 = behind bs 51 8 59 _ _ at_51 (length-number_bytes (hold_number h.hold)) refl in
    let at_60 = behind bs 59 1 60 (fate_kind h.fate ∷ []) _ at_59 refl refl in
    record {
      start = here ∙ ap (λ z. 237 ∷ 1 ∷ z) (sym at_2);
      at_2 = at_2 ∙ ap (λ z. number_bytes h.objects ++ z) (sym at_10);
      at_10 = at_10 ∙ ap (λ z. number_bytes (h.bytes / 2 ^ 64) ++ z) (sym at_18);
      at_18 = at_18 ∙ ap (λ z. number_bytes (h.bytes % 2 ^ 64) ++ z) (sym at_26);
      at_26 = at_26 ∙ ap (λ z. number_bytes h.tags ++ z) (sym at_34);
      at_34 = at_34 ∙ ap (λ z. number_bytes h.last ++ z) (sym at_42);
      at_42 = at_42 ∙ ap (λ z. number_bytes h.fence ++ z) (sym at_50);
      at_50 = at_50 ∙ ap (λ z. hold_kind h.hold ∷ z) (sym at_51);
      at_51 = at_51 ∙ ap (λ z. number_bytes (hold_number h.hold) ++ z) (sym at_59);
      at_59 = at_59 ∙ ap (λ z. fate_kind h.fate ∷ z) (sym at_60);
      at_60 = at_60;
    }

pub header_found : (bs : List ℕ) (h : ShardHeader) → HeaderRead bs h → bs ≡ header_bytes h
header_found bs h r =
    let at_59 = r.at_59 ∙ ap (λ z. fate_kind h.fate ∷ z) r.at_60 in
    let at_50 = r.at_50 ∙ ap (λ z. hold_kind h.hold ∷ z) (r.at_51 ∙ ap (λ z. number_bytes (hold_number h.hold) ++ z) at_59) in
    let at_42 = r.at_42 ∙ ap (λ z. number_bytes h.fence ++ z) at_50 in
    let at_34 = r.at_34 ∙ ap (λ z. number_bytes h.last ++ z) at_42 in
    let at_26 = r.at_26 ∙ ap (λ z. number_bytes h.tags ++ z) at_34 in
    let at_18 = r.at_18 ∙ ap (λ z. number_bytes (h.bytes % 2 ^ 64) ++ z) at_26 in
    let at_10 = r.at_10 ∙ ap (λ z. number_bytes (h.bytes / 2 ^ 64) ++ z) at_18 in
    let at_2 = r.at_2 ∙ ap (λ z. number_bytes h.objects ++ z) at_10 in
    r.start ∙ ap (λ z. 237 ∷ 1 ∷ z) at_2

pub header_long : (bs : List ℕ) (h : ShardHeader) → bs ≡ header_bytes h → length bs ≡ 68
header_long bs h here =
    let r = header_read bs h here in
    omega (arith, ap length r.at_60, length-number_bytes (fate_number h.fate), length-drop 60 bs)

pub hold_byte : (bs : List ℕ) (h : ShardHeader) → HeaderRead bs h → hold_kind h.hold ≡ get_or bs 50 0
hold_byte bs h r = sym (ap (λ z. get_or z 0 0) r.at_50) ∙ get_or-drop 50 bs 0 0

pub fate_byte : (bs : List ℕ) (h : ShardHeader) → HeaderRead bs h → fate_kind h.fate ≡ get_or bs 59 0
fate_byte bs h r = sym (ap (λ z. get_or z 0 0) r.at_59) ∙ get_or-drop 59 bs 0 0

pub begins_so : (bs : List ℕ) → length bs ≡ 68 → get_or bs 0 0 ≡ 237 → get_or bs 1 0 ≡ 1 → bs ≡ 237 ∷ 1 ∷ drop 2 bs
begins_so [] long a b = absurd (omega (arith, long))
begins_so (x ∷ []) long a b = absurd (omega (arith, long))
begins_so (x ∷ y ∷ bs) long a b = λ i. a i ∷ b i ∷ bs

pub high_half : (high low : ℕ) → low < 2 ^ 64 → high ≡ (high * 2 ^ 64 + low) / 2 ^ 64
high_half high low fits = sym (shr_high high 64 low fits)

pub low_half : (high low : ℕ) → low < 2 ^ 64 → low ≡ (high * 2 ^ 64 + low) % 2 ^ 64
low_half high low fits = sym (mod_low high 64 low fits)

pub both_halves : (high low sum : ℕ) → high ≡ sum / 2 ^ 64 → low ≡ sum % 2 ^ 64 → high * 2 ^ 64 + low ≡ sum
both_halves high low sum h l = omega (arith, h, l)

pub same_header : (a b : ShardHeader) → a.objects ≡ b.objects → a.bytes ≡ b.bytes → a.tags ≡ b.tags → a.last ≡ b.last → a.hold ≡ b.hold → a.fate ≡ b.fate → a.fence ≡ b.fence → a ≡ b
same_header a b o s t l h f n = λ i. record { objects = o i; bytes = s i; tags = t i; last = l i; hold = h i; fate = f i; fence = n i }

pub same_in_some : {A : Type 0} (x y : A) → Some x ≡ Some y → x ≡ y
same_in_some x y e = ap (λ o. unwrap_or o x) e

pub header_flat : (x y : ℕ) (a b d e f g : List ℕ) (k : ℕ) (n : List ℕ) (j : ℕ) (m : List ℕ)
    → (((((((((((x ∷ y ∷ []) ++ a) ++ b) ++ d) ++ e) ++ f) ++ g) ++ (k ∷ [])) ++ n) ++ (j ∷ [])) ++ m) ≡ x ∷ y ∷ (a ++ (b ++ (d ++ (e ++ (f ++ (g ++ (k ∷ (n ++ (j ∷ m)))))))))
header_flat x y a b d e f g k n j m = simp append_assoc refl

pub last_number : (bs : List ℕ) (h : ShardHeader) → bs ≡ header_bytes h → drop 60 bs ≡ number_bytes (fate_number h.fate) ++ []
last_number bs h here = (header_read bs h here).at_60 ∙ sym (append-nil (number_bytes (fate_number h.fate)))
