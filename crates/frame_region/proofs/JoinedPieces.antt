-- Pieces of equal length joined: a part of one is a part of all, read and written.
use Rattle.std.proofs.Common.{◌≡◌, ◌≢◌, ℕ, zero, suc, ◌+◌, ◌*◌, ◌≤◌, ◌<◌, List, ◌++◌, length, take, drop, replicate, arith, inl, inr, refl, sym, subst, ◌∙◌, ap, ap₂, length-append}
use Rattle.std.proofs.lemmas.List.{replicate-append-replicate}
use Rattle.std.proofs.lemmas.Nat.{row_fits}
use Rattle.std.proofs.lemmas.Bool.{cases_lt}
use Rattle.frame_region.specs.Region.{overwritten}
use Rattle.frame_region.specs.Cells.{joined}
use Rattle.frame_region.proofs.Overwrites.{take-drop-append_left, drop-append_right, overwritten-append_left, overwritten-append_right}

pub joined_same : (f g : ℕ → List ℕ) (count : ℕ) → ((i : ℕ) → i < count → f i ≡ g i) → joined f count ≡ joined g count
joined_same f g zero same = refl
joined_same f g (suc n) same = ap₂ ◌++◌ (joined_same f g n (λ i h. same i (omega arith))) (same n (omega arith))

pub length-joined : (f : ℕ → List ℕ) (size count : ℕ) → ((i : ℕ) → i < count → length (f i) ≡ size) → length (joined f count) ≡ count * size
length-joined f size zero sized = omega arith
length-joined f size (suc n) sized =
    omega (arith, length-append (joined f n) (f n), length-joined f size n (λ i h. sized i (omega arith)), sized n (omega arith))

pub joined-replicate : (f : ℕ → List ℕ) (size byte count : ℕ) → ((i : ℕ) → i < count → f i ≡ replicate size byte) → joined f count ≡ replicate (count * size) byte
joined-replicate f size byte zero each = let none : 0 ≡ 0 * size = omega arith in ap (λ m. replicate m byte) none
joined-replicate f size byte (suc n) each =
    ap₂ ◌++◌ (joined-replicate f size byte n (λ i h. each i (omega arith))) (each n (omega arith)) ∙ replicate-append-replicate (n * size) size byte ∙ ap (λ m. replicate m byte) (omega arith)

pub take-drop-joined : (f : ℕ → List ℕ) (size count : ℕ) → ((i : ℕ) → i < count → length (f i) ≡ size) → (i offset part : ℕ) → i < count → offset + part ≤ size → take part (drop (i * size + offset) (joined f count)) ≡ take part (drop offset (f i))
take-drop-joined f size zero sized i offset part below fits = absurd (omega arith)
take-drop-joined f size (suc n) sized i offset part below fits =
    let front = length-joined f size n (λ k h. sized k (omega arith)) in
    elim (cases_lt i n) [
      | inl before ↦
          let row = row_fits i size n size before (omega arith) in
          take-drop-append_left (joined f n) (f n) (i * size + offset) part (omega arith) ∙ take-drop-joined f size n (λ k h. sized k (omega arith)) i offset part before fits
      | inr last ↦
          let at_end : i ≡ n = omega arith in
          rw at_end (ap (take part) (drop-append_right (joined f n) (f n) (n * size) offset front))
    ]

pub joined-overwritten : (f g : ℕ → List ℕ) (size count : ℕ) → ((i : ℕ) → i < count → length (f i) ≡ size) → (i offset : ℕ) (written : List ℕ) → i < count → offset + length written ≤ size → g i ≡ overwritten (f i) offset written → ((k : ℕ) → k < count → k ≢ i → g k ≡ f k) → joined g count ≡ overwritten (joined f count) (i * size + offset) written
joined-overwritten f g size zero sized i offset written below fits here others = absurd (omega arith)
joined-overwritten f g size (suc n) sized i offset written below fits here others =
    let front = length-joined f size n (λ k h. sized k (omega arith)) in
    elim (cases_lt i n) [
      | inl before ↦
          let row = row_fits i size n size before (omega arith) in
          ap₂ ◌++◌ (joined-overwritten f g size n (λ k h. sized k (omega arith)) i offset written before fits here (λ k h. others k (omega arith))) (others n (omega arith) (λ e. omega arith))
          ∙ sym (overwritten-append_left (joined f n) (f n) (i * size + offset) written (omega arith))
      | inr last ↦
          let at_end : i ≡ n = omega arith in
          let row : i * size ≡ n * size = ap (λ k. k * size) at_end in
          let front_same = joined_same g f n (λ k h. others k (omega arith) (λ e. omega arith)) in
          let last_is : g n ≡ overwritten (f n) offset written = subst (λ k. g k ≡ overwritten (f k) offset written) at_end here in
          ap₂ ◌++◌ front_same last_is
          ∙ sym (overwritten-append_right (joined f n) (f n) offset written (omega (arith, sized n (omega arith))))
          ∙ ap (λ p. overwritten (joined f n ++ f n) p written) (omega arith)
    ]
