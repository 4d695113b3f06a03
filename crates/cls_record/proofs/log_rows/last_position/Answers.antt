use Rattle.std.proofs.Common.{◌≡◌, ℕ, ◌==◌, true, false, if◌then◌else◌, List, [], length, refl, sym, ap, ◌∙◌, arith}
use Rattle.std.proofs.lemmas.Bool.{true≢false}
use Rattle.std.proofs.lemmas.Bool.Decides.{nat_tests}
use Rattle.index_entry.specs.Numbers.{number_bytes}
use Rattle.index_entry.proofs.PieceLemmas.{length-number_bytes}
use Rattle.cls_record.proofs.log_rows.last_position.Goals as goal

some_rows : (n : ℕ) (bs : List ℕ) → bs ≡ (if n == 0 then [] else number_bytes n) → (length bs == 0) ≡ false → length bs ≡ 8
some_rows n bs =
    elim (n == 0) as (λ b. bs ≡ (if b then [] else number_bytes n) → (length bs == 0) ≡ false → length bs ≡ 8) [
      | true ↦ λ is none. absurd (true≢false (sym (ap (λ z. length z == 0) is) ∙ none))
      | false ↦ λ is none. ap length is ∙ length-number_bytes n
    ]

no_rows : (n : ℕ) (bs : List ℕ) → bs ≡ (if n == 0 then [] else number_bytes n) → (length bs == 0) ≡ true → 0 ≡ n
no_rows n bs =
    elim (n == 0) as (λ b. (n == 0) ≡ b → bs ≡ (if b then [] else number_bytes n) → (length bs == 0) ≡ true → 0 ≡ n) [
      | true ↦ λ e is none. grind (arith, nat_tests)
      | false ↦ λ e is none. absurd (true≢false (sym none ∙ ap (λ z. z == 0) (ap length is ∙ length-number_bytes n)))
    ] refl

pub number_in-requires : goal.number_in-requires
number_in-requires c = some_rows c.requires.0.last c.args.attrs.now c.requires.2 (sym c.is_empty.ensures ∙ c.if-is_empty.false)

pub returns-then-is_empty : goal.returns-then-is_empty
returns-then-is_empty c log small is = no_rows log.last c.args.attrs.now is (sym c.is_empty.ensures ∙ c.if-is_empty.true)
