-- Where a call for the next bytes of a body answers that there are none.
use Rattle.std.proofs.Common.{◌≡◌, ◌≢◌, ℕ, ◌<◌, min, Bool, true, false, List, ◌++◌, length, Option, None, Ok, ap, ◌∙◌, refl, inl, inr, arith}
use Rattle.std.specs.Prelude.{◌&&◌, ◌==◌, nat_lt}
use Rattle.std.proofs.lemmas.Bool.{eqb-true, and_parts}
use Rattle.std.proofs.lemmas.Bool.Decides.{nat_tests}
use Rattle.http_intake.specs.Intake.{IntakeState, IsWhole, is_line_due, GivesBytes, OpensNext, GivesChunk}

zero_room : (left room : ℕ) → ((left == 0) && nat_lt 0 room) ≡ false → left ≡ 0 → 0 < room → ⊥
zero_room left room due none some = grind (arith, nat_tests)

not_due : (chunked : Bool) (left room : ℕ) → (chunked && ((left == 0) && nat_lt 0 room)) ≡ false → left ≡ 0 → 0 < room → chunked ≡ false
not_due false left room due none some = refl
not_due true left room due none some = absurd (zero_room left room due none some)

due_parts : (chunked : Bool) (left room : ℕ) → (chunked && ((left == 0) && nat_lt 0 room)) ≡ true → (chunked ≡ true) × (left ≡ 0)
due_parts false left room due = cc
due_parts true left room due = (refl, eqb-true left 0 (and_parts (left == 0) (nat_lt 0 room) due).0)

-- a chunk line is due only in a body in chunks, of which no chunk is being given
pub line_due : (intake : IntakeState) (out : List ℕ) → is_line_due intake out ≡ true → (intake.chunked ≡ true) × (intake.body_left ≡ 0)
line_due intake out due = due_parts intake.chunked intake.body_left (length out) due

pub whole_bytes : (before after : Option (List ℕ)) (old new : IntakeState) (out was : List ℕ) → length out ≡ length was → is_line_due old was ≡ false → 0 < length was
    → GivesBytes before after old new out 0 → IsWhole new
whole_bytes before after old new out was same due some given =
    let none : old.body_left ≡ 0 = omega (arith, given.zero refl, same, some) in
    (given.failed, (omega (arith, given.due, none), given.chunked ∙ not_due old.chunked old.body_left (length was) due none some))

not_zero : (size : ℕ) → 0 < size → size ≡ 0 → ⊥
not_zero size some none = omega (arith, some, none)

opened_some : (all : List ℕ) (old between : IntakeState) (size room : ℕ) → 0 < size → OpensNext all old between size → 0 < room → min between.body_left room ≢ 0
opened_some all old between size room some (inl opens) more none =
    let left : between.body_left ≡ size = ap (λ i. i.body_left) opens.3 in omega (arith, some, more, none, left)
opened_some all old between size room some (inr opens) more none = not_zero size some opens.0

ended : (all : List ℕ) (old new : IntakeState) → OpensNext all old new 0 → old.failed ≡ None → old.body_left ≡ 0 → IsWhole new
ended all old new (inl opens) goes none = absurd (not_zero 0 opens.0 refl)
ended all old new (inr opens) goes none = (ap (λ i. i.failed) opens.2 ∙ goes, (ap (λ i. i.body_left) opens.2 ∙ none, ap (λ i. i.chunked) opens.2))

pub whole_chunk : (before after : Option (List ℕ)) (old new : IntakeState) (out was : List ℕ) → length out ≡ length was → is_line_due old was ≡ true → 0 < length was
    → old.failed ≡ None → GivesChunk before after old new out (Ok 0) → IsWhole new
whole_chunk before after old new out was same due some goes (inl given) =
    absurd (opened_some (old.buffer ++ given.4.0) old given.2 given.0 (length out) given.3 given.4.2 (omega (arith, same, some)) (given.5.zero refl))
whole_chunk before after old new out was same due some goes (inr (inl given)) =
    ended (old.buffer ++ given.1.0) old new given.1.2 goes (due_parts old.chunked old.body_left (length was) due).1
whole_chunk before after old new out was same due some goes (inr (inr given)) = let e = given.1 in cc

-- no chunk line is due in a body by its length
pub never_due : (intake : IntakeState) (out : List ℕ) → intake.chunked ≡ false → is_line_due intake out ≡ false
never_due intake out unchunked = ap (λ c. c && ((intake.body_left == 0) && nat_lt 0 (length out))) unchunked
