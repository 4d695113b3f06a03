-- The step that notes an event keeps the word's rule.
use Rattle.std.proofs.Common.{◌≡◌, ℕ, ◌+◌, ◌<◌, ◌%◌, ◌^◌, List, [], ◌∷◌, ◌++◌, length, refl, ap, subst, arith, ⊎_elim, length-append}
use Rattle.std.specs.List.{slice_index, slice_set}
use mathlib.Core.Option.{some}
use lib.ListN.{get_elem?}
use Rattle.atomic_table.specs.Table.{Me, Allows, keeps}
use Rattle.atomic_table.proofs.Lists.{at_set}
use Rattle.realm_model.specs.declared.event.Event.{Event}
use Rattle.event_scroll.specs.Counting.{IsCounted}

-- the word goes up by one, and doesn't wrap
word_after : (events : List Event) (e : Event) (words : List ℕ) → length events < 2 ^ 62 → words ≡ length events ∷ []
    → slice_set words 0 ((slice_index words 0 + 1) % 2 ^ 64) ≡ length (events ++ e ∷ []) ∷ []
word_after events e words room is =
    let count : (length events + 1) % 2 ^ 64 ≡ length (events ++ e ∷ []) = omega (arith, length-append events (e ∷ [])) in
    rw is (ap (λ (n : ℕ). n ∷ []) count)

pub note_keeps : (slots id : ℕ) (me : Me (Unit {0}) (List Event)) (e : Event) → id ≡ 0 → length me.0 < 2 ^ 62
    → Allows IsCounted slots id me 0 (λ n. (n + 1) % 2 ^ 64) (λ found after. after.0 ≡ me.0 ++ e ∷ [])
note_keeps slots id me e first room state kept wide seat fits =
    let home : get_elem? state.views 0 ≡ some me.0 = rw first at seat in
    let after = word_after me.0 e state.words room (kept me.0 home) in (
      me.0 ++ e ∷ [],
      keeps,
      tt,
      (λ events there.
          let Is : List Event → Type 0 = λ found. slice_set state.words 0 ((slice_index state.words 0 + 1) % 2 ^ 64) ≡ length found ∷ [] in
          let there' : get_elem? (slice_set state.views 0 (me.0 ++ e ∷ [])) 0 ≡ some events = rw first at there in
          ⊎_elim (λ h. subst Is h.1 after) (λ h. absurd (h.0 refl)) (at_set state.views 0 0 (me.0 ++ e ∷ []) events there')),
      refl,
    )
