-- The numbers of a pass's own events.
use Rattle.std.proofs.Common.{◌≡◌, ℕ, ◌+◌, ◌==◌, true, false, cond, List, [], ◌∷◌, ◌++◌, length, map, filter, refl, ◌∙◌, ap, subst, arith}
use Rattle.std.proofs.lemmas.List.{append-nil}
use Rattle.std.specs.List.{enumerate_from}
use Rattle.object_words.proofs.KeyLemmas.{number_itself}
use Rattle.realm_model.specs.Doors.{mine, NoneByPass}
use Rattle.realm_model.specs.declared.event.Event.{Event}
use Rattle.realm_model.proofs.ObjectLemmas.{number_same}

-- the numbers of the pass's events from this number on
abbrev mine_from : ℕ → ℕ → List Event → List ℕ
mine_from n pass events = map (λ e. e.0) (filter (λ e. (e.1).pass == pass) (enumerate_from n events))

mine-append : (n pass : ℕ) (xs ys : List Event) → mine_from n pass (xs ++ ys) ≡ mine_from n pass xs ++ mine_from (n + length xs) pass ys
mine-append n pass [] ys = ap (λ k. mine_from k pass ys) (omega arith)
mine-append n pass (x ∷ xs) ys =
    let rest = mine-append (n + 1) pass xs ys in
    let place : (n + 1) + length xs ≡ n + length {A = Event} (x ∷ xs) = omega arith in
    let whole = rest ∙ ap (λ k. mine_from (n + 1) pass xs ++ mine_from k pass ys) place in
    elim (x.pass == pass) as (λ b. map (λ e. e.0) (cond b ((n, x) ∷ filter (λ e. (e.1).pass == pass) (enumerate_from (n + 1) (xs ++ ys))) (filter (λ e. (e.1).pass == pass) (enumerate_from (n + 1) (xs ++ ys)))) ≡ map (λ e. e.0) (cond b ((n, x) ∷ filter (λ e. (e.1).pass == pass) (enumerate_from (n + 1) xs)) (filter (λ e. (e.1).pass == pass) (enumerate_from (n + 1) xs))) ++ mine_from (n + length {A = Event} (x ∷ xs)) pass ys) [
      | true ↦ ap (λ ns. n ∷ ns) whole
      | false ↦ whole
    ]

none_mine : (n pass : ℕ) (events : List Event) → NoneByPass pass events → mine_from n pass events ≡ []
none_mine n pass [] none = refl
none_mine n pass (x ∷ xs) none =
    elim (x.pass == pass) as (λ b. (x.pass == pass) ≡ b → map (λ e. e.0) (cond b ((n, x) ∷ filter (λ e. (e.1).pass == pass) (enumerate_from (n + 1) xs)) (filter (λ e. (e.1).pass == pass) (enumerate_from (n + 1) xs))) ≡ []) [
      | true ↦ λ same. absurd (none.0 (number_same x.pass pass same))
      | false ↦ λ apart. none_mine (n + 1) pass xs none.1
    ] refl

-- events of others and then an own one add its number alone
pub mine-next : (pass : ℕ) (seen between : List Event) (e : Event) → NoneByPass pass between → e.pass ≡ pass → mine pass ((seen ++ between) ++ e ∷ []) ≡ mine pass seen ++ (length (seen ++ between) + 1) ∷ []
mine-next pass seen between e none own =
    let first = mine-append 1 pass (seen ++ between) (e ∷ []) in
    let second = mine-append 1 pass seen between ∙ ap (λ ns. mine pass seen ++ ns) (none_mine (1 + length seen) pass between none) ∙ append-nil (mine pass seen) in
    let place : 1 + length (seen ++ between) ≡ length (seen ++ between) + 1 = omega arith in
    let is_own : (e.pass == pass) ≡ true = subst (λ p. (e.pass == p) ≡ true) own (number_itself e.pass) in
    let one : mine_from (1 + length (seen ++ between)) pass (e ∷ []) ≡ (length (seen ++ between) + 1) ∷ [] =
    rw is_own (ap (λ n. n ∷ []) place) in
    first ∙ ap (λ ns. ns ++ mine_from (1 + length (seen ++ between)) pass (e ∷ [])) second ∙ ap (λ ns. mine pass seen ++ ns) one
