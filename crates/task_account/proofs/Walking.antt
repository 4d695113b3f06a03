-- How a walk over names goes on.
use Rattle.std.proofs.Common.{◌≡◌, ℕ, Bool, true, false, cond, List, [], ◌∷◌, Some, None, sym, ◌∙◌, ap}
use Rattle.task_account.specs.declared.asked.Asked.{Asked}
use Rattle.task_account.specs.declared.asked.Place.{Place}
use Rattle.task_account.specs.declared.reply.AccountReply.{AccountReply}
use Rattle.task_account.specs.declared.reply.AccountOutcome.TheVariants.{Done}
use Rattle.task_account.specs.declared.stage.Stage.{Stage}
use Rattle.task_account.specs.declared.stage.Stage.TheVariants.{Look, Ended}
use Rattle.task_account.specs.Asking.{is_full, place_of, first_of, rest_of}
use Rattle.task_account.specs.Stages.{placed, visit_of, behind_page, walk}

-- the first name, and those behind it
pub split_first : (names : List (List ℕ)) (name : List ℕ) → Some name ≡ first_of names → names ≡ name ∷ rest_of names
split_first [] name is = cc
split_first (first ∷ names) name is = cc

module _ (asked : Asked) (reply : AccountReply) (last : List ℕ) (is_last : Bool) where
  abbrev by_place : Place → List ℕ → List (List ℕ) → Stage
  by_place place name names = placed place (Ended (Done reply)) (walk asked reply name is_last names) (λ subdir. Look (visit_of reply name subdir is_last names))

  pub walk_full : (names : List (List ℕ)) → is_full asked reply ≡ true → Ended (Done reply) ≡ walk asked reply last is_last names
  walk_full [] is = sym (ap (λ b. cond b (Ended (Done reply)) (behind_page reply last is_last)) is)
  walk_full (name ∷ names) is = sym (ap (λ b. cond b (Ended (Done reply)) (by_place (place_of asked reply name) name names)) is)

  pub walk_none : (names : List (List ℕ)) → is_full asked reply ≡ false → None ≡ first_of names → behind_page reply last is_last ≡ walk asked reply last is_last names
  walk_none [] is none = sym (ap (λ b. cond b (Ended (Done reply)) (behind_page reply last is_last)) is)
  walk_none (name ∷ names) is none = cc

  pub walk_some : (name : List ℕ) (names : List (List ℕ)) (place : Place) → is_full asked reply ≡ false → place_of asked reply name ≡ place → walk asked reply last is_last (name ∷ names) ≡ by_place place name names
  walk_some name names place is at =
      ap (λ b. cond b (Ended (Done reply)) (by_place (place_of asked reply name) name names)) is ∙ ap (λ p. by_place p name names) at

  pub walk_at : (name : List ℕ) (names : List (List ℕ)) (place : Place) → is_full asked reply ≡ false → Some name ≡ first_of names → place_of asked reply name ≡ place → by_place place name (rest_of names) ≡ walk asked reply last is_last names
  walk_at name names place is first at = sym (ap (λ ns. walk asked reply last is_last ns) (split_first names name first) ∙ walk_some name (rest_of names) place is at)
