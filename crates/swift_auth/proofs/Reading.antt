-- Reading users one after the other, as a loop does.
use Rattle.std.proofs.Common.{◌≡◌, ℕ, ◌+◌, ◌≤◌, ◌<◌, List, [], ◌∷◌, ◌++◌, length, map, drop, get_or, Option, Some, None, refl, sym, ap, ◌∙◌, append_assoc}
use Rattle.std.specs.Option.{option_map, option_and_then}
use Rattle.std.proofs.lemmas.List.{append-nil, drop_more, drop_all}
use Rattle.serde_json.specs.Data.{Data}
use Rattle.serde_json.specs.View.{items_of}
use Rattle.swift_auth.specs.declared.fault.UsersFault.{UsersFault}
use Rattle.swift_auth.specs.declared.fault.UsersFault.TheVariants.{OutOfMemory, BadUsers}
use Rattle.swift_auth.specs.Faults.{Fails}
use Rattle.swift_auth.specs.Users.{UserView}
use Rattle.swift_auth.specs.UsersTexts.{user_of, users_of}

-- what was read before, and what is still read
abbrev pub with_front : List UserView → Option (List UserView) → Option (List UserView)
with_front front read = option_map (λ users. front ++ users) read

regroup : (front : List UserView) (u : UserView) (read : Option (List UserView))
    → with_front front (option_map (λ users. u ∷ users) read) ≡ with_front (front ++ u ∷ []) read
regroup front u None = refl
regroup front u (Some users) = ap (λ (xs : List UserView). Some xs) (sym (append_assoc front (u ∷ []) users))

module _ {V : Type 0} (view : V → Data) (vs : List V) (i : ℕ) (d : V) where
  -- the users of the values from a place on
  abbrev pub left_from : ℕ → Option (List UserView)
  left_from n = users_of (items_of (map view (drop n vs)))

  -- the value at a place, and those behind it
  at_place : i < length vs → left_from i ≡ option_and_then (λ u. option_map (λ users. u ∷ users) (left_from (i + 1))) (user_of (view (get_or vs i d)))
  at_place lt = ap (λ ws. users_of (items_of (map view ws))) (drop_more vs i d lt)

  pub goes_on : (front : List UserView) (u : UserView) (all : Option (List UserView)) → i < length vs → user_of (view (get_or vs i d)) ≡ Some u
      → with_front front (left_from i) ≡ all → with_front (front ++ u ∷ []) (left_from (i + 1)) ≡ all
  goes_on front u all lt is so_far =
      sym (ap (with_front front) (at_place lt ∙ ap (option_and_then (λ v. option_map (λ users. v ∷ users) (left_from (i + 1)))) is) ∙ regroup front u _) ∙ so_far

  pub fails : (fault : UsersFault) (front : List UserView) (all : Option (List UserView)) → i < length vs → Fails fault (user_of (view (get_or vs i d)))
      → with_front front (left_from i) ≡ all → Fails fault all
  fails OutOfMemory front all lt is so_far = tt
  fails BadUsers front all lt is so_far =
      sym so_far ∙ ap (with_front front) (at_place lt ∙ ap (option_and_then (λ v. option_map (λ users. v ∷ users) (left_from (i + 1)))) is)

pub is_done : {V : Type 0} (view : V → Data) (vs : List V) (i : ℕ) (front : List UserView) (all : Option (List UserView)) → length vs ≤ i
    → with_front front (users_of (items_of (map view (drop i vs)))) ≡ all → all ≡ Some front
is_done view vs i front all le so_far =
    sym so_far ∙ ap (λ ws. with_front front (users_of (items_of (map view ws)))) (drop_all i vs le) ∙ ap (λ (xs : List UserView). Some xs) (append-nil front)
