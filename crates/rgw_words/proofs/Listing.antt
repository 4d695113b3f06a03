-- Which users a text lists.
use Rattle.std.proofs.Common.{◌≡◌, ◌≤◌, ℕ, Bool, not, ◌&&◌, ◌||◌, true, false, cond, nat_le, List, [], ◌∷◌, length, Option, Some, None, refl, ap, ◌∙◌, arith, bytes_eq}
use Rattle.std.specs.Prelude.{option_and_then}
use Rattle.std.specs.List.{list_any, AllByRecursion, IsDistinct}
use Rattle.swift_auth.specs.Users.{UserView, AreUsers, most_users}
use Rattle.swift_auth.specs.UsersTexts.{users_in, IsUsersText}
use Rattle.rgw_words.specs.NamedUsers.{differ, may_be_users, if_users, listed_users}

-- ---- texts that differ

both : (a b : Bool) → a ≡ true → b ≡ true → (a && b) ≡ true
both true b first second = second
both false b first second = absurd (cc)

left : (a b : Bool) → (a && b) ≡ true → a ≡ true
left true b both = refl
left false b both = absurd (cc)

right : (a b : Bool) → (a && b) ≡ true → b ≡ true
right true b both = both
right false b both = absurd (cc)

none_like : (text : List ℕ) (texts : List (List ℕ)) → AllByRecursion (λ t. bytes_eq text t ≡ false) texts → not (list_any (bytes_eq text) texts) ≡ true
none_like text [] all = refl
none_like text (t ∷ texts) all = rw all.0 (none_like text texts all.1)

first_unlike : (like others : Bool) → not (like || others) ≡ true → (like ≡ false) × (not others ≡ true)
first_unlike true others none = let clash : false ≡ true = none in absurd (cc)
first_unlike false others none = (refl, none)

all_unlike : (text : List ℕ) (texts : List (List ℕ)) → not (list_any (bytes_eq text) texts) ≡ true → AllByRecursion (λ t. bytes_eq text t ≡ false) texts
all_unlike text [] none = tt
all_unlike text (t ∷ texts) none =
    let parts = first_unlike (bytes_eq text t) (list_any (bytes_eq text) texts) none in
    (parts.0, all_unlike text texts parts.1)

pub told_apart : (texts : List (List ℕ)) → IsDistinct bytes_eq texts → differ texts ≡ true
unfolding IsDistinct
told_apart [] apart = refl
told_apart (text ∷ texts) apart = both _ _ (none_like text texts apart.0) (told_apart texts apart.1)

pub are_distinct : (texts : List (List ℕ)) → differ texts ≡ true → IsDistinct bytes_eq texts
unfolding IsDistinct
are_distinct [] apart = tt
are_distinct (text ∷ texts) apart = (all_unlike text texts (left _ _ apart), are_distinct texts (right _ _ apart))

-- ---- users

may_be : (users : List UserView) → AreUsers users → may_be_users users ≡ true
may_be users are =
    let some = are.some in
    let most = are.most in
    let low : nat_le 1 (length users) ≡ true = grind (arith, some) in
    let high : nat_le (length users) most_users ≡ true = grind (arith, most) in
    both _ _ (both _ _ low high) (both _ _ (told_apart _ are.names_differ) (told_apart _ are.tokens_differ))

are_users : (users : List UserView) → may_be_users users ≡ true → AreUsers users
are_users users may =
    let counts = left _ _ may in
    let texts = right _ _ may in
    let low : nat_le 1 (length users) ≡ true = left _ _ counts in
    let high : nat_le (length users) most_users ≡ true = right _ _ counts in
    let some : 1 ≤ length users = grind (arith, low) in
    let most : length users ≤ most_users = grind (arith, high) in
    record { some = some; most = most; names_differ = are_distinct _ (left _ _ texts); tokens_differ = are_distinct _ (right _ _ texts) }

pub are_listed : (text : List ℕ) (users : List UserView) → IsUsersText text users → listed_users text ≡ Some users
are_listed text users is = ap (option_and_then if_users) is.listed ∙ ap (λ b. cond b (Some users) None) (may_be users is.may_be)

pub none_listed : (text : List ℕ) → ((users : List UserView) → ¬ (IsUsersText text users)) → listed_users text ≡ None
none_listed text none = of (users_in text) refl where
  tested : (users : List UserView) (b : Bool) → users_in text ≡ Some users → may_be_users users ≡ b → cond b (Some users) None ≡ None
  tested users false is test = refl
  tested users true is test = absurd (none users (record { listed = is; may_be = are_users users test }))

  of : (found : Option (List UserView)) → users_in text ≡ found → option_and_then if_users (users_in text) ≡ None
  of None is = ap (option_and_then if_users) is
  of (Some users) is = ap (option_and_then if_users) is ∙ tested users (may_be_users users) is refl
