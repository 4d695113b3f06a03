-- What holds of one object that is changed, and of each that stays, holds of all objects.
use Rattle.std.proofs.Common.{◌≡◌, ℕ, ◌==◌, true, false, cond, refl, subst, arith}
use Rattle.std.proofs.lemmas.Bool.Decides.{nat_tests}
use Rattle.rgw_types.specs.declared.pool_key.Key.{Key}
use Rattle.object_words.specs.Keys.{is_key, put, put_key}
use Rattle.object_words.proofs.KeyLemmas.{same_key, number_itself}
use Rattle.realm_model.specs.States.{put_in}
use Rattle.realm_model.specs.Phases.{ActorId}
use Rattle.realm_model.specs.Learnt.{put_bundle}
use Rattle.realm_model.specs.Worlds.{same_actor, put_actor}
use Rattle.realm_model.proofs.Others.{same_is}

pub number_same : (a b : ℕ) → (a == b) ≡ true → a ≡ b
number_same a b same = grind (arith, nat_tests)

pub put_cases : {A : Type 0} (R : ℕ → A → Type 0) (f : ℕ → A) (n : ℕ) (x : A) → R n x → ((q : ℕ) → R q (f q)) → (q : ℕ) → R q (put f n x q)
put_cases R f n x here else q =
    elim (n == q) as (λ b. (n == q) ≡ b → R q (cond b x (f q))) [
      | true ↦ λ same. subst (λ k. R k x) (number_same n q same) here
      | false ↦ λ apart. else q
    ] refl

pub put_key_cases : {A : Type 0} (R : Key → A → Type 0) (f : Key → A) (key : Key) (x : A) → R key x → ((k : Key) → R k (f k)) → (k : Key) → R k (put_key f key x k)
put_key_cases R f key x here else k =
    elim (is_key key k) as (λ b. is_key key k ≡ b → R k (cond b x (f k))) [
      | true ↦ λ same. subst (λ q. R q x) (same_key key k same) here
      | false ↦ λ apart. else k
    ] refl

pub put_in_cases : {A : Type 0} (R : ℕ → Key → A → Type 0) (f : ℕ → Key → A) (zone : ℕ) (key : Key) (x : A) → R zone key x → ((z : ℕ) (k : Key) → R z k (f z k)) → (z : ℕ) (k : Key) → R z k (put_in f zone key x z k)
put_in_cases R f zone key x here else =
    put_cases (λ z g. (k : Key) → R z k (g k)) f zone (put_key (f zone) key x)
    (put_key_cases (R zone) (f zone) key x here (else zone)) else

pub put_bundle_cases : {A : Type 0} (R : ℕ → ℕ → ℕ → A → Type 0) (f : ℕ → ℕ → ℕ → A) (zone write holder : ℕ) (x : A) → R zone write holder x → ((z w h : ℕ) → R z w h (f z w h)) → (z w h : ℕ) → R z w h (put_bundle f zone write holder x z w h)
put_bundle_cases R f zone write holder x here else =
    put_cases (λ z g. (w h : ℕ) → R z w h (g w h)) f zone (put (f zone) write (put (f zone write) holder x))
    (put_cases (λ w g. (h : ℕ) → R zone w h (g h)) (f zone) write (put (f zone write) holder x)
    (put_cases (R zone write) (f zone write) holder x here (else zone write)) (else zone)) else

pub put_actor_cases : {A : Type 0} (R : ActorId → A → Type 0) (f : ActorId → A) (actor : ActorId) (x : A) → R actor x → ((a : ActorId) → R a (f a)) → (a : ActorId) → R a (put_actor f actor x a)
put_actor_cases R f actor x here else a =
    elim (same_actor a actor) as (λ b. same_actor a actor ≡ b → R a (cond b x (f a))) [
      | true ↦ λ same. subst (λ q. R q x) (same_is a actor same) here
      | false ↦ λ apart. else a
    ] refl

pub actor_itself : (a : ActorId) → same_actor a a ≡ true
actor_itself a = rw (number_itself a.pass, number_itself a.count) refl

pub put_actor_here : {A : Type 0} (f : ActorId → A) (a : ActorId) (x : A) → put_actor f a x a ≡ x
put_actor_here f a x = rw (actor_itself a) refl
