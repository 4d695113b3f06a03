-- One value changed, and the others as they were.
use Rattle.std.proofs.Common.{◌≡◌, ℕ, ◌==◌, true, false, cond, refl, sym, subst, ◌∙◌}
use Rattle.rgw_types.specs.declared.pool_key.Key.{Key}
use Rattle.object_words.specs.Keys.{is_key, put, put_key}
use Rattle.object_words.proofs.KeyLemmas.{same_key, key_itself, number_itself}
use Rattle.realm_model.specs.States.{put_in}
use Rattle.realm_model.specs.Phases.{ActorId}
use Rattle.realm_model.specs.Learnt.{put_bundle}
use Rattle.realm_model.specs.Worlds.{same_actor, put_actor}
use Rattle.realm_model.proofs.Others.{same_is}
use Rattle.realm_model.proofs.ObjectLemmas.{number_same, actor_itself}

-- ---- two functions that change at one place

pub put_both : {A B : Type 0} (R : ℕ → A → B → Type 0) (f : ℕ → A) (g : ℕ → B) (n : ℕ) (x : A) (y : B) → R n x y → ((q : ℕ) → R q (f q) (g q)) → (q : ℕ) → R q (put f n x q) (put g n y q)
put_both R f g n x y here else q =
    elim (n == q) as (λ b. (n == q) ≡ b → R q (cond b x (f q)) (cond b y (g q))) [
      | true ↦ λ same. subst (λ k. R k x y) (number_same n q same) here
      | false ↦ λ apart. else q
    ] refl

pub put_bundle_both : {A B : Type 0} (R : ℕ → ℕ → ℕ → A → B → Type 0) (f : ℕ → ℕ → ℕ → A) (g : ℕ → ℕ → ℕ → B) (zone write holder : ℕ) (x : A) (y : B) → R zone write holder x y → ((z w h : ℕ) → R z w h (f z w h) (g z w h)) → (z w h : ℕ) → R z w h (put_bundle f zone write holder x z w h) (put_bundle g zone write holder y z w h)
put_bundle_both R f g zone write holder x y here else =
    put_both (λ z u v. (w h : ℕ) → R z w h (u w h) (v w h)) f g zone (put (f zone) write (put (f zone write) holder x)) (put (g zone) write (put (g zone write) holder y))
    (put_both (λ w u v. (h : ℕ) → R zone w h (u h) (v h)) (f zone) (g zone) write (put (f zone write) holder x) (put (g zone write) holder y)
    (put_both (R zone write) (f zone write) (g zone write) holder x y here (else zone write)) (else zone)) else

pub put_bundle_here : {A : Type 0} (f : ℕ → ℕ → ℕ → A) (z w h : ℕ) (x : A) → put_bundle f z w h x z w h ≡ x
put_bundle_here f z w h x = rw (number_itself z, number_itself w, number_itself h) refl

-- ---- the others are other ones

pub put_actor_apart : {A : Type 0} (R : ActorId → A → Type 0) (f : ActorId → A) (actor : ActorId) (x : A) → R actor x → ((a : ActorId) → (a ≡ actor → ⊥) → R a (f a)) → (a : ActorId) → R a (put_actor f actor x a)
put_actor_apart R f actor x here else a =
    elim (same_actor a actor) as (λ b. same_actor a actor ≡ b → R a (cond b x (f a))) [
      | true ↦ λ same. subst (λ q. R q x) (same_is a actor same) here
      | false ↦ λ apart. else a (λ same.
          let itself = subst (λ q. same_actor a q ≡ true) same (actor_itself a) in
          let bad : true ≡ false = sym itself ∙ apart in
          cc)
    ] refl

pub put_in_apart : {A : Type 0} (R : ℕ → Key → A → Type 0) (f : ℕ → Key → A) (zone : ℕ) (key : Key) (x : A) → R zone key x → ((z : ℕ) (k : Key) → (zone ≡ z → key ≡ k → ⊥) → R z k (f z k)) → (z : ℕ) (k : Key) → R z k (put_in f zone key x z k)
put_in_apart {A} R f zone key x here else z k =
    elim (zone == z) as (λ b. (zone == z) ≡ b → R z k (cond b (put_key (f zone) key x) (f z) k)) [
      | true ↦ λ same. in_zone (number_same zone z same)
      | false ↦ λ apart. else z k (λ same other.
          let itself = subst (λ q. (zone == q) ≡ true) same (number_itself zone) in
          let bad : true ≡ false = sym itself ∙ apart in
          cc)
    ] refl
  where
    in_zone : zone ≡ z → R z k (put_key (f zone) key x k)
    in_zone is =
        elim (is_key key k) as (λ b. is_key key k ≡ b → R z k (cond b x (f zone k))) [
          | true ↦ λ same.
              let at = subst (λ q. R zone q x) (same_key key k same) here in
              subst (λ q. R q k x) is at
          | false ↦ λ apart. subst (λ q. R z k (f q k)) (sym is) (else z k (λ one same.
              let itself = subst (λ q. is_key key q ≡ true) same (key_itself key) in
              let bad : true ≡ false = sym itself ∙ apart in
              cc))
        ] refl
