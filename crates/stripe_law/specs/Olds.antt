-- A manifest that an actor's change replaced is at that actor, with all its tails.
use Rattle.std.specs.Prelude.{◌≡◌, ℕ, ◌≤◌, IfSome, Option}
use Rattle.rgw_types.specs.Stripes.{ManifestView, tails_of}
use Rattle.realm_model.specs.Phases.{ActorId, Phase}
use Rattle.realm_model.specs.Needs.{holder_of}
use Rattle.realm_model.specs.Facts.{replaced, Ledger}

-- the manifest is that of its bundle and has tails, and the bundle is at the actor
pub record IsReplaced (actor : ActorId) (write holder : ℕ) (m : ManifestView) (l : Ledger) : Type 0 where
  pub of_write : m.write ≡ write
  pub of_holder : holder_of m ≡ holder
  pub has_tails : 1 ≤ tails_of m
  pub place : l ≡ record { count = tails_of m; place = replaced actor }

-- the manifests that one actor's changes replaced
abbrev pub OldsAt : ActorId → (ℕ → ℕ → ℕ → Option ManifestView) → (ℕ → ℕ → ℕ → Ledger) → Type 0
OldsAt actor olds ledger =
    (zone write holder : ℕ)
    → IfSome (olds zone write holder) (λ m. IsReplaced actor write holder m (ledger zone write holder))

-- and so for each actor
abbrev pub Olds : (ActorId → Phase) → (ℕ → ℕ → ℕ → Ledger) → Type 0
Olds phases ledger = (a : ActorId) → OldsAt a (phases a).stripes.olds ledger
