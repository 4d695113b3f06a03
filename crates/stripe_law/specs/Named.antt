-- The bundle of a live head is at that head, with all its tails. So no two heads of a zone have one bundle.
use Rattle.std.specs.Prelude.{◌≡◌, ℕ, ◌≤◌, List}
use Rattle.rgw_types.specs.declared.pool_key.Key.{Key}
use Rattle.rgw_types.specs.Stripes.{tails_of}
use Rattle.object_words.specs.Keys.{head_key}
use Rattle.object_words.specs.Heads.{Head}
use Rattle.realm_model.specs.Needs.{holder_of}
use Rattle.realm_model.specs.Facts.{in_head, Ledger}
use Rattle.stripe_law.specs.Sizes.{IfLive}

-- where the manifest of a live head has tails, its bundle is there
abbrev pub Named : (ℕ → Key → Head) → (ℕ → ℕ → ℕ → Ledger) → Type 0
Named heads ledger =
    (zone container : ℕ) (name : List ℕ)
    → IfLive (heads zone (head_key container name)).slot (λ new.
    1 ≤ tails_of new.manifest
    → ledger zone new.manifest.write (holder_of new.manifest)
    ≡ record { count = tails_of new.manifest; place = in_head container name })
