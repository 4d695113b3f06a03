-- How the bytes of an object are cut (Ceph manual, Data Layout): the first stripe is in its head, each
-- further one in a tail.
use Rattle.std.specs.Prelude.{ℕ, ◌-◌, ◌^◌, ◌<◌, ◌≤◌}
use Rattle.std.specs.Int.{div_ceil}

-- a manifest: which write made the tails, the bytes of a stripe and those of the object
pub record ManifestView : Type 0 where
  pub write : ℕ
  pub stripe : ℕ
  pub size : ℕ

-- the numbers that a manifest may have
pub record IsManifest (m : ManifestView) : Type 0 where
  pub write_fits : m.write < 2 ^ 64
  pub stripe_low : 16 ≤ m.stripe
  pub stripe_high : m.stripe ≤ 4194304
  pub size_high : m.size ≤ 5368709120

-- how many tails there are: the stripes behind the first one, the last of which need not be full
abbrev pub tails_of : ManifestView → ℕ
tails_of m = div_ceil (m.size - m.stripe) m.stripe
