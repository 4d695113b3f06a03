-- What a realm is set to.
use Rattle.std.specs.Prelude.{ℕ, ◌*◌, ◌≤◌}

-- the settings as numbers
pub record SettingsView : Type 0 where
  pub zones : ℕ
  pub stripe : ℕ
  pub frame : ℕ
  pub frames : ℕ
  pub shards : ℕ
  pub tag_life : ℕ
  pub wait : ℕ
  pub largest : ℕ
  pub threshold : ℕ

-- settings of these numbers
abbrev pub settings_of : ℕ → ℕ → ℕ → ℕ → ℕ → ℕ → ℕ → ℕ → ℕ → SettingsView
settings_of zones stripe frame frames shards tag_life wait largest threshold = record {
  zones = zones;
  stripe = stripe;
  frame = frame;
  frames = frames;
  shards = shards;
  tag_life = tag_life;
  wait = wait;
  largest = largest;
  threshold = threshold;
}

-- a second, in microseconds
abbrev pub second : ℕ
second = 1000000

-- the number is one of these and those between them
pub record IsBetween (low high n : ℕ) : Type 0 where
  pub least : low ≤ n
  pub most : n ≤ high

-- the bounds of the settings
pub record IsSettings (s : SettingsView) : Type 0 where
  pub zones : IsBetween 1 8 s.zones
  pub stripe : IsBetween 16 4194304 s.stripe
  pub frame : IsBetween 16 65536 s.frame
  pub frames : IsBetween 1 4194304 s.frames
  pub shards : IsBetween 1 1999 s.shards
  pub tag_life : IsBetween second (86400 * second) s.tag_life
  pub wait : IsBetween second (604800 * second) s.wait
  pub largest : IsBetween 1 5368709120 s.largest
  pub threshold : IsBetween 1 1000000000 s.threshold
  pub space : s.frames * s.frame * s.zones ≤ 8589934592
