-- What contracts see of the settings.
use Rattle.realm_model.specs.declared.settings.Settings.TheInside.{Inside}
use Rattle.realm_model.specs.Settings.{SettingsView}

-- the fields of the settings
abbrev pub settings_view : Inside → SettingsView
settings_view s = record {
  zones = s.zones;
  stripe = s.stripe;
  frame = s.frame;
  frames = s.frames;
  shards = s.shards;
  tag_life = s.tag_life;
  wait = s.wait;
  largest = s.largest;
  threshold = s.threshold;
}

-- the settings with these fields
abbrev pub settings_inside : SettingsView → Inside
settings_inside s = record {
  zones = s.zones;
  stripe = s.stripe;
  frame = s.frame;
  frames = s.frames;
  shards = s.shards;
  tag_life = s.tag_life;
  wait = s.wait;
  largest = s.largest;
  threshold = s.threshold;
}
