-- What holds of stripes and of frames after each event of a legal history.
use Rattle.std.specs.Prelude.{ℕ}
use Rattle.rgw_types.specs.declared.pool_key.Key.{Key}
use Rattle.object_words.specs.Heads.{Head}
use Rattle.realm_model.specs.Settings.{SettingsView}
use Rattle.realm_model.specs.Phases.{ActorId, Phase}
use Rattle.realm_model.specs.Facts.{StripeFacts}
use Rattle.realm_model.specs.Worlds.{World}
use Rattle.realm_model.specs.Stripes.{HasFrameSum}
use Rattle.stripe_law.specs.Ids.{Ids}
use Rattle.stripe_law.specs.Makers.{Makers}
use Rattle.stripe_law.specs.OpenBundles.{Open, OpenSizes}
use Rattle.stripe_law.specs.MadeOnce.{MadeOnce, MadeAll}
use Rattle.stripe_law.specs.HeadSizes.{HeadSizes}
use Rattle.stripe_law.specs.Named.{Named}
use Rattle.stripe_law.specs.Olds.{Olds}
use Rattle.stripe_law.specs.Seen.{SeenSizes}
use Rattle.stripe_law.specs.Tails.{Bytes, Holders}

-- of heads, of what each actor knows, and of the facts of stripes: kept by each event that may come next, from any
-- objects and facts of which it holds
pub record StripesHold (heads : ℕ → Key → Head) (count : ℕ) (phases : ActorId → Phase) (x : StripeFacts) : Type 0 where
  pub ids : Ids x.by count phases
  pub makers : Makers x.by phases x.ledger
  pub open_bundles : Open phases x.ledger
  pub open_sizes : OpenSizes phases x.made
  pub made_once : MadeOnce x.made x.ledger
  pub made_all : MadeAll x.made x.ledger
  pub head_sizes : HeadSizes heads x.made
  pub named : Named heads x.ledger
  pub olds : Olds phases x.ledger
  pub seen_sizes : SeenSizes count phases x.made

-- the parts of a world that events keep one by one
abbrev pub StripesHoldIn : World → Type 0
StripesHoldIn w = StripesHold w.state.heads w.state.count w.phases w.stripes

-- every part
pub record Holds (settings : SettingsView) (w : World) : Type 0 where
  pub stripes : StripesHoldIn w
  pub bytes : Bytes w.state.tails w.stripes.made
  pub holders : Holders w.state.tails w.stripes.ledger
  pub frames : (zone : ℕ) → HasFrameSum settings w.state zone
