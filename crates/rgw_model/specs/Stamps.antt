-- The stamps of slots, and the moments that count.
use Rattle.std.specs.Prelude.{ℕ, min, Option, Some, None}
use Rattle.date_words.specs.declared.TheConstants.{LATEST_MOMENT}
use Rattle.rgw_types.specs.declared.stamp.Stamp.{Stamp}
use Rattle.rgw_types.specs.Stamps.{stamp_above}
use Rattle.rgw_model.specs.declared.slot.Slot.{Slot}
use Rattle.rgw_model.specs.declared.slot.Slot.TheVariants.{Nothing, Live, Mark}

-- a moment after the last microsecond of the year 9999 is taken as that
abbrev pub counted_moment : ℕ → ℕ
counted_moment moment = min moment LATEST_MOMENT

-- the stamp of a slot, if anything was ever there
abbrev pub stamp_of : Slot → Option Stamp
stamp_of Nothing = None
stamp_of (Live content stamp) = Some stamp
stamp_of (Mark stamp) = Some stamp

-- what a change of this slot is stamped with
abbrev pub next_stamp : Slot → ℕ → ℕ → Stamp
next_stamp slot moment zone = stamp_above (stamp_of slot) moment zone
