-- Stamps are of their zone, and no later one than the head's was given there.
use Rattle.std.specs.Prelude.{◌≡◌, ℕ, ◌≤◌, ◌-◌, ◌^◌, List, Option, Some}
use Rattle.rgw_model.specs.declared.slot.Slot.{Slot}
use Rattle.rgw_types.specs.declared.stamp.Stamp.{Stamp}
use Rattle.object_words.specs.Heads.{Head, seen_stamp}
use Rattle.index_law.specs.Tables.{Heads}

-- the slots that local changes left, by container, name and stamp
abbrev pub Slots : Type 0
Slots = ℕ → List ℕ → Stamp → Option Slot

-- the stamp of a head is of its zone, and a slot was left with it
pub record IsOwnStamp (slots : Slots) (zone container : ℕ) (name : List ℕ) (stamp : Stamp) : Type 0 where
  pub zone_is : stamp.zone ≡ zone
  pub bound : stamp.micros ≤ 2 ^ 64 - 1
  pub slot : Slot
  pub left : slots container name stamp ≡ Some slot

-- the head has a stamp that is not below this one
pub record IsReached (head : Head) (stamp : Stamp) : Type 0 where
  pub now : Stamp
  pub has : seen_stamp head.slot ≡ Some now
  pub not_below : stamp.micros ≤ now.micros

pub record StampsGiven (heads : Heads) (slots : Slots) : Type 0 where
  pub own : (zone container : ℕ) (name : List ℕ) (stamp : Stamp) → seen_stamp (heads zone container name).slot ≡ Some stamp → IsOwnStamp slots zone container name stamp
  pub reached : (container : ℕ) (name : List ℕ) (stamp : Stamp) (slot : Slot) → slots container name stamp ≡ Some slot → IsReached (heads stamp.zone container name) stamp
