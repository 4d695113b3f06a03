-- Changes of a head: the operation, what its actor needs of its own tails, and what its answers come to.
use Rattle.std.specs.Prelude.{◌≡◌, ℕ, Bool, true, false, List, Option, Some, None}
use Rattle.rgw_types.specs.declared.stamp.Stamp.{Stamp}
use Rattle.rgw_types.specs.Stamps.{stamp_above}
use Rattle.rgw_model.specs.declared.slot.Slot.{Slot}
use Rattle.object_words.specs.declared.entry.Guard.{Guard}
use Rattle.object_words.specs.declared.head.SeenSlot.{SeenSlot}
use Rattle.object_words.specs.declared.head.SeenSlot.TheVariants.{Live}
use Rattle.object_words.specs.Conditions.{fails}
use Rattle.object_words.specs.Heads.{etag_of, seen_stamp}
use Rattle.realm_model.specs.Maps.{Made, whole_slot}
use Rattle.realm_model.specs.Needs.{has_parts}
use Rattle.realm_model.specs.Phases.{Phase}
use Rattle.realm_model.specs.declared.op.Op.{Op}
use Rattle.realm_model.specs.declared.op.Op.TheVariants.{HeadWrite, TailMake}
use Rattle.index_update.specs.declared.head_change.HeadChange.{HeadChange}
use Rattle.index_update.specs.declared.head_change.HeadChange.TheVariants as changes
use Rattle.index_update.specs.declared.stage.Target.{Target}

-- the operation, under a guard in a container
abbrev pub head_op : ℕ → ℕ → List ℕ → Guard → HeadChange → Op
head_op zone container name guard (changes.Write new when) = HeadWrite zone container name guard new when

-- the change, where its operation comes back
abbrev pub change_back : Option Op → Option HeadChange
change_back (Some (HeadWrite zone container name guard new when)) = Some (changes.Write new when)
change_back back = None

-- the event is one of an update: no tail is made, and a head is changed as is asked
abbrev pub IsOfUpdate : Target → HeadChange → Op → Type 0
IsOfUpdate t change (TailMake zone write part bytes) = ⊥
IsOfUpdate t change (HeadWrite zone container name guard new when) =
    HeadWrite zone container name guard new when ≡ head_op t.zone container t.name guard change
IsOfUpdate t change op = Unit {0}

-- what the change needs of the own tails of its actor
abbrev pub has_needs : Phase → ℕ → HeadChange → Bool
has_needs p zone (changes.Write new when) = has_parts p zone new

-- a change of the slot that was seen leaves this one, under this stamp; without a stamp it is refused
abbrev pub HeadAnswer : HeadChange → Made → ℕ → ℕ → SeenSlot → Option Stamp → Slot → Type 0
HeadAnswer (changes.Write new when) made zone clock seen (Some stamp) after =
    (fails when (etag_of seen) ≡ false) × (stamp ≡ stamp_above (seen_stamp seen) clock zone) × (after ≡ whole_slot made zone (Live new stamp))
HeadAnswer (changes.Write new when) made zone clock seen None after =
    (fails when (etag_of seen) ≡ true) × (after ≡ whole_slot made zone seen)
