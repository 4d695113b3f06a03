-- What each call on the hold of a shard does: why it is refused, and what it leaves, which is the shard as it was where it is
-- refused (Ceph manual, Dynamic Bucket Index Resharding; closings and the fence are own).
use Rattle.std.specs.Prelude.{ℕ, ◌==◌, Bool, nat_lt, nat_le, max, List, [], ◌∷◌, length, Option, Some, None, if◌then◌else◌}
use Rattle.object_words.specs.declared.shard.Hold.{Hold}
use Rattle.object_words.specs.declared.shard.Hold.TheVariants.{Free, Reshard, Closing}
use Rattle.object_words.specs.declared.shard.Fate.TheVariants as Fates
use Rattle.object_words.specs.declared.why.Why.{Why}
use Rattle.object_words.specs.declared.why.Why.TheVariants.{Held, Fenced, NotEmpty, Unsettled}
use Rattle.object_words.specs.Names.{none, entries}
use Rattle.object_words.specs.Entries.{EntryView}
use Rattle.object_words.specs.Shards.{Shard}
use Rattle.object_words.specs.Refusals.{first_refusal, unless_refused, fate_refusal}

-- the number that holds a shard; 0 where none does
abbrev pub hold_number : Hold → ℕ
hold_number Free = 0
hold_number (Reshard number) = number
hold_number (Closing number) = number

-- ---- close

-- the number is not above the fence
abbrev pub fence_refusal : Shard → ℕ → Option Why
fence_refusal s id = if nat_le id s.fence then Some (Fenced s.fence) else None

-- a greater number holds the shard
abbrev pub greater_refusal : Shard → ℕ → Option Why
greater_refusal s id = if nat_lt id (hold_number s.hold) then Some (Held (hold_number s.hold)) else None

-- the shard cannot be taken under this number: it no longer serves, or the number is too low
abbrev pub take_refusal : Shard → ℕ → Option Why
take_refusal s id = first_refusal (fate_refusal s.fate) (first_refusal (fence_refusal s id) (greater_refusal s id))

-- the first entry, in the order of names, has a change under way, or stands in the way of what is not forced
abbrev pub entry_refusal : List (List ℕ × EntryView) → Bool → Option Why
entry_refusal [] force = None
entry_refusal (e ∷ es) force =
    if length (e.1).tags == 0 then (if force then None else Some (NotEmpty e.0)) else Some (Unsettled e.0)

-- the shard cannot be taken; then an entry stands in the way
abbrev pub close_refusal : Shard → ℕ → Bool → Option Why
close_refusal s id force = first_refusal (take_refusal s id) (entry_refusal (entries s.entries) force)

-- the shard under a hold that is new. A number that held it until then is fenced
abbrev pub taken : Shard → ℕ → Hold → Shard
taken s id hold = if hold_number s.hold == id then s else record s { hold = hold; fence = max s.fence (hold_number s.hold) }

-- the shard takes no change more under this number
abbrev pub closed : Shard → ℕ → Bool → Shard
closed s id force = unless_refused (close_refusal s id force) s (taken s id (Closing id))

-- ---- release

-- a hold up to the number is gone, and so many numbers are fenced
abbrev pub released : Shard → ℕ → Shard
released s id = record s { hold = if nat_le (hold_number s.hold) id then Free else s.hold; fence = max s.fence id }

-- ---- shut

-- no entry is left, and the shard is closed for good; its hold, its fence and its log stay
abbrev pub shut_down : Shard → Shard
shut_down s = record s { entries = none; fate = Fates.Closed }
