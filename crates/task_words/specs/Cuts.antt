-- How the own events of a PUT cut its body: its first stripe is for the head, each further one for a tail. Each tail that is
-- made is the next part, and the head is changed to the first one (Ceph manual, Data Layout).
use Rattle.std.specs.Prelude.{◌≡◌, ℕ, ◌+◌, ◌*◌, ◌<◌, Bool, true, false, List, [], ◌∷◌, take, drop, length}
use Rattle.realm_model.specs.Owns.{OwnEvent}
use Rattle.realm_model.specs.declared.op.Op.{Op}
use Rattle.realm_model.specs.declared.op.Op.TheVariants.{HeadWrite, TailMake}
use Rattle.realm_model.specs.declared.event.Reply.{Reply}
use Rattle.realm_model.specs.declared.event.Reply.TheVariants.{Done, Changed}

-- the bytes that the head takes
abbrev pub first_bytes : ℕ → List ℕ → List ℕ
first_bytes stripe bytes = take stripe bytes

-- the bytes that the tail of this number takes
abbrev pub tail_bytes : ℕ → List ℕ → ℕ → List ℕ
tail_bytes stripe bytes part = take stripe (drop (stripe * part) bytes)

-- ---- what events make

-- how many tails were made
abbrev pub tails_after : ℕ → Op → Reply → ℕ
tails_after tails (TailMake zone write part piece) Done = tails + 1
tails_after tails op reply = tails

-- the head was changed
abbrev pub is_changed_after : Bool → Op → Reply → Bool
is_changed_after was (HeadWrite zone container name guard new when) (Changed made) = true
is_changed_after was op reply = was

abbrev pub tails_from : ℕ → List OwnEvent → ℕ
tails_from tails [] = tails
tails_from tails (e ∷ es) = tails_from (tails_after tails e.op e.reply) es

abbrev pub is_changed_from : Bool → List OwnEvent → Bool
is_changed_from was [] = was
is_changed_from was (e ∷ es) = is_changed_from (is_changed_after was e.op e.reply) es

-- ---- what they are made of

-- a tail is the next one of the body and has bytes; a head is changed once, to the first bytes
abbrev pub IsCutAt : ℕ → ℕ → List ℕ → ℕ → Bool → Op → Type 0
IsCutAt zone stripe bytes tails was (TailMake z write part piece) =
    (z ≡ zone) × (part ≡ tails + 1) × (stripe * part < length bytes) × (piece ≡ tail_bytes stripe bytes part)
IsCutAt zone stripe bytes tails was (HeadWrite z container name guard new when) =
    (z ≡ zone) × (was ≡ false) × (new.first ≡ first_bytes stripe bytes)
IsCutAt zone stripe bytes tails was op = Unit {0}

-- and so each event, where so many tails were made before
abbrev pub AreCutFrom : ℕ → ℕ → List ℕ → ℕ → Bool → List OwnEvent → Type 0
AreCutFrom zone stripe bytes tails was [] = Unit {0}
AreCutFrom zone stripe bytes tails was (e ∷ es) =
    IsCutAt zone stripe bytes tails was e.op
    × AreCutFrom zone stripe bytes (tails_after tails e.op e.reply) (is_changed_after was e.op e.reply) es

-- what the events make is what the body is cut into
abbrev pub AreCut : ℕ → ℕ → List ℕ → List OwnEvent → Type 0
AreCut zone stripe bytes events = AreCutFrom zone stripe bytes 0 false events
