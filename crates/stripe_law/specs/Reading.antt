-- What a reader of an object finds: tails that are there, and the pieces of a range.
use Rattle.std.specs.Prelude.{◌≡◌, ℕ, ◌≤◌, List, ◌∷◌, ◌++◌, length, map, take, drop}
use Rattle.std.specs.List.{range_with_len}
use Rattle.rgw_types.specs.declared.pool_key.Key.{Key}
use Rattle.rgw_types.specs.Stripes.{tails_of}
use Rattle.manifest.specs.declared.parts.Part.{Part}
use Rattle.object_words.specs.declared.head.NewHead.{NewHead}
use Rattle.object_words.specs.Keys.{tail_key}
use Rattle.object_words.specs.Tails.{Tail}
use Rattle.realm_model.specs.declared.op.Op.TheVariants.{TailMake, TailRead}
use Rattle.realm_model.specs.declared.event.Reply.TheVariants.{Done, Bytes}
use Rattle.realm_model.specs.declared.event.Event.{Event}

-- a tail was made with these bytes by an event of the history
pub record IsMaking (history : List Event) (zone write part : ℕ) (bytes : List ℕ) : Type 0 where
  pub earlier : List Event
  pub event : Event
  pub later : List Event
  pub stands : history ≡ earlier ++ event ∷ later
  pub op : event.op ≡ TailMake zone write part bytes
  pub reply : event.reply ≡ Done

-- a tail is there, with so many bytes, which are those of its making
pub record IsStored (history : List Event) (tail : Tail) (zone write part size : ℕ) : Type 0 where
  pub bytes : List ℕ
  pub is : tail ≡ record { bytes = bytes }
  pub some : 1 ≤ length bytes
  pub sized : length bytes ≡ size
  pub making : IsMaking history zone write part bytes

-- the bytes of an object part by part: those of its head, and then those of its tails as they are
abbrev pub contents_at : (ℕ → Key → Tail) → ℕ → NewHead → List (List ℕ)
contents_at tails zone new =
    new.first
    ∷ map (λ part. (tails zone (tail_key new.manifest.write part)).bytes) (range_with_len 1 (tails_of new.manifest))

-- one of these events, whosever it is, reads the piece of a tail, and is answered these bytes
pub record IsAnswered (later : List Event) (zone write : ℕ) (p : Part) (bytes : List ℕ) : Type 0 where
  pub earlier : List Event
  pub event : Event
  pub rest : List Event
  pub stands : later ≡ earlier ++ event ∷ rest
  pub op : event.op ≡ TailRead zone write p.part p.start p.count
  pub reply : event.reply ≡ Bytes bytes

-- a piece of an object's bytes: of the head that was read, or of a tail that was read later
pub record IsPiece (later : List Event) (zone : ℕ) (new : NewHead) (p : Part) (bytes : List ℕ) : Type 0 where
  pub of_head : p.part ≡ 0 → bytes ≡ take p.count (drop p.start new.first)
  pub of_tail : 1 ≤ p.part → IsAnswered later zone new.manifest.write p bytes
