-- Which stripes heads name, which were collected, and which frames bytes take (Ceph manual, Data Layout).
use Rattle.std.specs.Prelude.{◌≡◌, ℕ, ◌+◌, ◌==◌, ◌&&◌, Bool, true, false, List, [], sum_by}
use Rattle.std.specs.List.{list_any, IsDistinct}
use Rattle.rgw_types.specs.declared.pool_key.Key.{Key}
use Rattle.rgw_types.specs.declared.pool_key.Key.TheVariants.{Head, Tail}
use Rattle.rgw_types.specs.Stripes.{tails_of}
use Rattle.object_words.specs.declared.head.SeenSlot.{SeenSlot}
use Rattle.object_words.specs.declared.head.SeenSlot.TheVariants.{Live}
use Rattle.object_words.specs.Keys.{is_key, head_key}
use Rattle.object_words.specs.Heads.{Head as HeadOf, first_bytes, frames_for}
use Rattle.object_words.specs.Tails.{Tail as TailOf}
use Rattle.realm_model.specs.Settings.{SettingsView}
use Rattle.realm_model.specs.States.{State}
use Rattle.realm_model.specs.Needs.{is_between}
use Rattle.realm_model.specs.declared.op.Op.{Op}
use Rattle.realm_model.specs.declared.event.Reply.{Reply}
use Rattle.realm_model.specs.declared.event.Event.{Event}

-- the manifest of a live slot contains the stripe
abbrev pub has_stripe : SeenSlot → ℕ → ℕ → Bool
has_stripe (Live new stamp) write part = new.manifest.write == write && is_between 1 (tails_of new.manifest) part
has_stripe slot write part = false

-- a head names a stripe of its zone
pub record IsNamed (st : State) (zone write part : ℕ) : Type 0 where
  pub container : ℕ
  pub name : List ℕ
  pub has : has_stripe (st.heads zone (head_key container name)).slot write part ≡ true

-- the event took a tail away; no kind of event does so yet
abbrev pub takes_tail : Op → Reply → ℕ → ℕ → ℕ → Bool
takes_tail op reply zone write part = false

-- a stripe is collected once its tail was taken away
abbrev pub is_collected : List Event → ℕ → ℕ → ℕ → Bool
is_collected history zone write part = list_any (λ e. takes_tail e.op e.reply zone write part) history

-- the bytes of an object that lie in frames: those of a head and of a tail
abbrev pub framed_bytes : (ℕ → Key → HeadOf) → (ℕ → Key → TailOf) → ℕ → Key → List ℕ
framed_bytes heads tails zone (Head container name) = first_bytes (heads zone (Head container name)).slot
framed_bytes heads tails zone (Tail write part) = (tails zone (Tail write part)).bytes
framed_bytes heads tails zone key = []

-- the free frames, with the frames of the bytes of each object, are all frames
pub record FrameSum (frame frames : ℕ) (bytes : Key → List ℕ) (free : ℕ) : Type 0 where
  pub keys : List Key
  pub apart : IsDistinct is_key keys
  pub others : (key : Key) → list_any (is_key key) keys ≡ false → bytes key ≡ []
  pub sum : free + sum_by (λ key. frames_for frame (bytes key)) keys ≡ frames

-- the frames of a zone are free or taken by its objects
abbrev pub HasFrameSum : SettingsView → State → ℕ → Type 0
HasFrameSum settings st zone = FrameSum settings.frame settings.frames (framed_bytes st.heads st.tails zone) (st.free zone)
