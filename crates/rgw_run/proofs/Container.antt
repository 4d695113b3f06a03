-- What stands before the connection: one row or none, and no object.
use Rattle.std.proofs.Common.{◌≡◌, ℕ, zero, suc, ◌+◌, ◌≤◌, ◌==◌, Bool, true, false, cond, List, [], ◌∷◌, ◌++◌, length, Option, Some, None, refl, sym, ◌∙◌, ap, subst, arith}
use Rattle.std.specs.Prelude.{bytes_eq, is_some}
use Rattle.std.specs.List.{AllByRecursion}
use Rattle.std.proofs.lemmas.Map.Text.{is_eq-slice_cmp}
use Rattle.std.proofs.lemmas.Slice.Eq.{bytes_eq-Decides}
use Rattle.rgw_model.specs.declared.slot.Slot.TheVariants as Slots
use Rattle.rgw_model.specs.Stamps.{counted_moment}
use Rattle.object_words.specs.declared.bucket.Bucket.{Bucket}
use Rattle.object_words.specs.declared.why.Why.TheVariants.{Raced}
use Rattle.object_words.specs.declared.log.LogWhat.TheVariants.{Bucket as bucket_row}
use Rattle.object_words.specs.Logs.{logged}
use Rattle.object_words.specs.Keys.{put}
use Rattle.object_words.specs.Names.{at, with_name}
use Rattle.object_words.specs.Refusals.{unless_refused}
use Rattle.object_words.specs.Roots.{Root, version_of, swapped, stored, is_logged}
use Rattle.object_words.proofs.NameLemmas.{at-none, at-with_name}
use Rattle.realm_model.specs.Containers.{with_id, row_at_home, is_standing}
use Rattle.realm_model.specs.Facts.{Home}
use Rattle.realm_model.specs.Settings.{SettingsView}
use Rattle.realm_model.specs.States.{State, number_next, at_moment}
use Rattle.realm_model.specs.Phases.{ActorId}
use Rattle.realm_model.specs.Doors.{actor_at}
use Rattle.realm_model.specs.Maps.{Maps, no_maps, mapped, mapped_by, slot_at, whole_slot}
use Rattle.realm_model.specs.Steps.{after}
use Rattle.realm_model.specs.Worlds.{World, start, actor_of, happens}
use Rattle.realm_model.specs.Histories.{run, world_of, state_of}
use Rattle.realm_model.specs.declared.event.Reply.TheVariants.{Done}
use Rattle.realm_model.specs.declared.event.Event.{Event}
use Rattle.realm_model.proofs.ObjectLemmas.{number_same}
use Rattle.realm_model.proofs.Runs.{run-append, state-next}
use Rattle.realm_door.specs.Steps.{next_count, actor_of_pass}
use Rattle.swift_auth.specs.Users.{UserView}
use Rattle.container_preset.specs.Presets.{row_now, new_row, shard_op, row_op, event_by, makes, look, made_row}
use Rattle.container_preset.proofs.Rows.{makes_stay, next_is}
use Rattle.once_law.specs.Maps.{rows_in, slots_in, no_slots}
use Rattle.once_law.specs.Runs.{NoneFrom, IsOpen, AreAt}
use Rattle.once_law.proofs.Open.{keeps_open, homes_kept}
use Rattle.once_law.proofs.Folding.{none_of_other}
use Rattle.once_law.proofs.Moments.{clock_behind}
use Rattle.rgw_run.specs.Runs.{owner_in, door_at, first_door, making}
use Rattle.rgw_run.specs.Exact.{one_row}

-- ---- each event

all_both : (P : Event → Type 0) (xs ys : List Event) → AllByRecursion P xs → AllByRecursion P ys → AllByRecursion P (xs ++ ys)
all_both P [] ys first second = second
all_both P (x ∷ xs) ys first second = (first.0, all_both P xs ys first.1 second)

all_makes : (P : Event → Type 0) (actor : ActorId) (id moment : ℕ) → ((n : ℕ) → P (event_by actor (shard_op id n) moment Done)) → (n : ℕ) → AllByRecursion P (makes actor id moment n)
all_makes P actor id moment each zero = tt
all_makes P actor id moment each (suc n) = all_both P (makes actor id moment n) (event_by actor (shard_op id n) moment Done ∷ []) (all_makes P actor id moment each n) (each n, tt)

one_longer : (xs : List Event) (e : Event) → length (xs ++ e ∷ []) ≡ length xs + 1
one_longer [] e = refl
one_longer (x ∷ xs) e = let rest = one_longer xs e in omega (arith, rest)

so_many : (actor : ActorId) (id moment n : ℕ) → length (makes actor id moment n) ≡ n
so_many actor id moment zero = refl
so_many actor id moment (suc n) =
    let rest = so_many actor id moment n in
    let more = one_longer (makes actor id moment n) (event_by actor (shard_op id n) moment Done) in
    omega (arith, rest, more)

abbrev maker : ActorId
maker = actor_at first_door

-- where there was none, a swap leaves the row, and the other rows as they were
swap_leaves : (root : Root) (name : List ℕ) (new : Bucket) (number : ℕ) (q : List ℕ) → at root.buckets name ≡ None → at (swapped root name 0 (Some new) true number).buckets q ≡ cond (bytes_eq q name) (Some (stored None new true number)) (at root.buckets q)
swap_leaves root name new number q none =
    let left : Option Bucket → Option Bucket = λ kept.
    at (unless_refused (cond (version_of kept == 0) None (Some (Raced (version_of kept)))) root
    (record { buckets = with_name root.buckets name (stored kept new true number); log = cond (is_logged kept (Some new)) (logged root.log (bucket_row name)) root.log })).buckets q in
    ap left none
    ∙ (at-with_name root.buckets name (stored None new true number) q ∙ ap (λ b. cond b (Some (stored None new true number)) (at root.buckets q)) (is_eq-slice_cmp q name))

-- no event of these changes a slot
abbrev KeepsMaps : Event → Type 0
KeepsMaps e = (m : Maps) → mapped m e.op e.reply ≡ m

maps_stay : (m : Maps) (es : List Event) → AllByRecursion KeepsMaps es → mapped_by m es ≡ m
maps_stay m [] keep = refl
maps_stay m (e ∷ es) keep = ap (λ n. mapped_by n es) (keep.0 m) ∙ maps_stay m es keep.1

no_slot : (settings : SettingsView) (history : List Event) → mapped_by no_maps history ≡ no_maps → slots_in settings history 1 ≡ no_slots
no_slot settings history maps = λ i container name. at_name container name i where
  at_name : (container : ℕ) (name : List ℕ) → slots_in settings history 1 container name ≡ Slots.Nothing
  at_name container name =
      let made = (world_of settings history).stripes.made in
      ap (λ (m : Maps). whole_slot made 1 (slot_at (m 1 container) name)) maps ∙ rw at-none refl

-- no event of these takes or gives frames
abbrev KeepsFrames : SettingsView → Event → Type 0
KeepsFrames settings e = (st : State) → (after settings st e.op).free ≡ st.free

frames_stay : (settings : SettingsView) (w : World) (es : List Event) → AllByRecursion (KeepsFrames settings) es → (run settings w es).state.free ≡ w.state.free
frames_stay settings w [] keep = refl
frames_stay settings w (e ∷ es) keep = frames_stay settings (happens settings w e) es keep.1 ∙ keep.0 (at_moment w.state e.moment)

-- no event of these makes a container or ends one
homes_stay : (settings : SettingsView) (w : World) (es : List Event) → AllByRecursion (λ e. keeps_open e.op ≡ true) es → (run settings w es).rows.homes ≡ w.rows.homes
homes_stay settings w [] keep = refl
homes_stay settings w (e ∷ es) keep = homes_stay settings (happens settings w e) es keep.1 ∙ homes_kept w.rows.homes e.op e.reply (w.state.count + 1) keep.0

-- ---- the making of the container

module _ (settings : SettingsView) (users : List UserView) (bucket : List ℕ) (moment : ℕ) where
  abbrev swap : Event
  swap = event_by maker (row_op settings bucket (owner_in users) 1) moment Done

  -- the read of the name, and the shards
  abbrev front : List Event
  front = look maker bucket moment ∷ makes maker 1 moment settings.shards

  abbrev made : List Event
  made = making settings users bucket moment

  all_making : (P : Event → Type 0) → P (look maker bucket moment) → ((n : ℕ) → P (event_by maker (shard_op 1 n) moment Done)) → P swap → AllByRecursion P made
  all_making P first each last = (first, all_both P (makes maker 1 moment settings.shards) (swap ∷ []) (all_makes P maker 1 moment each settings.shards) (last, tt))

  made_at : AreAt moment made
  made_at = all_making (λ e. e.moment ≡ moment) refl (λ n. refl) refl

  -- no later actor of the pass
  made_by_first : NoneFrom 1 1 made
  made_by_first count low =
      none_of_other 1 count 0 made (λ same. omega (arith, same, low))
      (all_making (λ e. actor_of e ≡ actor_of_pass 1 0) refl (λ n. refl) refl)

  no_object : slots_in settings made 1 ≡ no_slots
  no_object = no_slot settings made (maps_stay no_maps made (all_making KeepsMaps (λ m. refl) (λ n m. refl) (λ m. refl)))

  all_free : (state_of settings made).free ≡ (start settings).state.free
  all_free = frames_stay settings (start settings) made (all_making (KeepsFrames settings) (λ st. refl) (λ n st. refl) (λ st. refl))

  no_row : (name : List ℕ) → row_now settings front name ≡ None
  no_row name =
      makes_stay settings (look maker bucket moment ∷ []) maker 1 moment settings.shards name
      ∙ ap (λ (st : State). at (st.root 1).buckets name) (state-next settings [] (look maker bucket moment))
      ∙ at-none name

  number : number_next (state_of settings front) ≡ settings.shards + 2
  number =
      let next = next_is settings front in
      let many = so_many maker 1 moment settings.shards in
      omega (arith, next, many)

  row_at : (name : List ℕ) → rows_in settings made 1 name ≡ one_row settings users (Some bucket) name
  row_at name =
      let st : State = at_moment (state_of settings front) moment in
      let new = new_row settings (owner_in users) 1 in
      ap (λ (s : State). at (s.root 1).buckets name) (state-next settings front swap)
      ∙ swap_leaves (st.root 1) bucket new (number_next st) name (no_row bucket)
      ∙ ap (λ o. cond (bytes_eq name bucket) (Some (stored None new true (number_next st))) o) (no_row name)
      ∙ ap (λ n. cond (bytes_eq name bucket) (Some (made_row settings (owner_in users) 1 n)) None) number

  -- the one container stands
  abbrev home : Home
  home = record { name = bucket; at = (world_of settings front).state.count + 1 }

  homes_are : (world_of settings made).rows.homes ≡ put (start settings).rows.homes 1 (Some home)
  homes_are =
      ap (λ (w : World). w.rows.homes) (run-append settings (start settings) front (swap ∷ []))
      ∙ ap (λ h. put h 1 (Some home)) (homes_stay settings (start settings) front (refl, all_makes (λ e. keeps_open e.op ≡ true) maker 1 moment (λ n. refl) settings.shards))

  first_stands : is_standing (world_of settings made).rows (state_of settings made) 1 ≡ true
  first_stands =
      ap (λ (f : ℕ → Option Home). is_some (row_at_home (f 1) (state_of settings made) 1 1)) homes_are
      ∙ ap (λ o. is_some (with_id o 1)) (row_at bucket ∙ ap (λ b. cond b (Some (made_row settings (owner_in users) 1 (settings.shards + 2))) None) ((bytes_eq-Decides bucket bucket).1 refl))

  stands : (container : ℕ) (h : Home) → (world_of settings made).rows.homes container ≡ Some h → is_standing (world_of settings made).rows (state_of settings made) container ≡ true
  stands container h has =
      let there : put (start settings).rows.homes 1 (Some home) container ≡ Some h = ap (λ (f : ℕ → Option Home). f container) (sym homes_are) ∙ has in
      elim (1 == container) as (λ b. (1 == container) ≡ b → cond b (Some home) None ≡ Some h → is_standing (world_of settings made).rows (state_of settings made) container ≡ true) [
        | false ↦ λ other none. absurd cc
        | true ↦ λ same is. subst (λ c. is_standing (world_of settings made).rows (state_of settings made) c ≡ true) (number_same 1 container same) first_stands
      ] refl there

  is_open : IsOpen settings made
  is_open = record { closes = all_making _ refl (λ n. refl) refl; stand = stands }

-- ---- before the connection

-- what stands there, where all moments are that one
pub record IsPrepared (settings : SettingsView) (users : List UserView) (bucket : Option (List ℕ)) (moment : ℕ) (used : Bool) (before : List Event) : Type 0 where
  pub opened : IsOpen settings before
  pub unused : NoneFrom 1 (next_count (door_at used before)) before
  pub low : (state_of settings before).clock ≤ counted_moment moment
  pub slots : slots_in settings before 1 ≡ no_slots
  pub rows : rows_in settings before 1 ≡ one_row settings users bucket
  pub free : (state_of settings before).free 1 ≡ settings.frames

pub none_prepared : (settings : SettingsView) (users : List UserView) (moment : ℕ) → IsPrepared settings users None moment false []
none_prepared settings users moment = record {
  opened = record { closes = tt; stand = λ container home made. absurd cc };
  unused = λ count low. tt;
  low = omega arith;
  slots = no_slot settings [] refl;
  rows = λ i name. at-none name i;
  free = refl;
}

pub one_prepared : (settings : SettingsView) (users : List UserView) (bucket : List ℕ) (moment : ℕ) → IsPrepared settings users (Some bucket) moment true (making settings users bucket moment)
one_prepared settings users bucket moment = record {
  opened = is_open settings users bucket moment;
  unused = made_by_first settings users bucket moment;
  low = clock_behind settings [] (making settings users bucket moment) moment (omega arith) (made_at settings users bucket moment);
  slots = no_object settings users bucket moment;
  rows = λ i name. row_at settings users bucket moment name i;
  free = ap (λ (f : ℕ → ℕ). f 1) (all_free settings users bucket moment);
}
