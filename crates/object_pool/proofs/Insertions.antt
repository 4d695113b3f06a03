-- What a pool is where nothing is kept under a new key.
use Rattle.std.proofs.Common.{◌≡◌, ℕ, ◌+◌, ◌*◌, ◌≤◌, Bool, true, false, cond, List, [], ◌∷◌, take, map, sum_by, Option, Some, None, unwrap_or, IsNone, Result, Ok, Err, IfOk, OnOk, refl, sym, ◌∙◌, ap, ap₂, subst, arith}
use Rattle.std.specs.List.{AllByRecursion, filter}
use Rattle.std.specs.List.Sorted.{IsStrictlySortedBy}
use Rattle.std.specs.Int.{div_ceil}
use Rattle.std.specs.Map.{lookup, keys_of}
use Rattle.std.specs.Option.{option_map}
use Rattle.std.specs.BTreeMap.{insert_entry}
use Rattle.std.specs.declared.cmp.Ordering.TheVariants.{Less, Equal, Greater}
use Rattle.std.specs.Ordering.{is_eq, match_ordering}
use Rattle.std.proofs.Math.Nat.{zero-div, zero-mod}
use Rattle.std.proofs.lemmas.List.Sums.{sum_by-cons}
use Rattle.rgw_types.specs.declared.pool_key.Key.{Key}
use Rattle.frame_region.specs.Region.{Run, RegionView, Owns, AddsRun}
use Rattle.object_pool.specs.declared.object.Stored.{Stored}
use Rattle.object_pool.specs.Parts.{no_parts}
use Rattle.object_pool.specs.Objects.{Object, Slots, exists, is_key, key_cmp, nothing, settled, slot_at}
use Rattle.object_pool.specs.Stored.{Entries, object_in, slots_in, IsHeld, AreApart, AllApart, AllHeld, IsSound}
use Rattle.object_pool.proofs.EntryLemmas.{lookup_map}
use Rattle.object_pool.proofs.Keys.{same_key}
use Rattle.object_pool.proofs.SlotLemmas.{slot_absent}

module _ (k : Key) where
  all_insert : {X : Type 0} (P : X → Type 0) (v : X) (es : List (Key × X)) → P v → AllByRecursion (λ e. P e.1) es → AllByRecursion (λ e. P e.1) (insert_entry key_cmp es k v)
  all_insert P v [] new h = (new, tt)
  all_insert P v (e ∷ es) new h =
      elim (key_cmp k e.0) as (λ o. AllByRecursion (λ e. P e.1) (match_ordering o ((k, v) ∷ e ∷ es) ((e.0, v) ∷ es) (e ∷ insert_entry key_cmp es k v))) [
        | Less ↦ (new, h)
        | Equal ↦ (new, h.1)
        | Greater ↦ (h.0, all_insert P v es new h.1)
      ]

  apart_insert : (v : Stored) (es : Entries) → AllByRecursion (λ f. AreApart v f.1) es → AllApart es → AllApart (insert_entry key_cmp es k v)
  unfolding AllApart
  apart_insert v [] new h = (tt, tt)
  apart_insert v (e ∷ es) new h =
      elim (key_cmp k e.0) as (λ o. AllApart (match_ordering o ((k, v) ∷ e ∷ es) ((e.0, v) ∷ es) (e ∷ insert_entry key_cmp es k v))) [
        | Less ↦ (new, h)
        | Equal ↦ (new.1, h.1)
        | Greater ↦ (all_insert (λ f. AreApart e.1 f) v es (new.0.1, new.0.0) h.0, apart_insert v es new.1 h.1)
      ]

  sum_insert : {X : Type 0} (f : X → ℕ) (v : X) (es : List (Key × X)) → IsNone (lookup (is_key k) es) → sum_by (λ e. f e.1) (insert_entry key_cmp es k v) ≡ f v + sum_by (λ e. f e.1) es
  sum_insert {X} f v [] none = sum_by-cons (λ (e : Key × X). f e.1) (k, v) []
  sum_insert {X} f v (e ∷ es) none =
      let F : Key × X → ℕ = λ e. f e.1 in
      elim (key_cmp k e.0) as (λ o. IsNone (cond (is_eq o) (Some e.1) (lookup (is_key k) es)) → sum_by F (match_ordering o ((k, v) ∷ e ∷ es) ((e.0, v) ∷ es) (e ∷ insert_entry key_cmp es k v)) ≡ f v + sum_by F (e ∷ es)) [
        | Less ↦ λ _. sum_by-cons F (k, v) (e ∷ es)
        | Equal ↦ λ bad. absurd (let no : true ≡ false = bad in cc)
        | Greater ↦ λ later.
            let left = sum_by-cons F e (insert_entry key_cmp es k v) in
            let right = sum_by-cons F e es in
            let more = sum_insert f v es later in
            let t : sum_by F (e ∷ insert_entry key_cmp es k v) ≡ f v + sum_by F (e ∷ es) = omega (arith, left, right, more) in t
      ] none

  pub map_insert : {X Y : Type 0} (g : X → Y) (v : X) (es : List (Key × X)) → map (λ e. (e.0, g e.1)) (insert_entry key_cmp es k v) ≡ insert_entry key_cmp (map (λ e. (e.0, g e.1)) es) k (g v)
  map_insert g v [] = refl
  map_insert {X} g v (e ∷ es) =
      let G : Key × X → Key × _ = λ e. (e.0, g e.1) in
      elim (key_cmp k e.0) as (λ o. map G (match_ordering o ((k, v) ∷ e ∷ es) ((e.0, v) ∷ es) (e ∷ insert_entry key_cmp es k v)) ≡ match_ordering o ((k, g v) ∷ G e ∷ map G es) ((e.0, g v) ∷ map G es) (G e ∷ insert_entry key_cmp (map G es) k (g v))) [
        | Less ↦ refl
        | Equal ↦ refl
        | Greater ↦ ap (λ z. G e ∷ z) (map_insert g v es)
      ]

  -- an object that does not exist is none of those that do
  pub objects_insert : (slots : Slots) → IsNone (lookup (is_key k) slots) → filter (λ e. exists e.1) (insert_entry key_cmp slots k nothing) ≡ filter (λ e. exists e.1) slots
  objects_insert [] none = refl
  objects_insert (e ∷ es) none =
      let E : Key × Object → Bool = λ e. exists e.1 in
      elim (key_cmp k e.0) as (λ o. IsNone (cond (is_eq o) (Some e.1) (lookup (is_key k) es)) → filter E (match_ordering o ((k, nothing) ∷ e ∷ es) ((e.0, nothing) ∷ es) (e ∷ insert_entry key_cmp es k nothing)) ≡ filter E (e ∷ es)) [
        | Less ↦ λ _. refl
        | Equal ↦ λ bad. absurd (let no : true ≡ false = bad in cc)
        | Greater ↦ λ later. ap (λ z. cond (exists e.1) (e ∷ z) z) (objects_insert es later)
      ] none

-- the region is another one, with the same free frames and one more run, which has none
pub record Adds (old new : RegionView) (taken : Run) : Type 0 where
  pub frame : new.frame ≡ old.frame
  pub frames : new.frames ≡ old.frames
  pub free : new.free ≡ old.free
  pub count : taken.count ≡ 0
  pub owned : Owns new taken
  pub adds : AddsRun old new taken

module _ (old new : RegionView) (frame : ℕ) (es : Entries) (sound : IsSound old frame es) (run : Run) (adds : Adds old new run) where
  abbrev stored : Stored
  stored = record { run = run; size = 0; parts = no_parts }

  keeps_held : (f : Stored) → IsHeld old f → IsHeld new f
  keeps_held f held = record {
    owned = (adds.adds f.run held.owned).2.owned;
    fits = let same = adds.frame in subst (λ n. f.size ≤ f.run.count * n) (sym same) held.fits;
    count = let same = adds.frame in subst (λ n. f.run.count ≡ div_ceil f.size n) (sym same) held.count;
  }

  holds_new : IsHeld new stored
  holds_new =
      let quotient = zero-div new.frame in
      let rest = zero-mod new.frame in
      let at_none : div_ceil 0 new.frame ≡ 0 = omega (arith, quotient, rest) in
      record { owned = adds.owned; fits = omega arith; count = adds.count ∙ sym at_none }

  all_held : (es : Entries) → AllHeld old es → AllHeld new es
  all_held [] h = tt
  all_held (e ∷ es) h = (keeps_held e.1 h.0, all_held es h.1)

  all_apart : (es : Entries) → AllHeld old es → AllByRecursion (λ f. AreApart stored f.1) es
  all_apart [] h = tt
  all_apart (e ∷ es) h = let a = adds.adds e.1.run h.0.owned in ((a.0, a.1), all_apart es h.1)

  same_view : (es : Entries) → AllHeld old es → slots_in new es ≡ slots_in old es
  same_view [] h = refl
  same_view (e ∷ es) h =
      let seen : List ℕ → Object = λ z. record { bytes = take e.1.size z; attrs = e.1.parts.attrs; rows = e.1.parts.rows } in
      ap₂ (λ x z. (e.0, x) ∷ z) (ap seen (adds.adds e.1.run h.0.owned).2.bytes) (same_view es h.1)

  -- with no entry more
  pub added_sound : IsSound new frame es
  added_sound = record {
    frame_is = adds.frame ∙ sound.frame_is;
    not_too_small = sound.not_too_small;
    not_too_large = sound.not_too_large;
    not_too_many = let same = adds.frames in omega (arith, same, sound.not_too_many);
    held = all_held es sound.held;
    apart = sound.apart;
    in_order = sound.in_order;
    sum = omega (arith, adds.free, adds.frames, sound.sum);
  }

  pub added_view : slots_in new es ≡ slots_in old es
  added_view = same_view es sound.held

  -- and with one that has nothing
  pub inserted_sound : (k : Key) → IsNone (lookup (is_key k) es) → IsStrictlySortedBy key_cmp (keys_of (insert_entry key_cmp es k stored)) → IsSound new frame (insert_entry key_cmp es k stored)
  inserted_sound k none in_order = record {
    frame_is = adds.frame ∙ sound.frame_is;
    not_too_small = sound.not_too_small;
    not_too_large = sound.not_too_large;
    not_too_many = let same = adds.frames in omega (arith, same, sound.not_too_many);
    held = all_insert k (λ f. IsHeld new f) stored es holds_new (all_held es sound.held);
    apart = apart_insert k stored es (all_apart es sound.held) sound.apart;
    in_order = in_order;
    sum = omega (arith, sum_insert k (λ f. f.run.count) stored es none, adds.free, adds.frames, adds.count, sound.sum);
  }

  pub inserted_view : (k : Key) → slots_in new (insert_entry key_cmp es k stored) ≡ insert_entry key_cmp (slots_in old es) k nothing
  inserted_view k = map_insert k (object_in new) stored es ∙ ap (λ z. insert_entry key_cmp z k nothing) added_view

pub adds_from : {E : Type 0} (old new : RegionView) (result : Result Run E) (run : Run) → result ≡ Ok run → IfOk result (λ r. r.count ≡ 0) → IfOk result (λ r. Owns new r) → IfOk result (λ r. AddsRun old new r) → OnOk result (new.free + 0 ≡ old.free) → new.frame ≡ old.frame → new.frames ≡ old.frames → Adds old new run
adds_from old new (Ok r) run is count owned adds free frame frames =
    let same : r ≡ run = cc in
    record { frame = frame; frames = frames; free = omega (arith, free); count = subst (λ z. z.count ≡ 0) same count; owned = subst (λ z. Owns new z) same owned; adds = subst (λ z. AddsRun old new z) same adds }
adds_from old new (Err e) run is count owned adds free frame frames = absurd cc

pub none_is : {X : Type 0} (o : Option X) → IsNone o → o ≡ None
none_is None h = refl
none_is (Some x) h = absurd (let no : true ≡ false = h in cc)

-- no object is another one, where nothing is kept under a new key
pub inserted_same : (old new : RegionView) (es more : Entries) (k : Key) (v : Stored) → object_in new v ≡ nothing → ((q : Key) → lookup (is_key q) more ≡ cond (is_key k q) (Some v) (lookup (is_key q) es)) → IsNone (lookup (is_key k) es) → slots_in new es ≡ slots_in old es
    → (q : Key) → settled (slot_at (slots_in new more) q) ≡ settled (slot_at (slots_in old es) q)
inserted_same old new es more k v empty found none same q =
    let mapped : lookup (is_key q) (slots_in new more) ≡ option_map (object_in new) (cond (is_key k q) (Some v) (lookup (is_key q) es)) = lookup_map (is_key q) (object_in new) more ∙ ap (option_map (object_in new)) (found q) in
    let S : _ → Object = λ o. settled (unwrap_or o nothing) in
    ap S mapped ∙ elim (is_key k q) as (λ b. is_key k q ≡ b → S (option_map (object_in new) (cond b (Some v) (lookup (is_key q) es))) ≡ S (lookup (is_key q) (slots_in old es))) [
      | true ↦ λ here.
          let gone : lookup (is_key q) es ≡ None = subst (λ z. lookup (is_key z) es ≡ None) (same_key k q here) (none_is _ none) in
          ap settled empty ∙ ap settled (sym (slot_absent old es (slots_in old es) q refl gone))
      | false ↦ λ _. ap S (sym (lookup_map (is_key q) (object_in new) es) ∙ ap (lookup (is_key q)) same)
    ] refl
