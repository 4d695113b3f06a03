-- What a pool is where the run of one object is replaced.
use Rattle.std.proofs.Common.{◌≡◌, ℕ, ◌+◌, ◌*◌, ◌≤◌, Bool, true, false, cond, [], ◌∷◌, take, Some, refl, sym, ◌∙◌, ap, ap₂, subst, arith}
use Rattle.std.specs.List.{AllByRecursion}
use Rattle.std.specs.List.Sorted.{IsStrictlySortedBy}
use Rattle.std.specs.Int.{div_ceil}
use Rattle.std.proofs.lemmas.Map.{keys-set_value}
use Rattle.std.specs.Map.{lookup, set_value}
use Rattle.std.proofs.lemmas.Grind.{div_ceil_times}
use Rattle.rgw_types.specs.declared.pool_key.Key.{Key}
use Rattle.frame_region.specs.Region.{Run, RegionView, Owns, Apart, Keeps}
use Rattle.object_pool.specs.declared.object.Stored.{Stored}
use Rattle.object_pool.specs.Objects.{Object, key_cmp}
use Rattle.object_pool.specs.Stored.{Entries, object_in, slots_in, IsHeld, AreApart, AllApart, IsSound}
use Rattle.object_pool.proofs.EntryLemmas.{all_at, sum_set}
use Rattle.object_pool.proofs.SlotLemmas.{apart_set}

module _ (test : Key → Bool) (o w : Stored) (Q : Stored → Type 0) where
  -- what holds of each entry that is apart from the old one holds of all but that
  pub held_set : (R : Stored → Type 0) → ((f : Stored) → Q f → AreApart o f → R f) → R w → (es : Entries) → AllByRecursion (λ e. Q e.1) es → AllApart es → lookup test es ≡ Some o → AllByRecursion (λ e. R e.1) (set_value test es w)
  unfolding AllApart
  held_set R keeps new [] q h found = tt
  held_set R keeps new (e ∷ es) q h found =
      elim (test e.0) as (λ b. cond b (Some e.1) (lookup test es) ≡ Some o → AllByRecursion (λ e. R e.1) (cond b ((e.0, w) ∷ es) (e ∷ set_value test es w))) [
        | true ↦ λ here. let same : e.1 ≡ o = cc in (new, rest es (subst (λ s. AllByRecursion (λ f. AreApart s f.1) es) same h.0) q.1)
        | false ↦ λ later.
            let from_old : AreApart e.1 o = all_at test (λ f. AreApart e.1 f) es o h.0 later in
            (keeps e.1 q.0 (from_old.1, from_old.0), held_set R keeps new es q.1 h.1 later)
      ] found
    where
      rest : (es : Entries) → AllByRecursion (λ f. AreApart o f.1) es → AllByRecursion (λ f. Q f.1) es → AllByRecursion (λ f. R f.1) es
      rest [] a q = tt
      rest (f ∷ fs) a q = (keeps f.1 q.0 a.0, rest fs a.1 q.1)

  -- and is seen as it was
  pub views_set : (old new : RegionView) → ((f : Stored) → Q f → AreApart o f → object_in new f ≡ object_in old f) → (es : Entries) → AllByRecursion (λ e. Q e.1) es → AllApart es → lookup test es ≡ Some o → slots_in new (set_value test es w) ≡ set_value test (slots_in old es) (object_in new w)
  unfolding AllApart
  views_set old new keeps [] q h found = refl
  views_set old new keeps (e ∷ es) q h found =
      elim (test e.0) as (λ b. cond b (Some e.1) (lookup test es) ≡ Some o → slots_in new (cond b ((e.0, w) ∷ es) (e ∷ set_value test es w)) ≡ cond b ((e.0, object_in new w) ∷ slots_in old es) ((e.0, object_in old e.1) ∷ set_value test (slots_in old es) (object_in new w))) [
        | true ↦ λ here. let same : e.1 ≡ o = cc in ap (λ z. (e.0, object_in new w) ∷ z) (rest es (subst (λ s. AllByRecursion (λ f. AreApart s f.1) es) same h.0) q.1)
        | false ↦ λ later.
            let from_old : AreApart e.1 o = all_at test (λ f. AreApart e.1 f) es o h.0 later in
            ap₂ (λ x z. (e.0, x) ∷ z) (keeps e.1 q.0 (from_old.1, from_old.0)) (views_set old new keeps es q.1 h.1 later)
      ] found
    where
      rest : (es : Entries) → AllByRecursion (λ f. AreApart o f.1) es → AllByRecursion (λ f. Q f.1) es → slots_in new es ≡ slots_in old es
      rest [] a q = refl
      rest (f ∷ fs) a q = ap₂ (λ x z. (f.0, x) ∷ z) (keeps f.1 q.0 a.0) (rest fs a.1 q.1)

-- the region is another one, which keeps each run that is apart from the old one, and a new one of its own
pub record Replaces (old new : RegionView) (given taken : Run) : Type 0 where
  pub frame : new.frame ≡ old.frame
  pub frames : new.frames ≡ old.frames
  pub free : new.free + taken.count ≡ old.free + given.count
  pub owned : Owns new taken
  pub keeps : (other : Run) → Owns old other → Apart given other → Keeps old new other
  pub apart : (other : Run) → Owns old other → Apart taken other × Apart other taken

module _ (old new : RegionView) (frame : ℕ) (es : Entries) (sound : IsSound old frame es) (test : Key → Bool) (o : Stored) (found : lookup test es ≡ Some o) (run : Run) (size : ℕ)
    (replaces : Replaces old new o.run run) (count : run.count ≡ div_ceil size frame) where
  abbrev stored : Stored
  stored = record { run = run; size = size; parts = o.parts }

  keeps_held : (f : Stored) → IsHeld old f → AreApart o f → IsHeld new f
  keeps_held f held apart = record {
    owned = (replaces.keeps f.run held.owned apart.0).owned;
    fits = let same = replaces.frame in subst (λ n. f.size ≤ f.run.count * n) (sym same) held.fits;
    count = let same = replaces.frame in subst (λ n. f.run.count ≡ div_ceil f.size n) (sym same) held.count;
  }

  keeps_seen : (f : Stored) → IsHeld old f → AreApart o f → object_in new f ≡ object_in old f
  keeps_seen f held apart = ap (λ z. let seen : Object = record { bytes = take f.size z; attrs = f.parts.attrs; rows = f.parts.rows } in seen) (replaces.keeps f.run held.owned apart.0).bytes

  holds_new : IsHeld new stored
  holds_new =
      let same : new.frame ≡ frame = replaces.frame ∙ sound.frame_is in
      let enough = (div_ceil_times size frame (omega (arith, sound.not_too_small))).0 in
      let fits : size ≤ run.count * frame = subst (λ n. size ≤ n * frame) (sym count) enough in
      record { owned = replaces.owned; fits = subst (λ n. size ≤ run.count * n) (sym same) fits; count = subst (λ n. run.count ≡ div_ceil size n) (sym same) count }

  pub replaced_sound : IsSound new frame (set_value test es stored)
  replaced_sound =
      let more = sum_set test (λ f. f.run.count) es o stored found in
      record {
        frame_is = replaces.frame ∙ sound.frame_is;
        not_too_small = sound.not_too_small;
        not_too_large = sound.not_too_large;
        not_too_many = let same = replaces.frames in omega (arith, same, sound.not_too_many);
        held = held_set test o stored (λ f. IsHeld old f) (λ f. IsHeld new f) keeps_held holds_new es sound.held sound.apart found;
        apart = apart_set test o stored (λ f. IsHeld old f) (λ f held a. replaces.apart f.run held.owned) es sound.held sound.apart found;
        in_order = subst (IsStrictlySortedBy key_cmp) (sym (keys-set_value test es stored)) sound.in_order;
        sum = omega (arith, more, sound.sum, replaces.free, replaces.frames);
      }

  pub replaced_view : slots_in new (set_value test es stored) ≡ set_value test (slots_in old es) (object_in new stored)
  replaced_view = views_set test o stored (λ f. IsHeld old f) old new keeps_seen es sound.held sound.apart found
