-- What the entries are, where one is changed.
use Rattle.std.proofs.Common.{◌≡◌, ℕ, Bool, true, false, cond, [], ◌∷◌, Some, None, is_some, unwrap_or, refl, sym, ◌∙◌, ap, subst, arith}
use Rattle.std.specs.List.{AllByRecursion}
use Rattle.std.specs.List.Sorted.{IsStrictlySortedBy}
use Rattle.std.specs.Option.{option_map}
use Rattle.std.proofs.lemmas.Map.{keys-set_value}
use Rattle.std.specs.Map.{lookup, set_value}
use Rattle.rgw_types.specs.declared.pool_key.Key.{Key}
use Rattle.frame_region.specs.Region.{RegionView}
use Rattle.object_pool.specs.Parts.{Parts}
use Rattle.object_pool.specs.declared.object.Stored.{Stored}
use Rattle.object_pool.specs.Stored.{Entries, object_in, slots_in, IsHeld, AreApart, AllApart, IsSound}
use Rattle.object_pool.specs.Objects.{key_cmp, Slots, is_key, nothing, slot_at}
use Rattle.object_pool.proofs.EntryLemmas.{lookup_map, set_value_map, all_at, all_set, sum_set}

module _ (test : Key → Bool) (o w : Stored) where
  pub apart_set : (Q : Stored → Type 0) → ((f : Stored) → Q f → AreApart o f → AreApart w f) → (es : Entries) → AllByRecursion (λ e. Q e.1) es → AllApart es → lookup test es ≡ Some o → AllApart (set_value test es w)
  unfolding AllApart
  apart_set Q keeps [] q h found = h
  apart_set Q keeps (e ∷ es) q h found =
      elim (test e.0) as (λ b. cond b (Some e.1) (lookup test es) ≡ Some o → AllApart (cond b ((e.0, w) ∷ es) (e ∷ set_value test es w))) [
        | true ↦ λ here. let same : e.1 ≡ o = cc in (apart_all es (subst (λ s. AllByRecursion (λ f. AreApart s f.1) es) same h.0) q.1, h.1)
        | false ↦ λ later.
            let from_old : AreApart e.1 o = all_at test (λ f. AreApart e.1 f) es o h.0 later in
            let from_new : AreApart w e.1 = keeps e.1 q.0 (from_old.1, from_old.0) in
            (all_set test (λ f. AreApart e.1 f) es w h.0 (from_new.1, from_new.0), apart_set Q keeps es q.1 h.1 later)
      ] found
    where
      apart_all : (es : Entries) → AllByRecursion (λ f. AreApart o f.1) es → AllByRecursion (λ f. Q f.1) es → AllByRecursion (λ f. AreApart w f.1) es
      apart_all [] a q = tt
      apart_all (f ∷ fs) a q = (keeps f.1 q.0 a.0, apart_all fs a.1 q.1)

module _ (region : RegionView) (frame : ℕ) (es : Entries) (sound : IsSound region frame es) (test : Key → Bool) (o : Stored) (found : lookup test es ≡ Some o) where
  held_there : IsHeld region o
  held_there = all_at test (λ f. IsHeld region f) es o sound.held found

  -- what is kept at the key
  pub kept_there : lookup test (slots_in region es) ≡ Some (object_in region o)
  kept_there = lookup_map test (object_in region) es ∙ ap (λ z. option_map (object_in region) z) found

  -- other attributes and rows leave all frames as they are
  pub parts_sound : (w : Parts) → IsSound region frame (set_value test es (record o { parts = w }))
  parts_sound w =
      let new : Stored = record o { parts = w } in
      let more = sum_set test (λ f. f.run.count) es o new found in
      record {
        frame_is = sound.frame_is;
        not_too_small = sound.not_too_small;
        not_too_large = sound.not_too_large;
        not_too_many = sound.not_too_many;
        held = all_set test (λ f. IsHeld region f) es new sound.held (record { owned = held_there.owned; fits = held_there.fits; count = held_there.count });
        apart = apart_set test o new (λ f. IsHeld region f) (λ f h a. a) es sound.held sound.apart found;
        in_order = subst (IsStrictlySortedBy key_cmp) (sym (keys-set_value test es new)) sound.in_order;
        sum = omega (arith, more, sound.sum);
      }

  pub parts_view : (w : Parts) → slots_in region (set_value test es (record o { parts = w })) ≡ set_value test (slots_in region es) (record (object_in region o) { attrs = w.attrs; rows = w.rows })
  parts_view w = set_value_map test (object_in region) es (record o { parts = w })

pub entry_there : (region : RegionView) (es : Entries) (slots : Slots) (test : Key → Bool) → slots_in region es ≡ slots → is_some (lookup test slots) ≡ true → is_some (lookup test es) ≡ true
entry_there region es slots test same there =
    let mapped : is_some (option_map (object_in region) (lookup test es)) ≡ true = ap is_some (sym (lookup_map test (object_in region) es) ∙ ap (lookup test) same) ∙ there in
    elim (lookup test es) as (λ o. is_some (option_map (object_in region) o) ≡ true → is_some o ≡ true) [
      | None ↦ λ no. no
      | Some x ↦ λ _. refl
    ] mapped

-- what is found in the entries is kept at the key
pub slot_there : (region : RegionView) (es : Entries) (slots : Slots) (key : Key) (o : Stored) → slots_in region es ≡ slots → lookup (is_key key) es ≡ Some o → slot_at slots key ≡ object_in region o
slot_there region es slots key o same found =
    ap (λ z. slot_at z key) (sym same) ∙ ap (λ z. unwrap_or z nothing) (lookup_map (is_key key) (object_in region) es ∙ ap (λ z. option_map (object_in region) z) found)

pub slot_absent : (region : RegionView) (es : Entries) (slots : Slots) (key : Key) → slots_in region es ≡ slots → lookup (is_key key) es ≡ None → slot_at slots key ≡ nothing
slot_absent region es slots key same none =
    ap (λ z. slot_at z key) (sym same) ∙ ap (λ z. unwrap_or z nothing) (lookup_map (is_key key) (object_in region) es ∙ ap (λ z. option_map (object_in region) z) none)

pub kept_or_not : (region : RegionView) (es : Entries) (slots : Slots) (test : Key → Bool) → slots_in region es ≡ slots → is_some (lookup test es) ≡ is_some (lookup test slots)
kept_or_not region es slots test same =
    let mapped : is_some (option_map (object_in region) (lookup test es)) ≡ is_some (lookup test slots) = ap is_some (sym (lookup_map test (object_in region) es) ∙ ap (lookup test) same) in
    elim (lookup test es) as (λ o. is_some (option_map (object_in region) o) ≡ is_some (lookup test slots) → is_some o ≡ is_some (lookup test slots)) [
      | None ↦ λ no. no
      | Some x ↦ λ yes. yes
    ] mapped

pub held_of : (region : RegionView) (frame : ℕ) (es : Entries) (test : Key → Bool) (o : Stored) → IsSound region frame es → lookup test es ≡ Some o → IsHeld region o
held_of region frame es test o sound found = all_at test (λ f. IsHeld region f) es o sound.held found
