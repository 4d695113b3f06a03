-- What was made stays, and was made by an event.
use Rattle.std.proofs.Common.{◌≡◌, ℕ, ◌&&◌, ◌⊎◌, inl, inr, true, List, [], ◌∷◌, length, Some, None, refl, sym, ◌∙◌, ap}
use Rattle.realm_model.specs.Settings.{SettingsView}
use Rattle.realm_model.specs.Ops.{zone_of}
use Rattle.realm_model.specs.Phases.{ActorId}
use Rattle.realm_model.specs.Needs.{is_between, is_own_write, is_next_part}
use Rattle.realm_model.specs.Allowed.{meets_need}
use Rattle.realm_model.specs.Maps.{Made}
use Rattle.realm_model.specs.Worlds.{World, start, actor_of, made_after, happens}
use Rattle.realm_model.specs.Histories.{run, world_of, LegalFrom}
use Rattle.realm_model.specs.declared.op.Op.{Op}
use Rattle.realm_model.specs.declared.op.Op.TheVariants.{TailMake}
use Rattle.realm_model.specs.declared.event.Reply.{Reply}
use Rattle.realm_model.specs.declared.event.Reply.TheVariants.{Done}
use Rattle.realm_model.specs.declared.event.Event.{Event}
use Rattle.realm_model.proofs.Computing.{left_of, right_of}
use Rattle.realm_model.proofs.ObjectLemmas.{put_bundle_cases}
use Rattle.stripe_law.specs.Invariant.{StripesHoldIn}
use Rattle.stripe_law.specs.Reading.{IsMaking}
use Rattle.stripe_law.proofs.Making.{unmade}
use Rattle.stripe_law.proofs.Next.{may_make}
use Rattle.stripe_law.proofs.Keeping.{stripes_next}

-- ---- it stays

made_kept : (settings : SettingsView) (w : World) (actor : ActorId) → StripesHoldIn w → (op : Op) (reply : Reply) → meets_need settings (w.phases actor) op ≡ true
    → (z t p : ℕ) (b : List ℕ) → w.stripes.made z t p ≡ Some b → made_after w.stripes.made op reply z t p ≡ Some b
made_kept settings w actor holds (TailMake zone write part bytes) Done may z t p b was =
    let q = w.phases actor in
    let own = q.stripes.own in
    let rest = right_of (is_own_write q zone write) (is_next_part (own zone write write) part && is_between 1 settings.stripe (length bytes)) may in
    let mine = left_of (is_own_write q zone write) (is_next_part (own zone write write) part && is_between 1 settings.stripe (length bytes)) may in
    let next = left_of (is_next_part (own zone write write) part) (is_between 1 settings.stripe (length bytes)) rest in
    let fresh = may_make w.state.heads w.state.count w.state.clock w.phases w.stripes actor holds zone write part bytes settings.stripe mine next in
    let none = unmade w.stripes.ledger w.stripes.made own actor zone write part bytes fresh holds.made_once in
    put_bundle_cases (λ z t p o. w.stripes.made z t p ≡ Some b → o ≡ Some b) w.stripes.made zone write part (Some bytes)
    (λ is. let bad : None ≡ Some b = sym none ∙ is in absurd cc) (λ z t p is. is) z t p was
made_kept settings w actor holds op reply may z t p b is = is

pub made_stays : (settings : SettingsView) (w : World) (es : List Event) → LegalFrom settings w es → StripesHoldIn w → (z t p : ℕ) (b : List ℕ) → w.stripes.made z t p ≡ Some b → (run settings w es).stripes.made z t p ≡ Some b
made_stays settings w [] legal holds z t p b is = is
made_stays settings w (e ∷ es) legal holds z t p b is =
    let need = right_of (is_between 1 settings.zones (zone_of e.op)) (meets_need settings (w.phases (actor_of e)) e.op) legal.0.may in
    made_stays settings (happens settings w e) es legal.1 (stripes_next settings w e legal.0 holds) z t p b
    (made_kept settings w (actor_of e) holds e.op e.reply need z t p b is)

-- ---- it was made by an event

made_by : (made : Made) (op : Op) (reply : Reply) (z t p : ℕ) (b : List ℕ) → made_after made op reply z t p ≡ Some b → (made z t p ≡ Some b) ⊎ ((op ≡ TailMake z t p b) × (reply ≡ Done))
made_by made (TailMake zone write part bytes) Done z t p b was =
    put_bundle_cases (λ z t p o. o ≡ Some b → (made z t p ≡ Some b) ⊎ ((TailMake zone write part bytes ≡ TailMake z t p b) × (Done ≡ Done))) made zone write part (Some bytes)
    (λ is. let same : bytes ≡ b = cc in inr (ap (λ x. TailMake zone write part x) same, refl)) (λ z t p is. inl is) z t p was
made_by made op reply z t p b is = inl is

later_making : (e : Event) (es : List Event) (z t p : ℕ) (b : List ℕ) → IsMaking es z t p b → IsMaking (e ∷ es) z t p b
later_making e es z t p b m = record {
  earlier = e ∷ m.earlier;
  event = m.event;
  later = m.later;
  stands = ap (λ xs. e ∷ xs) m.stands;
  op = m.op;
  reply = m.reply;
}

made_in : (settings : SettingsView) (w : World) (es : List Event) (z t p : ℕ) (b : List ℕ) → (run settings w es).stripes.made z t p ≡ Some b → (w.stripes.made z t p ≡ Some b) ⊎ IsMaking es z t p b
made_in settings w [] z t p b is = inl is
made_in settings w (e ∷ es) z t p b is =
    elim (made_in settings (happens settings w e) es z t p b is) [
      | inr m ↦ inr (later_making e es z t p b m)
      | inl was ↦ elim (made_by w.stripes.made e.op e.reply z t p b was) [
        | inl before ↦ inl before
        | inr now ↦ inr (record { earlier = []; event = e; later = es; stands = refl; op = now.0; reply = now.1 })
      ]
    ]

pub has_making : (settings : SettingsView) (history : List Event) (z t p : ℕ) (b : List ℕ) → (world_of settings history).stripes.made z t p ≡ Some b → IsMaking history z t p b
has_making settings history z t p b is =
    elim (made_in settings (start settings) history z t p b is) [
      | inl never ↦ absurd cc
      | inr m ↦ m
    ]
