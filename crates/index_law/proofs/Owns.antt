-- What actors know of their own tags, after an event.
use Rattle.std.proofs.Common.{◌≡◌, ℕ, ◌==◌, ◌&&◌, ◌||◌, true, false, List, Option, Some, None, refl, sym, subst, ap, ◌∙◌}
use Rattle.object_words.specs.declared.entry.Guard.{Guard}
use Rattle.object_words.specs.Keys.{put, is_key}
use Rattle.rgw_types.specs.declared.pool_key.Key.{Key}
use Rattle.realm_model.specs.Facts.{TagNote}
use Rattle.realm_model.specs.Needs.{is_pending}
use Rattle.realm_model.specs.Phases.{ActorId, OwnChange, Stage, pending, tried, over, OwnTag, Phase}
use Rattle.realm_model.specs.Learnt.{at_stage, tried_from, with_try, announced, changed}
use Rattle.realm_model.specs.Worlds.{same_actor, changed_note, ended_note}
use Rattle.realm_model.proofs.ObjectLemmas.{number_same, actor_itself}
use Rattle.index_law.specs.Tables.{Notes}
use Rattle.index_law.specs.Tags.{IsOwn}
use Rattle.index_law.proofs.NoteLemmas.{Turns, turned_here, over_of, ending, with_change, changing}
use Rattle.index_law.proofs.Tests.{OwnsTag}

-- nothing is known anew, but that the tag is no longer open
pub own_fewer : (tags : Notes) (me : ActorId) (t t' : OwnTag) → IsOwn tags me t → t'.guard ≡ t.guard → t'.zone ≡ t.zone → t'.key ≡ t.key → t'.name ≡ t.name → t'.change ≡ t.change → (is_pending t'.stage ≡ true → is_pending t.stage ≡ true) → IsOwn tags me t'
own_fewer tags me t t' n guard zone key name change stage = record {
  note = n.note;
  there = subst (λ g. tags g.tag ≡ Some n.note) (sym guard) n.there;
  actor_is = n.actor_is;
  zone_is = n.zone_is ∙ sym zone;
  key_is = n.key_is ∙ sym key;
  name_is = n.name_is ∙ sym name;
  deadline_is = n.deadline_is ∙ ap (λ (g : Guard). g.deadline) (sym guard);
  change_is = n.change_is ∙ sym change;
  not_ended = λ is. n.not_ended (stage is);
}

-- the note turned with the tag
pub own_turned : (g : Option TagNote → Option TagNote) (f : TagNote → TagNote) → Turns g f → (tags : Notes) (me : ActorId) (t t' : OwnTag) → IsOwn tags me t → t'.guard ≡ t.guard → t'.zone ≡ t.zone → t'.key ≡ t.key → t'.name ≡ t.name
    → ((note : TagNote) → note.change ≡ t.change → (f note).change ≡ t'.change)
    → ((note : TagNote) → (is_pending t.stage ≡ true → note.ended ≡ false) → is_pending t'.stage ≡ true → (f note).ended ≡ false)
    → IsOwn (put tags t.guard.tag (g (tags t.guard.tag))) me t'
own_turned g f turns tags me t t' n guard zone key name change stage =
    let same = turns.same n.note in
    record {
      note = f n.note;
      there = subst (λ x. put tags t.guard.tag (g (tags t.guard.tag)) x.tag ≡ Some (f n.note)) (sym guard) (turned_here g f turns tags t.guard.tag n.note n.there);
      actor_is = same.actor ∙ n.actor_is;
      zone_is = same.zone ∙ n.zone_is ∙ sym zone;
      key_is = same.key ∙ n.key_is ∙ sym key;
      name_is = same.name ∙ n.name_is ∙ sym name;
      deadline_is = same.deadline ∙ n.deadline_is ∙ ap (λ (x : Guard). x.deadline) (sym guard);
      change_is = change n.note n.change_is;
      not_ended = stage n.note n.not_ended;
    }

-- the note is the same in other notes
own_same : (tags tags' : Notes) (a : ActorId) (t : OwnTag) (n : IsOwn tags a t) → tags' t.guard.tag ≡ Some n.note → IsOwn tags' a t
own_same tags tags' a t n there = record {
  note = n.note;
  there = there;
  actor_is = n.actor_is;
  zone_is = n.zone_is;
  key_is = n.key_is;
  name_is = n.name_is;
  deadline_is = n.deadline_is;
  change_is = n.change_is;
  not_ended = n.not_ended;
}

-- another's note did not
pub own_other : (g : Option TagNote → Option TagNote) (tags : Notes) (me a : ActorId) (tag : ℕ) (t : OwnTag) (note : TagNote) → tags tag ≡ Some note → note.actor ≡ me → same_actor a me ≡ false → IsOwn tags a t → IsOwn (put tags tag (g (tags tag))) a t
own_other g tags me a tag t note there mine apart n =
    elim (tag == t.guard.tag) as (λ b. (tag == t.guard.tag) ≡ b → IsOwn (put tags tag (g (tags tag))) a t) [
      | true ↦ λ same.
          let one : Some note ≡ Some n.note = sym there ∙ ap tags (number_same tag t.guard.tag same) ∙ n.there in
          let actors : a ≡ me = let notes : note ≡ n.note = cc in sym n.actor_is ∙ ap (λ (x : TagNote). x.actor) (sym notes) ∙ mine in
          absurd (let self = subst (λ x. same_actor x me ≡ true) (sym actors) (actor_itself me) in cc)
      | false ↦ λ other. own_same tags (put tags tag (g (tags tag))) a t n (rw other n.there)
    ] refl

-- a note more
pub own_added : (tags : Notes) (number : ℕ) (new : TagNote) → ((note : TagNote) → tags number ≡ Some note → ⊥) → (a : ActorId) (t : OwnTag) → IsOwn tags a t → IsOwn (put tags number (Some new)) a t
own_added tags number new none a t n =
    elim (number == t.guard.tag) as (λ b. (number == t.guard.tag) ≡ b → IsOwn (put tags number (Some new)) a t) [
      | true ↦ λ same. absurd (none n.note (ap tags (number_same number t.guard.tag same) ∙ n.there))
      | false ↦ λ other. own_same tags (put tags number (Some new)) a t n (rw other n.there)
    ] refl

-- ---- the own tag of an actor

module _ (tags : Notes) (me : ActorId) (tag : Option OwnTag) (own : (t : OwnTag) → tag ≡ Some t → IsOwn tags me t) where
  -- it is over, or was announced
  pub own_over : (t : OwnTag) → at_stage tag over ≡ Some t → IsOwn tags me t
  own_over t is = by_tag tag own is where
    by_tag : (o : Option OwnTag) → ((x : OwnTag) → o ≡ Some x → IsOwn tags me x) → at_stage o over ≡ Some t → IsOwn tags me t
    by_tag None n none = cc
    by_tag (Some x) n some = let same : record x { stage = over } ≡ t = cc in subst (λ y. IsOwn tags me y) same (own_fewer tags me x _ (n x refl) refl refl refl refl refl (λ e. cc))

  pub own_tried : (moved : Option ℕ) (t : OwnTag) → with_try tag moved ≡ Some t → IsOwn tags me t
  own_tried moved t is = by_tag tag own is where
    not_open : (stage : Stage) → is_pending (tried_from stage moved) ≡ true → is_pending stage ≡ true
    not_open pending e = cc
    not_open (tried (Some first)) e = cc
    not_open (tried None) e = cc
    not_open over e = cc

    by_tag : (o : Option OwnTag) → ((x : OwnTag) → o ≡ Some x → IsOwn tags me x) → with_try o moved ≡ Some t → IsOwn tags me t
    by_tag None n none = cc
    by_tag (Some x) n some = let same : record x { stage = tried_from x.stage moved } ≡ t = cc in subst (λ y. IsOwn tags me y) same (own_fewer tags me x _ (n x refl) refl refl refl refl refl (not_open x.stage))

  pub own_announced : (zone : ℕ) (key : Key) (t : OwnTag) → announced tag zone key ≡ Some t → IsOwn tags me t
  own_announced zone key t is = by_tag tag own is where
    by_tag : (o : Option OwnTag) → ((x : OwnTag) → o ≡ Some x → IsOwn tags me x) → announced o zone key ≡ Some t → IsOwn tags me t
    by_tag None n none = cc
    by_tag (Some x) n some = let same : record x { announced = x.announced || (x.zone == zone && is_key x.key key) } ≡ t = cc in subst (λ y. IsOwn tags me y) same (own_fewer tags me x _ (n x refl) refl refl refl refl refl (λ e. e))

-- it ended, and so did its note
pub own_ended : (tags : Notes) (me : ActorId) (p : Phase) (zone : ℕ) (name : List ℕ) (number : ℕ) (o : OwnsTag p zone name number) → IsOwn tags me o.t → (t : OwnTag) → at_stage p.tag over ≡ Some t → IsOwn (put tags number (ended_note (tags number))) me t
own_ended tags me p zone name number o n t is =
    let now = ap (λ x. at_stage x over) (sym o.is) ∙ is in
    let same : record o.t { stage = over } ≡ t = cc in
    subst (λ k. IsOwn (put tags k (ended_note (tags k))) me t) o.tag_is
    (subst (λ y. IsOwn (put tags (o.t).guard.tag (ended_note (tags (o.t).guard.tag))) me y) same
    (own_turned ended_note over_of ending tags me o.t _ n refl refl refl refl (λ note e. e) (λ note e bad. cc)))

-- it got its change, and so did its note
pub own_changed : (tags : Notes) (me : ActorId) (p : Phase) (zone : ℕ) (name : List ℕ) (number : ℕ) (change : OwnChange) (o : OwnsTag p zone name number) → IsOwn tags me o.t → (t : OwnTag) → changed p.tag change ≡ Some t → IsOwn (put tags number (changed_note (tags number) change)) me t
own_changed tags me p zone name number change o n t is =
    let now = ap (λ x. changed x change) (sym o.is) ∙ is in
    let same : record o.t { change = Some change } ≡ t = cc in
    subst (λ k. IsOwn (put tags k (changed_note (tags k) change)) me t) o.tag_is
    (subst (λ y. IsOwn (put tags (o.t).guard.tag (changed_note (tags (o.t).guard.tag) change)) me y) same
    (own_turned (λ x. changed_note x change) (with_change change) (changing change) tags me o.t _ n refl refl refl refl (λ note e. refl) (λ note e. e)))
