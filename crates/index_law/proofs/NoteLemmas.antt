-- How notes of tags change: a preparation adds one; any other event keeps where each was prepared.
use Rattle.std.proofs.Common.{◌≡◌, ◌≢◌, ◌⊎◌, inl, inr, ℕ, ◌==◌, true, false, cond, List, [], ◌∷◌, Option, Some, None, refl, sym, subst, ap, ◌∙◌}
use Rattle.std.specs.List.{AllByRecursion}
use Rattle.rgw_types.specs.declared.pool_key.Key.{Key}
use Rattle.object_words.specs.declared.entry.Tag.{Tag}
use Rattle.object_words.specs.Keys.{put}
use Rattle.object_words.proofs.KeyLemmas.{number_itself}
use Rattle.realm_model.specs.Phases.{OwnChange}
use Rattle.realm_model.specs.Facts.{TagNote}
use Rattle.realm_model.specs.Worlds.{changed_note, ended_note}
use Rattle.realm_model.proofs.ObjectLemmas.{number_same}
use Rattle.index_law.specs.Tables.{Notes, change_in, changes_of}
use Rattle.index_law.specs.Tags.{IsNoted}

-- both notes are of one preparation
pub record SamePlace (old new : TagNote) : Type 0 where
  pub actor : new.actor ≡ old.actor
  pub zone : new.zone ≡ old.zone
  pub key : new.key ≡ old.key
  pub name : new.name ≡ old.name
  pub deadline : new.deadline ≡ old.deadline

-- the note is still there
pub record NoteStays (tags : Notes) (tag : ℕ) (old : TagNote) : Type 0 where
  pub note : TagNote
  pub there : tags tag ≡ Some note
  pub same : SamePlace old note

-- no note is lost or moved
abbrev pub Keeps : Notes → Notes → Type 0
Keeps tags tags' = (tag : ℕ) (note : TagNote) → tags tag ≡ Some note → NoteStays tags' tag note

pub keeps_same : (tags : Notes) → Keeps tags tags
keeps_same tags tag note is = record { note = note; there = is; same = record { actor = refl; zone = refl; key = refl; name = refl; deadline = refl } }

pub all_map : {X : Type 0} (P Q : X → Type 0) → ((x : X) → P x → Q x) → (xs : List X) → AllByRecursion P xs → AllByRecursion Q xs
all_map P Q step [] all = tt
all_map P Q step (x ∷ xs) all = (step x all.0, all_map P Q step xs all.1)

pub noted_more : (tags tags' : Notes) → Keeps tags tags' → (zone : ℕ) (key : Key) (name : List ℕ) (t : Tag) → IsNoted tags zone key name t → IsNoted tags' zone key name t
noted_more tags tags' keeps zone key name t n =
    let s = keeps t.tag n.note n.there in
    record {
      note = s.note;
      there = s.there;
      zone_is = s.same.zone ∙ n.zone_is;
      key_is = s.same.key ∙ n.key_is;
      name_is = s.same.name ∙ n.name_is;
      deadline_is = s.same.deadline ∙ n.deadline_is;
    }

-- ---- a note more

pub keeps_added : (tags : Notes) (number : ℕ) (new : TagNote) → ((note : TagNote) → tags number ≡ Some note → ⊥) → Keeps tags (put tags number (Some new))
keeps_added tags number new none tag note is =
    elim (number == tag) as (λ b. (number == tag) ≡ b → NoteStays (put tags number (Some new)) tag note) [
      | true ↦ λ same. absurd (none note (ap tags (number_same number tag same) ∙ is))
      | false ↦ λ apart. record { note = note; there = rw apart is; same = record { actor = refl; zone = refl; key = refl; name = refl; deadline = refl } }
    ] refl

-- a note is the new one, or was there
pub added_back : (tags : Notes) (number : ℕ) (new : TagNote) (tag : ℕ) (note : TagNote) → put tags number (Some new) tag ≡ Some note → ((number ≡ tag) × (new ≡ note)) ⊎ (tags tag ≡ Some note)
added_back tags number new tag note is =
    elim (number == tag) as (λ b. (number == tag) ≡ b → cond b (Some new) (tags tag) ≡ Some note → ((number ≡ tag) × (new ≡ note)) ⊎ (tags tag ≡ Some note)) [
      | true ↦ λ same here. inl (number_same number tag same, cc)
      | false ↦ λ apart there. inr there
    ] refl is

pub added_changes : (tags : Notes) (number : ℕ) (new : TagNote) → ((note : TagNote) → tags number ≡ Some note → ⊥) → new.change ≡ None → changes_of (put tags number (Some new)) ≡ changes_of tags
added_changes tags number new none fresh = λ i q. at q i where
  empty : (o : Option TagNote) → ((note : TagNote) → o ≡ Some note → ⊥) → None ≡ change_in o
  empty None n = refl
  empty (Some note) n = absurd (n note refl)

  at : (q : ℕ) → changes_of (put tags number (Some new)) q ≡ changes_of tags q
  at q =
      elim (number == q) as (λ b. (number == q) ≡ b → change_in (cond b (Some new) (tags q)) ≡ change_in (tags q)) [
        | true ↦ λ same. subst (λ k. new.change ≡ change_in (tags k)) (number_same number q same) (fresh ∙ empty (tags number) none)
        | false ↦ λ apart. refl
      ] refl

-- ---- a note changed

-- one note becomes another of the same preparation
pub record Turns (g : Option TagNote → Option TagNote) (f : TagNote → TagNote) : Type 0 where
  pub none : g None ≡ None
  pub some : (note : TagNote) → g (Some note) ≡ Some (f note)
  pub same : (note : TagNote) → SamePlace note (f note)

abbrev pub with_change : OwnChange → TagNote → TagNote
with_change change note = record note { change = Some change }

abbrev pub over_of : TagNote → TagNote
over_of note = record note { ended = true }

pub ending : Turns ended_note over_of
ending = record { none = refl; some = λ note. refl; same = λ note. record { actor = refl; zone = refl; key = refl; name = refl; deadline = refl } }

pub changing : (change : OwnChange) → Turns (λ o. changed_note o change) (with_change change)
changing change = record { none = refl; some = λ note. refl; same = λ note. record { actor = refl; zone = refl; key = refl; name = refl; deadline = refl } }

module _ (g : Option TagNote → Option TagNote) (f : TagNote → TagNote) (turns : Turns g f) (tags : Notes) (t : ℕ) where
  pub keeps_turned : Keeps tags (put tags t (g (tags t)))
  keeps_turned tag note is =
      elim (t == tag) as (λ b. (t == tag) ≡ b → NoteStays (put tags t (g (tags t))) tag note) [
        | true ↦ λ same. record { note = f note; there = rw same (ap g (ap tags (number_same t tag same) ∙ is) ∙ turns.some note); same = turns.same note }
        | false ↦ λ apart. record { note = note; there = rw apart is; same = record { actor = refl; zone = refl; key = refl; name = refl; deadline = refl } }
      ] refl

  pub turned_here : (note : TagNote) → tags t ≡ Some note → put tags t (g (tags t)) t ≡ Some (f note)
  turned_here note is = rw (number_itself t) (ap g is ∙ turns.some note)

  -- a note was there, or is what one became
  pub record Back (tag : ℕ) (new : TagNote) : Type 0 where
    pub note : TagNote
    pub there : tags tag ≡ Some note
    pub how : (((t == tag) ≡ false) × (new ≡ note)) ⊎ ((t ≡ tag) × (new ≡ f note))

  from_one : (o : Option TagNote) (new : TagNote) → g o ≡ Some new → (note : TagNote) × (o ≡ Some note) × (new ≡ f note)
  from_one None new is = absurd (let e = turns.none in cc)
  from_one (Some note) new is = (note, refl, let e = turns.some note in cc)

  pub turned_back : (tag : ℕ) (new : TagNote) → put tags t (g (tags t)) tag ≡ Some new → Back tag new
  turned_back tag new is =
      elim (t == tag) as (λ b. (t == tag) ≡ b → cond b (g (tags t)) (tags tag) ≡ Some new → Back tag new) [
        | true ↦ λ same here.
            let one = from_one (tags t) new here in
            record { note = one.0; there = ap tags (sym (number_same t tag same)) ∙ one.1; how = inr (number_same t tag same, one.2) }
        | false ↦ λ apart there. record { note = new; there = there; how = inl (apart, refl) }
      ] refl is

-- a tag that is over has the change that it had
pub ended_changes : (tags : Notes) (t : ℕ) → changes_of (put tags t (ended_note (tags t))) ≡ changes_of tags
ended_changes tags t = λ i q. at q i where
  same : (o : Option TagNote) → change_in (ended_note o) ≡ change_in o
  same None = refl
  same (Some note) = refl

  at : (q : ℕ) → changes_of (put tags t (ended_note (tags t))) q ≡ changes_of tags q
  at q =
      elim (t == q) as (λ b. (t == q) ≡ b → change_in (cond b (ended_note (tags t)) (tags q)) ≡ change_in (tags q)) [
        | true ↦ λ is. same (tags t) ∙ ap (λ k. change_in (tags k)) (number_same t q is)
        | false ↦ λ apart. refl
      ] refl

-- an open tag is not the one that ended
pub open_is_other : (tags : Notes) (t tag : ℕ) (new : TagNote) → put tags t (ended_note (tags t)) tag ≡ Some new → new.ended ≡ false → tag ≢ t
open_is_other tags t tag new is open_still same =
    elim ((turned_back ended_note over_of ending tags t tag new is).how) [
      | inl apart ↦ let bad = number_itself t in absurd (let here = subst (λ k. (t == k) ≡ false) same apart.0 in cc)
      | inr here ↦ absurd (let ended = ap (λ (n : TagNote). n.ended) here.1 in cc)
    ]

-- ---- notes that keep their changes

pub record CalmBack (tags : Notes) (tag : ℕ) (new : TagNote) : Type 0 where
  pub note : TagNote
  pub there : tags tag ≡ Some note
  pub same : SamePlace note new
  pub change_is : new.change ≡ note.change
  pub still_open : new.ended ≡ false → note.ended ≡ false

-- no note is new, and no change
pub record Calm (tags tags' : Notes) : Type 0 where
  pub keeps : Keeps tags tags'
  pub changes : changes_of tags' ≡ changes_of tags
  pub back : (tag : ℕ) (new : TagNote) → tags' tag ≡ Some new → CalmBack tags tag new

pub calm_same : (tags : Notes) → Calm tags tags
calm_same tags = record {
  keeps = keeps_same tags;
  changes = refl;
  back = λ tag new is. record { note = new; there = is; same = record { actor = refl; zone = refl; key = refl; name = refl; deadline = refl }; change_is = refl; still_open = λ e. e };
}

pub calm_ended : (tags : Notes) (t : ℕ) → Calm tags (put tags t (ended_note (tags t)))
calm_ended tags t = record {
  keeps = keeps_turned ended_note over_of ending tags t;
  changes = ended_changes tags t;
  back = λ tag new is. back tag new (turned_back ended_note over_of ending tags t tag new is);
} where
  back : (tag : ℕ) (new : TagNote) → Back ended_note over_of ending tags t tag new → CalmBack tags tag new
  back tag new b =
      elim b.how [
        | inl apart ↦ record {
          note = b.note;
          there = b.there;
          same = subst (λ n. SamePlace b.note n) (sym apart.1) (record { actor = refl; zone = refl; key = refl; name = refl; deadline = refl });
          change_is = ap (λ (n : TagNote). n.change) apart.1;
          still_open = λ e. ap (λ (n : TagNote). n.ended) (sym apart.1) ∙ e;
        }
        | inr here ↦ record {
          note = b.note;
          there = b.there;
          same = subst (λ n. SamePlace b.note n) (sym here.1) (record { actor = refl; zone = refl; key = refl; name = refl; deadline = refl });
          change_is = ap (λ (n : TagNote). n.change) here.1;
          still_open = λ e. absurd (let ended = ap (λ (n : TagNote). n.ended) here.1 in cc);
        }
      ]

-- what holds at the place of a note holds at that of the other
pub at_place : (P : ℕ → Key → List ℕ → Type 0) (old new : TagNote) → SamePlace old new → P old.zone old.key old.name → P new.zone new.key new.name
at_place P old new same here =
    subst (λ z. P z new.key new.name) (sym same.zone) (subst (λ k. P old.zone k new.name) (sym same.key) (subst (λ n. P old.zone old.key n) (sym same.name) here))

-- the change of a note that is still there
pub change_stays : (tags tags' : Notes) → changes_of tags' ≡ changes_of tags → (tag : ℕ) (old new : TagNote) → tags tag ≡ Some old → tags' tag ≡ Some new → new.change ≡ old.change
change_stays tags tags' same tag old new was is =
    sym (ap change_in is) ∙ ap (λ f. f tag) same ∙ ap change_in was
