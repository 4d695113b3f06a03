-- A bucket map changes by an own change of a head, in its time, alone.
use Rattle.std.proofs.Common.{◌≡◌, ℕ, ◌<◌, ◌==◌, true, false, cond, List, [], ◌∷◌, ◌++◌, Option, Some, None, refl, ap, subst, arith}
use Rattle.std.specs.Prelude.{nat_le}
use Rattle.std.proofs.lemmas.Bool.Decides.{nat_tests}
use Rattle.object_words.specs.declared.entry.Guard.{Guard}
use Rattle.object_words.specs.declared.head.Conditions.{Conditions}
use Rattle.object_words.specs.declared.head.NewHead.{NewHead}
use Rattle.object_words.specs.declared.head.SeenSlot.{SeenSlot}
use Rattle.object_words.specs.declared.head.SeenSlot.TheVariants.{Live}
use Rattle.object_words.specs.declared.why.Why.{Why}
use Rattle.object_words.specs.declared.why.Why.TheVariants.{Expired}
use Rattle.object_words.specs.Heads.{Head}
use Rattle.object_words.specs.HeadCalls.{guard_refusal, write_refusal, stamp_next, change_of}
use Rattle.object_words.specs.Keys.{put, head_key}
use Rattle.object_words.specs.Names.{Named, with_name}
use Rattle.object_words.specs.Refusals.{first_refusal, unless_refused}
use Rattle.realm_model.specs.Maps.{Maps, mapped, mapped_by}
use Rattle.realm_model.specs.Allowed.{meets_need}
use Rattle.realm_model.specs.Phases.{Phase}
use Rattle.realm_model.specs.Settings.{SettingsView}
use Rattle.realm_model.specs.States.{State, number_next}
use Rattle.realm_model.specs.Steps.{reply_or, reply_of}
use Rattle.realm_model.specs.declared.op.Op.{Op}
use Rattle.realm_model.specs.declared.op.Op.TheVariants.{HeadWrite}
use Rattle.realm_model.specs.declared.event.Event.{Event}
use Rattle.realm_model.specs.declared.event.Reply.{Reply}
use Rattle.realm_model.specs.declared.event.Reply.TheVariants.{Changed}
use Rattle.realm_model.proofs.ObjectLemmas.{number_same}

not_expired : (guard : Guard) (clock : ℕ) (rest : Option Why) → first_refusal (guard_refusal guard clock) rest ≡ None → clock < guard.deadline
not_expired guard clock rest is =
    elim (nat_le guard.deadline clock) as (λ b. nat_le guard.deadline clock ≡ b → first_refusal (cond b (Some (Expired guard.deadline clock)) None) rest ≡ None → clock < guard.deadline) [
      | true ↦ λ due bad. absurd cc
      | false ↦ λ late ok. grind (arith, nat_tests, late)
    ] refl is

-- no head of the container is changed in the zone by an operation that may come now
abbrev pub NoneWrites : SettingsView → Phase → ℕ → ℕ → ℕ → Type 0
NoneWrites settings p zone container clock = (name : List ℕ) (guard : Guard) (new : NewHead) (when : Conditions) → clock < guard.deadline → meets_need settings p (HeadWrite zone container name guard new when) ≡ true → ⊥

-- so its map stays
pub map_stays : (settings : SettingsView) (p : Phase) (zone container : ℕ) (st : State) (maps : Maps) (op : Op) (reply : Reply) → NoneWrites settings p zone container st.clock → meets_need settings p op ≡ true → reply ≡ reply_of settings st op → mapped maps op reply zone container ≡ maps zone container
map_stays settings p zone container st maps (HeadWrite z c name guard new when) (Changed change) none may answer =
    elim (z == zone) as (λ b. (z == zone) ≡ b → cond b (put (maps z) c left) (maps zone) container ≡ maps zone container) [
      | false ↦ λ other. refl
      | true ↦ λ in_zone.
          elim (c == container) as (λ b. (c == container) ≡ b → cond b left (maps z container) ≡ maps zone container) [
            | false ↦ λ other. ap (λ y. maps y container) (number_same z zone in_zone)
            | true ↦ λ of_row.
                let here = subst (λ d. meets_need settings p (HeadWrite zone d name guard new when) ≡ true) (number_same c container of_row) (subst (λ y. meets_need settings p (HeadWrite y c name guard new when) ≡ true) (number_same z zone in_zone) may) in
                absurd (none name guard new when (not_expired guard st.clock _ (changed (write_refusal head guard new when st.clock (st.free z) settings.frame) answer)) here)
          ] refl
    ] refl
  where
    left : Named SeenSlot
    left = with_name (maps z c) name (Live new change.stamp)

    head : Head
    head = st.heads z (head_key c name)

    after_it : Head
    after_it = record { version = number_next st; slot = Live new (stamp_next head z st.clock) }

    changed : (r : Option Why) → Changed change ≡ reply_or (Changed (change_of head (unless_refused r head after_it))) r → r ≡ None
    changed None told = refl
    changed (Some why) told = absurd cc
map_stays settings p zone container st maps op reply none may answer = refl

pub mapped_by-append : (maps : Maps) (xs ys : List Event) → mapped_by maps (xs ++ ys) ≡ mapped_by (mapped_by maps xs) ys
mapped_by-append maps [] ys = refl
mapped_by-append maps (x ∷ xs) ys = mapped_by-append (mapped maps x.op x.reply) xs ys
