-- Waiting, once and again.
use Rattle.std.proofs.Common.{◌≡◌, ◌≢◌, List, [], ◌++◌, refl, sym, ap, ◌∙◌, subst, append_assoc}
use Rattle.std.proofs.lemmas.List.{append-nil}
use Rattle.realm_door.specs.Steps.{Grows, IsSame, actor_of_pass}
use Rattle.realm_door.proofs.Others.{same_both}
use Rattle.realm_model.specs.Doors.{DoorView, actor_at}
use Rattle.realm_model.specs.Phases.{ActorId}
use Rattle.realm_model.specs.Settings.{SettingsView}
use Rattle.realm_model.specs.declared.event.Event.{Event}
use Rattle.realm_door.specs.Waiting.{Waited, waiting_at}

pub waits_meanwhile : (settings : SettingsView) (d e waiting : DoorView) → Grows settings d e → waiting.pass ≡ d.pass → waiting.count ≢ d.count → waiting.seen ≡ d.seen → Waited settings waiting (waiting_at waiting e)
waits_meanwhile settings d e waiting grows pass apart seen =
    let same : IsSame settings d.seen e.seen (actor_of_pass waiting.pass waiting.count) = subst (λ p. IsSame settings d.seen e.seen (actor_of_pass p waiting.count)) (sym pass) (grows.rest waiting.count apart) in
    record {
      pass = refl;
      count = refl;
      used = refl;
      front = record { later = grows.more; is_front = grows.grows ∙ ap (λ (h : List Event). h ++ grows.more) (sym seen) };
      same = subst (λ h. IsSame settings h e.seen (actor_at waiting)) (sym seen) same;
    }

pub waits_none : (settings : SettingsView) (d : DoorView) → Waited settings d d
waits_none settings d = record { pass = refl; count = refl; used = refl; front = record { later = []; is_front = sym (append-nil d.seen) }; same = record { events = refl; doings = refl } }

pub waits_both : (settings : SettingsView) (d e f : DoorView) → Waited settings d e → Waited settings e f → Waited settings d f
waits_both settings d e f one two =
    let pass = one.pass in
    let count = one.count in
    let who : actor_at e ≡ actor_at d = λ i. record { pass = pass i; count = count i } in
    record {
      pass = two.pass ∙ one.pass;
      count = two.count ∙ one.count;
      used = two.used ∙ one.used;
      front = record {
        later = one.front.later ++ two.front.later;
        is_front = two.front.is_front ∙ (ap (λ (h : List Event). h ++ two.front.later) one.front.is_front ∙ append_assoc d.seen one.front.later two.front.later);
      };
      same = same_both settings d.seen e.seen f.seen (actor_at d) one.same (subst (λ (a : ActorId). IsSame settings e.seen f.seen a) who two.same);
    }
