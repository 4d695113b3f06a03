-- A realm of its own: a container is made, where the words name one, and then the connection is served.
use Rattle.std.proofs.Common.{◌≡◌, ℕ, ◌+◌, ◌^◌, ⊎_elim, true, List, [], ◌∷◌, ◌++◌, length, Option, None, Some, Result, Ok, Err, sym, refl, ap, ◌∙◌, subst}
use Rattle.std.specs.Io.KnownBytes.{Appends}
use Rattle.gw_io.specs.Ends.{EndsState}
use Rattle.object_words.proofs.NameLemmas.{at-none}
use Rattle.realm_core.specs.Realms.{RealmView}
use Rattle.realm_model.specs.Settings.{SettingsView}
use Rattle.realm_model.specs.Doors.{DoorView, actor_at}
use Rattle.realm_door.specs.Steps.{Grows, IsLater}
use Rattle.swift_auth.specs.Users.{UserView}
use Rattle.container_preset.specs.Presets.{preset, row_now, Stops}
use Rattle.turn_cell.specs.declared.machine.DoorFault.{DoorFault}
use Rattle.turn_cell.specs.declared.machine.DoorFault.TheVariants as Door
use Rattle.call_service.specs.declared.fault.ServeFault.{ServeFault}
use Rattle.gateway.specs.declared.serve.Served.{Served}
use Rattle.rgw_run.specs.declared.once_end.OnceEnd.{OnceEnd}
use Rattle.rgw_run.specs.declared.once_end.OnceEnd.TheVariants.{Unbegun}
use Rattle.rgw_run.specs.Preparing.{HasPrepared, StopsPreparing}
use Rattle.rgw_run.specs.Runs.{owner_in, realm_of, door_at, first_door, making, Prepares, end_of, LeavesServed, Leaves}

-- ---- the container

module _ (settings : SettingsView) (users : List UserView) (first : DoorView) (begins : first ≡ first_door) where
  -- the container was made: where the door stands then
  behind : (bucket : List ℕ) (moment : ℕ) (e : DoorView) → Grows settings first_door e → e.seen ≡ making settings users bucket moment → e ≡ door_at true (making settings users bucket moment)
  behind bucket moment e grows seen = ⊎_elim
      (λ (later : IsLater first_door e). λ i. record { pass = grows.pass i; count = grows.count i; used = later.used i; seen = seen i })
      (λ (same : e ≡ first_door). let clash : making settings users bucket moment ≡ [] = sym seen ∙ ap (λ (x : DoorView). x.seen) same in absurd (cc))
      grows.later

  pub prepares_so : (bucket : Option (List ℕ)) (owner : List ℕ) (e : DoorView) (told told' : Option (List ℕ)) → owner ≡ owner_in users → HasPrepared (Unit {0}) (Unit {0}) settings bucket owner first e told told'
      → (moments : List ℕ) × Prepares settings users bucket moments e × Appends told told' moments
  prepares_so None owner e told told' own (same, quiet) = ([], (refl, same ∙ begins), quiet)
  prepares_so (Some bucket) owner e told told' own (moment, asked, grows, made) =
      let grown : Grows settings first_door e = subst (λ f. Grows settings f e) begins (grows tt) in
      let seen : e.seen ≡ making settings users bucket moment =
      subst (λ o. row_now settings [] bucket ≡ None → e.seen ≡ preset settings (actor_at first_door) bucket o 1 moment) own
      (subst (λ (f : DoorView). row_now settings f.seen bucket ≡ None → e.seen ≡ f.seen ++ preset settings (actor_at f) bucket owner (length f.seen + 1) moment) begins (made tt tt)) (at-none bucket) in
      (moment ∷ [], (moment, refl, behind bucket moment e grown seen), asked)

  -- it was not made
  pub unbegun_so : (bucket : Option (List ℕ)) (e : DoorView) (fault : DoorFault) (old new : EndsState) (realm : Option RealmView) → StopsPreparing (Unit {0}) (Unit {0}) settings bucket first e old.told new.told
      → new ≡ record old { told = new.told } → realm ≡ Some (realm_of settings e.seen) → (fault ≡ Door.Worn → length e.seen ≡ 2 ^ 62) → Leaves settings users bucket old new realm (Unbegun fault)
  unbegun_so None e fault old new realm stops other left worn = absurd stops
  unbegun_so (Some bucket) e fault old new realm (moment, asked, stops) other left worn = record {
    moment = moment;
    tells = record { told = asked; other = other };
    door = e;
    left = left;
    stops = subst (λ f. Stops settings (Unit {0}) f e bucket moment) begins (stops tt);
    worn = worn;
  }

-- ---- the connection

module _ (settings : SettingsView) (users : List UserView) (bucket : Option (List ℕ)) (old new : EndsState) (realm : Option RealmView) where
  leaves_by : (result : Result Served ServeFault) → LeavesServed settings users bucket old new realm result → Leaves settings users bucket old new realm (end_of result)
  leaves_by (Ok served) leaves = leaves
  leaves_by (Err fault) leaves = leaves

  -- whatever the connection came to
  pub leaves_so : (result : Result Served ServeFault) (end : OnceEnd) → end ≡ end_of result → LeavesServed settings users bucket old new realm result → Leaves settings users bucket old new realm end
  leaves_so result end is leaves = subst (λ e. Leaves settings users bucket old new realm e) (sym is) (leaves_by result leaves)
