-- The container that is made before the lines.
use Rattle.std.proofs.Common.{◌≡◌, ◌⊎◌, inl, inr, ⊎_elim, ℕ, zero, suc, ◌+◌, ◌^◌, false, List, ◌++◌, length, Option, None, Some, Result, Ok, Err, OnOk, IfErr, refl, sym, ap, ◌∙◌, subst, arith}
use Rattle.std.specs.List.{AllByRecursion}
use Rattle.object_words.proofs.NameLemmas.{at-none}
use Rattle.container_preset.specs.Presets.{preset, makes, event_by, row_now, Stops, StopsAfter}
use Rattle.realm_core.specs.Realms.{RealmView, new_realm}
use Rattle.realm_core.specs.Solo.{door_of}
use Rattle.realm_model.specs.Doors.{DoorView, actor_at}
use Rattle.realm_model.specs.Histories.{Legal}
use Rattle.realm_model.specs.Phases.{ActorId}
use Rattle.realm_model.specs.Settings.{SettingsView}
use Rattle.realm_model.specs.declared.actor.Actor.{Actor}
use Rattle.realm_model.specs.declared.event.Event.{Event}
use Rattle.realm_model.specs.declared.event.Reply.{Reply}
use Rattle.realm_model.specs.declared.op.Op.{Op}
use Rattle.swift_auth.specs.Users.{UserView, account_of}
use Rattle.turn_cell.specs.declared.machine.DoorFault.{DoorFault}
use Rattle.turn_cell.specs.declared.machine.DoorFault.TheVariants as doors
use Rattle.rgw_script.specs.Faults.{door_fault}
use Rattle.rgw_script.specs.Casts.{under}
use Rattle.rgw_script.specs.Runs.{first_door, first_user, made, opening, Unmade, IsUnmade, RunsLines, RunsScript, HasScriptCause}
use Rattle.rgw_script.specs.Scenes.{Scene}
use Rattle.rgw_script.specs.Stages.{AreByFirsts, AreBelow, IsOpen, Holds, part_of, scene_of}
use Rattle.rgw_script.specs.declared.cast.Cast.{Cast}
use Rattle.rgw_script.specs.declared.fault.ScriptFault.{ScriptFault}
use Rattle.rgw_script.specs.declared.fault.ScriptFault.TheVariants.{OutOfMemory, ReadFault, WriteFault, Worn}
use Rattle.rgw_script.specs.declared.running.ScriptPlan.{ScriptPlan}
use Rattle.rgw_script.proofs.Acting.{all_both}

-- ---- whose events make it

module _ (P : Event → Type 0) (actor : ActorId) (moment : ℕ) (each : (op : Op) (reply : Reply) → P (event_by actor op moment reply)) where
  by_makes : (id count : ℕ) → AllByRecursion P (makes actor id moment count)
  by_makes id zero = tt
  by_makes id (suc n) = all_both P (makes actor id moment n) _ (by_makes id n) (each _ _, tt)

  pub by_preset : (settings : SettingsView) (name owner : List ℕ) (id : ℕ) → AllByRecursion P (preset settings actor name owner id moment)
  by_preset settings name owner id = (each _ _, all_both P (makes actor id moment settings.shards) _ (by_makes id settings.shards) (each _ _, tt))

by_stopped : (P : Event → Type 0) (settings : SettingsView) (name : List ℕ) (moment : ℕ) (e : DoorView) → ((op : Op) (reply : Reply) → P (event_by (actor_at first_door) op moment reply))
    → Stops settings (Unit {0}) first_door e name moment → AllByRecursion P e.seen
by_stopped P settings name moment e each stops = ⊎_elim
    (λ (same : e ≡ first_door). subst (AllByRecursion P) (sym (ap (λ (d : DoorView). d.seen) same)) tt)
    (λ (after : StopsAfter settings (Unit {0}) first_door e name moment).
    subst (AllByRecursion P) (sym (after.only tt)) (each _ _, by_makes P (actor_at first_door) moment each 1 after.made))
    stops

-- ---- through a door

module _ (settings : SettingsView) (r0 r1 r2 : RealmView) (a1 a2 : Actor) (bucket : List ℕ) (moment : ℕ) (from : r1 ≡ r0) (is_new : r0 ≡ new_realm settings)
    (by : a1 ≡ record { pass = 1; count = 0; used = false }) where
  starts : door_of r1 a1 ≡ first_door
  starts = λ i. door_of ((from ∙ is_new) i) (by i)

  -- it was made
  pub made_so : (user : UserView) (owner : List ℕ) → owner ≡ account_of user
      → (row_now settings r1.history bucket ≡ None → r2.history ≡ r1.history ++ preset settings (actor_at (door_of r1 a1)) bucket owner (length r1.history + 1) moment)
      → (h : List Event) → r2.history ≡ h → h ≡ made settings user (Some bucket) moment
  made_so user owner own events h left =
      sym left
      ∙ subst (λ (d : DoorView). row_now settings d.seen bucket ≡ None → r2.history ≡ d.seen ++ preset settings (actor_at d) bucket owner (length d.seen + 1) moment) starts events (at-none bucket)
      ∙ ap (λ o. preset settings (actor_at first_door) bucket o 1 moment) own

  pub made_below : (user : UserView) (h : List Event) → h ≡ made settings user (Some bucket) moment → AreBelow 2 h
  made_below user h is = subst (AreBelow 2) (sym is) (by_preset _ (actor_at first_door) moment (λ op reply. omega arith) settings bucket (account_of user) 1)

  pub made_open : (user : UserView) (r3 : RealmView) → r2 ≡ r3 → r3.history ≡ made settings user (Some bucket) moment → r2.settings ≡ r1.settings → Legal settings r2.history → IsOpen settings r3
  made_open user r3 left is same legal = record {
    settings_are = ap (λ (r : RealmView). r.settings) (sym left) ∙ same ∙ ap (λ (r : RealmView). r.settings) (from ∙ is_new);
    legal = subst (λ (r : RealmView). Legal settings r.history) left legal;
    firsts = subst AreByFirsts (sym is) (by_preset _ (actor_at first_door) moment (λ op reply. refl) settings bucket (account_of user) 1);
  }

  -- it was not
  pub unmade_stops : Stops settings (Unit {0}) (door_of r1 a1) (door_of r2 a2) bucket moment → Stops settings (Unit {0}) first_door (door_of r2 a2) bucket moment
  unmade_stops stops = subst (λ (d : DoorView). Stops settings (Unit {0}) d (door_of r2 a2) bucket moment) starts stops

  pub unmade_below : Stops settings (Unit {0}) (door_of r1 a1) (door_of r2 a2) bucket moment → (h : List Event) → r2.history ≡ h → AreBelow 2 h
  unmade_below stops h left = subst (AreBelow 2) left (by_stopped _ settings bucket moment (door_of r2 a2) (λ op reply. omega arith) (unmade_stops stops))

  pub unmade_open : Stops settings (Unit {0}) (door_of r1 a1) (door_of r2 a2) bucket moment → (r3 : RealmView) → r2 ≡ r3 → r2.settings ≡ r1.settings → Legal settings r2.history → IsOpen settings r3
  unmade_open stops r3 left same legal = record {
    settings_are = ap (λ (r : RealmView). r.settings) (sym left) ∙ same ∙ ap (λ (r : RealmView). r.settings) (from ∙ is_new);
    legal = subst (λ (r : RealmView). Legal settings r.history) left legal;
    firsts = subst (λ (r : RealmView). AreByFirsts r.history) left (by_stopped _ settings bucket moment (door_of r2 a2) (λ op reply. refl) (unmade_stops stops));
  }

  pub unmade_so : (fault : DoorFault) → Stops settings (Unit {0}) (door_of r1 a1) (door_of r2 a2) bucket moment → (fault ≡ doors.Worn → length r2.history ≡ 2 ^ 62)
      → (h : List Event) → r2.history ≡ h → Unmade settings bucket moment h (door_fault fault)
  unmade_so doors.OutOfMemory stops worn h left = record { door = door_of r2 a2; stops = unmade_stops stops; history_is = sym left; cause = inl refl }
  unmade_so doors.Worn stops worn h left = record { door = door_of r2 a2; stops = unmade_stops stops; history_is = sym left; cause = inr (refl, sym (ap length left) ∙ worn refl) }

-- nothing was made, for want of memory
pub unmade_at_once : (settings : SettingsView) (realm : RealmView) (bucket : List ℕ) (moment : ℕ) → realm ≡ new_realm settings → Unmade settings bucket moment realm.history OutOfMemory
unmade_at_once settings realm bucket moment is = record { door = first_door; stops = inl refl; history_is = ap (λ (r : RealmView). r.history) is; cause = inl refl }

-- a realm without events is open to the lines
pub new_open : (settings : SettingsView) (realm : RealmView) → realm ≡ new_realm settings → IsOpen settings realm
new_open settings realm is = subst (IsOpen settings) (sym is) (record { settings_are = refl; legal = tt; firsts = tt })

pub new_below : (settings : SettingsView) (realm : RealmView) → realm ≡ new_realm settings → AreBelow 2 realm.history
new_below settings realm is = subst (λ (r : RealmView). AreBelow 2 r.history) (sym is) tt

pub unmade_as : (settings : SettingsView) (plan : ScriptPlan) (bucket : List ℕ) (history : List Event) (result : Result (Unit {0}) ScriptFault) → plan.bucket ≡ Some bucket
    → IfErr result (Unmade settings bucket plan.moment history) → IfErr result (IsUnmade settings plan history)
unmade_as settings plan bucket history (Ok done) is unmade = tt
unmade_as settings plan bucket history (Err fault) is unmade = (bucket, is, unmade)

pub made_as : (settings : SettingsView) (plan : ScriptPlan) (user : UserView) (bucket : List ℕ) (history : List Event) (result : Result (Unit {0}) ScriptFault) → user ≡ first_user plan → plan.bucket ≡ Some bucket
    → OnOk result (history ≡ made settings user (Some bucket) plan.moment) → OnOk result (history ≡ made settings (first_user plan) plan.bucket plan.moment)
made_as settings plan user bucket history (Ok done) who is so =
    so ∙ ap (λ u. made settings u (Some bucket) plan.moment) who ∙ ap (λ b. made settings (first_user plan) b plan.moment) (sym is)
made_as settings plan user bucket history (Err fault) who is so = tt

-- what is left where it was not made
pub unbegun : (settings : SettingsView) (plan : ScriptPlan) (left taken : Option (List ℕ)) (history : List Event) (fault : ScriptFault) → IsUnmade settings plan history fault
    → RunsScript settings plan left left taken taken history (Err fault)
unbegun settings plan left taken history fault unmade = inr (fault, refl, record { unmade = unmade; unread = refl; unwritten = refl })

pub unmade_counts : (settings : SettingsView) (plan : ScriptPlan) (history : List Event) (read write : ℕ) (fault : ScriptFault) → IsUnmade settings plan history fault → HasScriptCause read read write write (Err fault)
unmade_counts settings plan history read write fault unmade = record {
  read_rose = λ is. absurd ((neither fault unmade.2.cause).0 (err_is _ _ is));
  read_kept = λ differs. refl;
  write_rose = λ is. absurd ((neither fault unmade.2.cause).1 (err_is _ _ is));
  write_kept = λ differs. refl;
} where
  err_is : (a b : ScriptFault) → ◌≡◌ {A = Result (Unit {0}) ScriptFault} (Err a) (Err b) → a ≡ b
  err_is a b e = cc

  neither : (f : ScriptFault) → ((f ≡ OutOfMemory) ⊎ ((f ≡ Worn) × (length history ≡ 2 ^ 62))) → (f ≡ ReadFault → ⊥) × (f ≡ WriteFault → ⊥)
  neither f cause = elim cause [
    | inl memory ↦ (λ e. let x = sym memory ∙ e in absurd (cc), λ e. let x = sym memory ∙ e in absurd (cc))
    | inr worn ↦ (λ e. let x = sym worn.0 ∙ e in absurd (cc), λ e. let x = sym worn.0 ∙ e in absurd (cc))
  ]

-- ---- the scene before the first line

-- nobody has a name, and the container stands
pub opens : (settings : SettingsView) (plan : ScriptPlan) (cast : Cast) (asker : UserView) (history : List Event) → asker ≡ first_user plan → ((name : List ℕ) → under cast name ≡ None) → history ≡ made settings (first_user plan) plan.bucket plan.moment
    → scene_of (record { moment = plan.moment; next = 2; cast = cast; asker = asker }) history ≡ opening settings plan
opens settings plan cast asker history who none is = λ i. record { moment = plan.moment; user = who i; parts = λ name. part_of (none name i); next = 2; history = is i }

pub opens_holds : (settings : SettingsView) (plan : ScriptPlan) (cast : Cast) (asker : UserView) (realm : RealmView) → ((name : List ℕ) → under cast name ≡ None) → IsOpen settings realm → AreBelow 2 realm.history
    → Holds settings (record { moment = plan.moment; next = 2; cast = cast; asker = asker }) realm
opens_holds settings plan cast asker realm none is_open below = record {
  is_open = is_open;
  below = below;
  standing = record {
    each = λ name a is. let e = sym (none name) ∙ is in absurd (cc);
    begun = λ name a is. let e = sym (none name) ∙ is in absurd (cc);
    apart = λ n m a b is other differ. let e = sym (none n) ∙ is in absurd (cc);
  };
}

pub runs_on : (settings : SettingsView) (plan : ScriptPlan) (s : Scene) (left left' taken taken' : Option (List ℕ)) (history : List Event) (result : Result (Unit {0}) ScriptFault) → s ≡ opening settings plan
    → RunsLines settings s left left' taken taken' history result → RunsScript settings plan left left' taken taken' history result
runs_on settings plan s left left' taken taken' history result is runs = inl (subst (λ (x : Scene). RunsLines settings x left left' taken taken' history result) is runs)
