-- Events of one actor, and what they leave of it and of the others.
use Rattle.std.proofs.Common.{◌≡◌, ◌≢◌, inl, inr, ℕ, ◌+◌, ◌<◌, ◌||◌, Bool, true, false, List, [], ◌∷◌, ◌++◌, length, refl, sym, ap, ◌∙◌, subst, arith}
use Rattle.std.specs.List.{AllByRecursion}
use Rattle.std.proofs.lemmas.List.{append-nil}
use Rattle.std.proofs.lemmas.List.Folds.{list_any-append}
use Rattle.realm_core.specs.Realms.{RealmView}
use Rattle.realm_core.specs.Solo.{NoneLater, door_of}
use Rattle.realm_model.specs.Doors.{DoorView, actor_at, IsSeen, NoneByPass}
use Rattle.realm_model.specs.Histories.{Legal}
use Rattle.realm_model.specs.Owns.{NoneBy}
use Rattle.realm_model.specs.Phases.{ActorId}
use Rattle.realm_model.specs.Settings.{SettingsView}
use Rattle.realm_model.specs.Worlds.{actor_of, same_actor}
use Rattle.realm_model.specs.declared.actor.Actor.{Actor}
use Rattle.realm_model.specs.declared.event.Event.{Event}
use Rattle.realm_model.proofs.ObjectLemmas.{actor_itself}
use Rattle.realm_model.proofs.Others.{phase-others, account-others}
use Rattle.realm_door.specs.Steps.{Grows, IsSame, actor_of_pass}
use Rattle.realm_door.proofs.Others.{none_by, same_other_pass}
use Rattle.call_service.specs.Serving.{IsNew}
use Rattle.script_player.specs.Going.{ActsAlone, GoesUpTo, HasGone}
use Rattle.script_player.specs.Plays.{asked, fits, IsPlaying, StandsAs, ComesSoFar}
use Rattle.script_player.specs.declared.player.Gone.{Gone}
use Rattle.script_player.specs.declared.player.Gone.TheVariants.{Short, Ended}
use Rattle.script_player.specs.declared.player.Player.{Player}
use Rattle.rgw_script.specs.Scenes.{actor_in, has_acted, view_of}
use Rattle.rgw_script.specs.Stages.{door_to, AreByFirsts, AreBelow, IsOpen, StandsIn, HasBrokenOff, StandsAfter}
use Rattle.rgw_script.specs.declared.active.Active.{Active}

-- ---- lists of events

pub all_both : (P : Event → Type 0) (xs ys : List Event) → AllByRecursion P xs → AllByRecursion P ys → AllByRecursion P (xs ++ ys)
all_both P [] ys p q = q
all_both P (x ∷ xs) ys p q = (p.0, all_both P xs ys p.1 q)

pub all_so : (P Q : Event → Type 0) → ((e : Event) → P e → Q e) → (xs : List Event) → AllByRecursion P xs → AllByRecursion Q xs
all_so P Q so [] p = tt
all_so P Q so (x ∷ xs) p = (so x p.0, all_so P Q so xs p.1)

-- each of the events is by this actor, at this moment
abbrev pub AreOwn : ActorId → ℕ → List Event → Type 0
AreOwn actor moment events = AllByRecursion (λ e. (actor_of e ≡ actor) × (e.moment ≡ moment)) events

pub own_firsts : (pass moment : ℕ) (more : List Event) → AreOwn (actor_in pass) moment more → AreByFirsts more
own_firsts pass moment more own = all_so _ _ (λ e is. ap (λ (a : ActorId). a.count) is.0) more own

pub own_below : (pass moment next : ℕ) (more : List Event) → pass < next → AreOwn (actor_in pass) moment more → AreBelow next more
own_below pass moment next more low own = all_so _ _ (λ e is. let same : e.pass ≡ pass = ap (λ (a : ActorId). a.pass) is.0 in omega (arith, same, low)) more own

own_others : (pass other moment : ℕ) (more : List Event) → other ≢ pass → AreOwn (actor_in pass) moment more → NoneByPass other more
own_others pass other moment more apart own = all_so _ _ (λ e is same. apart (sym same ∙ ap (λ (a : ActorId). a.pass) is.0)) more own

below_others : (next : ℕ) (history : List Event) → AreBelow next history → NoneByPass next history
below_others next history below = all_so _ _ (λ e low same. omega (arith, low, same)) history below

pub raised_below : (next : ℕ) (history : List Event) → AreBelow next history → AreBelow (next + 1) history
raised_below next history below = all_so _ _ (λ e low. omega (arith, low)) history below

pub none_later : (pass : ℕ) (used : Bool) (history : List Event) → AreByFirsts history → NoneLater (record { pass = pass; count = 0; used = used }) history
none_later pass used history firsts = all_so _ _ (λ e first same. omega (arith, first)) history firsts

-- ---- whether an actor made an event

not_acted : (pass : ℕ) (events : List Event) → NoneBy (actor_in pass) events → has_acted pass events ≡ false
not_acted pass [] none = refl
not_acted pass (e ∷ es) none = rw none.0 (not_acted pass es none.1)

pub acted_later : (pass : ℕ) (history more : List Event) → NoneByPass pass more → has_acted pass (history ++ more) ≡ has_acted pass history
acted_later pass history more none =
    list_any-append (λ e. same_actor (actor_in pass) (actor_of e)) history more
    ∙ ap (λ b. has_acted pass history || b) (not_acted pass more (none_by pass 0 more none)) ∙ or_false (has_acted pass history) where
      or_false : (b : Bool) → (b || false) ≡ b
      or_false true = refl
      or_false false = refl

or_true : (b : Bool) → (b || true) ≡ true
or_true true = refl
or_true false = refl

own_acted : (pass moment : ℕ) (history more : List Event) → length history < length (history ++ more) → AreOwn (actor_in pass) moment more → has_acted pass (history ++ more) ≡ true
own_acted pass moment history [] longer own = let same : length (history ++ []) ≡ length history = ap length (append-nil history) in absurd (omega (arith, longer, same))
own_acted pass moment history (e ∷ es) longer own =
    let is : same_actor (actor_in pass) (actor_of e) ≡ true = ap (same_actor (actor_in pass)) own.0.0 ∙ actor_itself (actor_in pass) in
    list_any-append (λ (x : Event). same_actor (actor_in pass) (actor_of x)) history (e ∷ es)
    ∙ ap (λ b. has_acted pass history || (b || has_acted pass es)) is
    ∙ or_true (has_acted pass history)

-- ---- an actor that made no event

pub new_view : (settings : SettingsView) (pass : ℕ) (used : Bool) (history : List Event) → Legal settings history → AreBelow pass history
    → IsNew settings (record { pass = pass; count = 0; used = used; seen = history })
new_view settings pass used history legal below =
    let none = none_by pass 0 history (below_others pass history below) in
    record {
      legal = legal;
      account = account-others settings [] history (actor_in pass) none;
      phase = phase-others settings [] history (actor_in pass) none;
      events = (same_other_pass settings [] history pass 0 (below_others pass history below)).events;
    }

pub new_stands : (settings : SettingsView) (pass : ℕ) (player : Player) (realm : RealmView)
    → ((d : DoorView) → IsNew settings d → fits player settings d) → IsPlaying player
    → IsOpen settings realm → AreBelow pass realm.history
    → StandsIn settings realm.history (record { pass = pass; used = false; player = player })
new_stands settings pass player realm stands playing is_open below = record {
  used = sym (not_acted pass realm.history (none_by pass 0 realm.history (below_others pass realm.history below)));
  stands = stands _ (new_view settings pass false realm.history is_open.legal below);
  playing = playing;
}

-- ---- an actor that went on

module _ (settings : SettingsView) (moment count : ℕ) (d e : DoorView) (first : d.count ≡ 0) (acts : ActsAlone moment count d e) where
  own_there : AreOwn (actor_in d.pass) moment acts.more
  own_there = subst (λ n. AreOwn (actor_of_pass d.pass n) moment acts.more) first acts.own

  pub firsts_after : AreByFirsts d.seen → AreByFirsts e.seen
  firsts_after firsts = subst AreByFirsts (sym acts.grows) (all_both _ d.seen acts.more firsts (own_firsts d.pass moment acts.more own_there))

  pub used_after : Grows settings d e → d.used ≡ has_acted d.pass d.seen → e.used ≡ has_acted d.pass e.seen
  used_after grows used =
      elim grows.later [
        | inl later ↦ later.used ∙ sym (ap (has_acted d.pass) acts.grows
            ∙ own_acted d.pass moment d.seen acts.more (subst (λ l. length d.seen < length l) acts.grows later.longer) own_there)
        | inr same ↦ ap (λ (v : DoorView). v.used) same ∙ used ∙ sym (ap (λ (v : DoorView). has_acted d.pass v.seen) same)
      ]

  pub others_stand : ((p : Player) (x y : DoorView) → y.pass ≡ x.pass → y.count ≡ x.count → IsSeen x.seen y.seen → Legal settings y.seen → IsSame settings x.seen y.seen (actor_at x) → fits p settings x → fits p settings y)
      → Legal settings e.seen → (b : Active) → b.pass ≢ d.pass → StandsIn settings d.seen b → StandsIn settings e.seen b
  others_stand keeps legal b apart stood =
      let none : NoneByPass b.pass acts.more = own_others d.pass b.pass moment acts.more apart own_there in
      record {
        used = stood.used ∙ sym (ap (has_acted b.pass) acts.grows ∙ acted_later b.pass d.seen acts.more none);
        stands = keeps b.player (door_to b d.seen) (door_to b e.seen) refl refl (record { later = acts.more; is_front = acts.grows }) legal
            (subst (λ l. IsSame settings d.seen l (actor_in b.pass)) (sym acts.grows) (same_other_pass settings d.seen acts.more b.pass 0 none)) stood.stands;
        playing = stood.playing;
      }

-- the events are still by passes below that
pub acted_below : (moment count pass next : ℕ) (history later : List Event) → pass < next → ActsAlone moment count (view_of pass history) (view_of pass later) → AreBelow next history → AreBelow next later
acted_below moment count pass next history later low acts below =
    subst (AreBelow next) (sym acts.grows) (all_both _ history acts.more below (own_below pass moment next acts.more low acts.own))

-- ---- an actor that went on through a door

-- all that were wanted are at most so many
pub went : (gone : Gone) (settings : SettingsView) (moment most : ℕ) (d e : DoorView) → HasGone gone (Unit {0}) settings moment most d e → GoesUpTo (Unit {0}) settings moment most d e
went Short settings moment most d e goes = (most, omega arith, goes)
went Ended settings moment most d e goes = goes

module _ (self : Active) (r0 r1 r2 : RealmView) (a1 a2 : Actor) (moment most : ℕ) (from : r1 ≡ r0) (by : a1 ≡ record { pass = self.pass; count = 0; used = self.used })
    (same : r2.settings ≡ r1.settings) (goes : GoesUpTo (Unit {0}) r1.settings moment most (door_of r1 a1) (door_of r2 a2)) where
  first : a1.count ≡ 0
  first = ap (λ (a : Actor). a.count) by

  alone : ActsAlone moment goes.0 (door_of r1 a1) (door_of r2 a2)
  alone = goes.2.only tt

  legal : Legal r0.settings r2.history
  legal = subst (λ (r : RealmView). Legal r.settings r2.history) from goes.2.legal

  pub act_open : (r3 : RealmView) → r2 ≡ r3 → IsOpen r0.settings r0 → IsOpen r0.settings r3
  act_open r3 left is_open = subst (IsOpen r0.settings) left (record {
    settings_are = same ∙ ap (λ (r : RealmView). r.settings) from;
    legal = legal;
    firsts = firsts_after r0.settings moment goes.0 (door_of r1 a1) (door_of r2 a2) first alone (subst (λ (r : RealmView). AreByFirsts r.history) (sym from) is_open.firsts);
  })

  pub act_others : (h : List Event) → r2.history ≡ h
      → ((s : SettingsView) (p : Player) (x y : DoorView) → y.pass ≡ x.pass → y.count ≡ x.count → IsSeen x.seen y.seen → Legal s y.seen → IsSame s x.seen y.seen (actor_at x) → fits p s x → fits p s y)
      → (b : Active) → b.pass ≢ self.pass → StandsIn r0.settings r0.history b → StandsIn r0.settings h b
  act_others h left keeps b apart stood =
      let other : b.pass ≢ a1.pass = λ is. apart (is ∙ ap (λ (a : Actor). a.pass) by) in
      subst (λ (l : List Event). StandsIn r0.settings l b) left
      (others_stand r0.settings moment goes.0 (door_of r1 a1) (door_of r2 a2) first alone (keeps r0.settings) legal b other
      (subst (λ (r : RealmView). StandsIn r0.settings r.history b) (sym from) stood))

  told_as : door_of r2 a2 ≡ door_to (record { pass = self.pass; used = a2.used; player = self.player }) r2.history
  told_as = λ i. record {
    pass = (goes.2.grows.pass ∙ ap (λ (a : Actor). a.pass) by) i;
    count = (goes.2.grows.count ∙ first) i;
    used = a2.used;
    seen = r2.history;
  }

  used_now : self.used ≡ has_acted self.pass r0.history → a2.used ≡ has_acted self.pass r2.history
  used_now used =
      let before : a1.used ≡ has_acted a1.pass r1.history =
      ap (λ (a : Actor). a.used) by ∙ used ∙ sym (λ i. has_acted ((ap (λ (a : Actor). a.pass) by) i) ((ap (λ (r : RealmView). r.history) from) i)) in
      used_after r1.settings moment goes.0 (door_of r1 a1) (door_of r2 a2) first alone goes.2.grows before
      ∙ ap (λ (a : Actor). has_acted a.pass r2.history) by

  pub act_broken : (h : List Event) → r2.history ≡ h → ComesSoFar (asked self.player) r1.settings (door_of r2 a2) → self.used ≡ has_acted self.pass r0.history → HasBrokenOff r0.settings h self
  act_broken h left so_far used =
      let seen : door_of r2 a2 ≡ view_of self.pass r2.history = told_as ∙ (λ i. record { pass = self.pass; count = 0; used = used_now used i; seen = r2.history }) in
      subst (λ (l : List Event). HasBrokenOff r0.settings l self) left
      (subst (ComesSoFar (asked self.player) r0.settings) seen (subst (λ (r : RealmView). ComesSoFar (asked self.player) r.settings (door_of r2 a2)) from so_far))

  pub act_stands : (h : List Event) → r2.history ≡ h → (gone : Gone) (player : Player) → fits player r1.settings (door_of r2 a2) → StandsAs gone player
      → self.used ≡ has_acted self.pass r0.history
      → StandsAfter gone r0.settings h (record { pass = self.pass; used = a2.used; player = player })
  act_stands h left gone player stands its used =
      let there : fits player r0.settings (door_to (record { pass = self.pass; used = a2.used; player = player }) r2.history) =
      subst (fits player r0.settings) told_as (subst (λ (r : RealmView). fits player r.settings (door_of r2 a2)) from stands) in
      subst (λ (l : List Event). StandsAfter gone r0.settings l (record { pass = self.pass; used = a2.used; player = player })) left (of gone there its used) where
        of : (gone : Gone) → fits player r0.settings (door_to (record { pass = self.pass; used = a2.used; player = player }) r2.history) → StandsAs gone player
            → self.used ≡ has_acted self.pass r0.history
            → StandsAfter gone r0.settings r2.history (record { pass = self.pass; used = a2.used; player = player })
        of Short there its used = record { used = used_now used; stands = there; playing = its }
        of Ended there its used = record { used = used_now used; stands = there; ended = its }
