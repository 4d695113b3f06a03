-- Lines that name an actor, or begin one.
use Rattle.std.proofs.Common.{◌≡◌, ◌≢◌, inl, inr, ℕ, ◌+◌, ◌≤◌, Bool, true, false, List, [], ◌++◌, Option, None, Some, Result, Ok, Err, OnOk, OnErr, IfErr, IfSome, IfNone, refl, sym, ap, ◌∙◌, subst, arith}
use Rattle.std.specs.Prelude.{is_some}
use Rattle.realm_core.specs.Realms.{RealmView}
use Rattle.realm_model.specs.Settings.{SettingsView}
use Rattle.realm_model.specs.declared.event.Event.{Event}
use Rattle.script_words.specs.Replies.{outcome_text, reply_line, named_line, count_line}
use Rattle.script_words.specs.declared.line.Line.{Line}
use Rattle.script_words.specs.declared.line.Line.TheVariants as lines
use Rattle.script_words.specs.declared.line.Verb.{Verb}
use Rattle.script_words.specs.declared.outcome.ActorOutcome.{ActorOutcome}
use Rattle.script_player.specs.Meanings.{Means}
use Rattle.script_player.specs.Plays.{fits}
use Rattle.script_player.specs.Requests.{asker_for}
use Rattle.script_player.specs.declared.player.Gone.{Gone}
use Rattle.script_player.specs.declared.player.Gone.TheVariants.{Short, Ended}
use Rattle.rgw_script.specs.Casts.{under, playing}
use Rattle.rgw_script.specs.Plays.{Acts, Ends, GoesOn, StepsOn, RunsOut, Does, Plays, Misses, LeavesActor, Begins}
use Rattle.rgw_script.specs.Scenes.{Role, plays, asked_of, has_acted, view_of, recast, next_role}
use Rattle.rgw_script.specs.Stages.{role_of, part_of, scene_of, door_to, IsOpen, AreBelow, StandsIn, Holds, HasActed, HasActedSome, HasBrokenOff, HasEnded, StandsAfter, BearsOut, StopsAt, ComesTo}
use Rattle.rgw_script.specs.declared.active.Active.{Active}
use Rattle.rgw_script.specs.declared.cast.Cast.{Cast}
use Rattle.rgw_script.specs.declared.fault.ScriptFault.{ScriptFault}
use Rattle.rgw_script.specs.declared.fault.ScriptFault.TheVariants.{OutOfMemory}
use Rattle.rgw_script.specs.declared.script.Script.{Script}
use Rattle.rgw_script.proofs.Acting.{raised_below, acted_below}
use Rattle.rgw_script.proofs.Holding.{Puts, at_playing, same_standing, raised_standing, left_standing, left_apart, later_standing, put_standing, parts_put, parts_back}

-- ---- results

pub any_err : {T E : Type 0} (r : Result T E) (P : Type 0) → P → OnErr r P
any_err (Ok x) P p = tt
any_err (Err e) P p = p

-- ---- an actor that is taken out

-- the script with another cast
abbrev pub recasted : Script → Cast → Script
recasted script cast = record { moment = script.moment; next = script.next; cast = cast; asker = script.asker }

-- what taking out the actor of a name leaves
pub record Takes (script : Script) (cast : Cast) (name : List ℕ) (r : Option Active) : Type 0 where
  pub who : r ≡ playing (under script.cast name)
  pub gone : IfSome r (λ a. Puts name (Some None) (under script.cast) (under cast))
  pub kept : IfNone r ((q : List ℕ) → under cast q ≡ under script.cast q)

-- who plays under no name
none_plays : (part : Option (Option Active)) (role : Role) → None ≡ playing part → part_of part ≢ plays role
none_plays None role is = λ e. absurd (cc)
none_plays (Some None) role is = λ e. absurd (cc)
none_plays (Some (Some a)) role is = λ e. absurd (cc)

pub misses : (script : Script) (cast : Cast) (name : List ℕ) (r : Option Active) → Takes script cast name r → is_some r ≡ false → (role : Role) → part_of (under script.cast name) ≢ plays role
misses script cast name None takes none role = none_plays (under script.cast name) role takes.who
misses script cast name (Some a) takes none role = absurd (cc)

pub taken_holds : (settings : SettingsView) (script : Script) (cast : Cast) (name : List ℕ) (r : Option Active) (realm : RealmView) → Takes script cast name r → Holds settings script realm → Holds settings (recasted script cast) realm
taken_holds settings script cast name None realm takes holds = record {
  is_open = holds.is_open;
  below = holds.below;
  standing = same_standing settings realm.history script.next (under script.cast) (under cast) takes.kept holds.standing;
}
taken_holds settings script cast name (Some a) realm takes holds = record {
  is_open = holds.is_open;
  below = holds.below;
  standing = left_standing settings realm.history script.next name (under script.cast) (under cast) takes.gone holds.standing;
}

pub stopped : (settings : SettingsView) (script : Script) (cast : Cast) (name : List ℕ) (r : Option Active) (history : List Event) → Takes script cast name r → is_some r ≡ true
    → Plays settings (scene_of script history) (lines.Stop name) (scene_of (recasted script cast) history) []
stopped settings script cast name None history takes some = absurd (cc)
stopped settings script cast name (Some a) history takes some = (
  role_of a,
  ap part_of (at_playing (under script.cast name) a (sym takes.who)),
  (λ i. record { moment = script.moment; user = script.asker; parts = parts_put name (Some None) (under script.cast) (under cast) takes.gone i; next = script.next; history = history }),
  refl,
)

-- ---- an actor that begins

-- the script behind one actor more
abbrev pub raised : Script → Cast → Script
raised script cast = record { moment = script.moment; next = script.next + 1; cast = cast; asker = script.asker }

module _ (settings : SettingsView) (script : Script) (cast : Cast) (name : List ℕ) (a : Active) (zone : ℕ) (verb : Verb)
    (role : role_of a ≡ record { pass = script.next; zone = zone; asker = asker_for script.asker verb; verb = verb }) (by : Puts name (Some (Some a)) (under script.cast) (under cast)) where
  own_pass : a.pass ≡ script.next
  own_pass = ap (λ (r : Role). r.pass) role

  pub started_holds : ((realm : RealmView) → IsOpen settings realm → AreBelow script.next realm.history → StandsIn settings realm.history a)
      → (realm : RealmView) → Holds settings script realm → Holds settings (raised script cast) realm
  started_holds stands realm holds = record {
    is_open = holds.is_open;
    below = raised_below script.next realm.history holds.below;
    standing = put_standing settings realm.history (script.next + 1) name (under script.cast) (under cast) a by
        (stands realm holds.is_open holds.below) (omega (arith, own_pass))
        (λ n b is same. let low = holds.standing.begun n b is in omega (arith, low, same, own_pass))
        (raised_standing settings realm.history script.next (under script.cast) holds.standing);
  }

  pub started : under script.cast name ≡ None → (history : List Event)
      → Plays settings (scene_of script history) (lines.Start name zone verb) (scene_of (raised script cast) history) []
  started none history = (
    ap part_of none,
    (λ i. record {
      moment = script.moment;
      user = script.asker;
      parts = (parts_put name (Some (Some a)) (under script.cast) (under cast) by
          ∙ (λ j. recast (λ q. part_of (under script.cast q)) name (plays (role j)))) i;
      next = script.next + 1;
      history = history;
    }),
    refl,
  )

-- ---- an actor that went on

module _ (settings : SettingsView) (script : Script) (h h' : List Event) (a b : Active) (same : role_of b ≡ role_of a) where
  -- a door tells to it what the history does
  told_so : b.used ≡ has_acted b.pass h' → door_to b h' ≡ view_of b.pass h'
  told_so used = λ i. record { pass = b.pass; count = 0; used = used i; seen = h' }

  pub ends_so : (count : ℕ) (outcome : ActorOutcome) (shown : List ℕ) → Acts (scene_of script h) a.pass count h' → HasEnded settings h' b → BearsOut b outcome shown
      → Ends settings (scene_of script h) (role_of a) count h' outcome shown
  ends_so count outcome shown acts ended bears = record {
    acts = acts;
    means = subst (λ (r : Role). Means r.zone r.asker r.verb outcome shown settings (view_of r.pass h')) same
        (bears settings (view_of b.pass h') (subst (fits b.player settings) (told_so ended.used) ended.stands));
  }

  pub goes_on : (count : ℕ) → Acts (scene_of script h) a.pass count h' → StandsIn settings h' b → GoesOn settings (scene_of script h) (role_of a) count h'
  goes_on count acts stands = record {
    acts = acts;
    player = b.player;
    asks = ap asked_of same;
    stands = subst (λ (r : Role). fits b.player settings (view_of r.pass h')) same (subst (fits b.player settings) (told_so stands.used) stands.stands);
    playing = stands.playing;
  }

-- how an actor ended is told behind what was there
pub record Tells (b : Active) (text : List ℕ → List ℕ) (old new : List ℕ) : Type 0 where
  pub outcome : ActorOutcome
  pub shown : List ℕ
  pub bears : BearsOut b outcome shown
  pub told : new ≡ old ++ text (outcome_text outcome shown)

module _ (settings : SettingsView) (script : Script) (cast : Cast) (name : List ℕ) (a b : Active) (realm realm' : RealmView) (takes : Takes script cast name (Some a)) (same : role_of b ≡ role_of a) where
  had : under script.cast name ≡ Some (Some a)
  had = at_playing (under script.cast name) a (sym takes.who)

  is_part : part_of (under script.cast name) ≡ plays (role_of a)
  is_part = ap part_of had

  same_pass : b.pass ≡ a.pass
  same_pass = ap (λ (r : Role). r.pass) same

  -- it ended
  pub ran_out : (count : ℕ) (old printed : List ℕ) → old ≡ [] → Acts (scene_of script realm.history) a.pass count realm'.history → HasEnded settings realm'.history b → Tells b (named_line name) old printed
      → RunsOut settings (scene_of script realm.history) name (role_of a) count (scene_of (recasted script cast) realm'.history) printed
  ran_out count old printed empty acts ended tells = record {
    history = realm'.history;
    outcome = tells.outcome;
    shown = tells.shown;
    ends = ends_so settings script realm.history realm'.history a b same count tells.outcome tells.shown acts ended tells.bears;
    leaves = λ i. record { moment = script.moment; user = script.asker; parts = parts_put name (Some None) (under script.cast) (under cast) takes.gone i; next = script.next; history = realm'.history };
    tells = tells.told ∙ ap (λ l. l ++ named_line name (outcome_text tells.outcome tells.shown)) empty;
  }

  -- it goes on, and is put back
  pub stepped : (count : ℕ) (back : Cast) (old printed : List ℕ) → old ≡ [] → Acts (scene_of script realm.history) a.pass count realm'.history → StandsIn settings realm'.history b
      → Puts name (Some (Some b)) (under cast) (under back) → printed ≡ old ++ count_line name count
      → StepsOn settings (scene_of script realm.history) name (role_of a) count (scene_of (recasted script back) realm'.history) printed
  stepped count back old printed empty acts stands by told = record {
    history = realm'.history;
    goes_on = goes_on settings script realm.history realm'.history a b same count acts stands;
    leaves = λ i. record { moment = script.moment; user = script.asker; parts = parts_back name a b (under script.cast) (under cast) (under back) had same takes.gone by i; next = script.next; history = realm'.history };
    tells = told ∙ ap (λ l. l ++ count_line name count) empty;
  }

  pub stood : Holds settings script realm → StandsIn settings realm.history a
  stood holds = holds.standing.each name a had

  -- the others stand as before
  later_holds : AreBelow script.next realm'.history → IsOpen settings realm'
      → ((x : Active) → x.pass ≢ a.pass → StandsIn settings realm.history x → StandsIn settings realm'.history x)
      → Holds settings script realm → Holds settings (recasted script cast) realm'
  later_holds below is_open others holds = record {
    is_open = is_open;
    below = below;
    standing = later_standing settings realm.history realm'.history script.next a.pass (under cast) others
        (left_apart settings realm.history script.next name (under script.cast) (under cast) a takes.gone holds.standing had)
        (left_standing settings realm.history script.next name (under script.cast) (under cast) takes.gone holds.standing);
  }

  pub out_holds : (count : ℕ) → Acts (scene_of script realm.history) a.pass count realm'.history → IsOpen settings realm'
      → ((x : Active) → x.pass ≢ a.pass → StandsIn settings realm.history x → StandsIn settings realm'.history x)
      → Holds settings script realm → Holds settings (recasted script cast) realm'
  out_holds count acts is_open others holds =
      later_holds (acted_below script.moment count a.pass script.next realm.history realm'.history (holds.standing.begun name a had) acts holds.below) is_open others holds

  pub back_holds : (count : ℕ) (back : Cast) → Acts (scene_of script realm.history) a.pass count realm'.history → IsOpen settings realm'
      → ((x : Active) → x.pass ≢ a.pass → StandsIn settings realm.history x → StandsIn settings realm'.history x)
      → StandsIn settings realm'.history b → Puts name (Some (Some b)) (under cast) (under back)
      → Holds settings script realm → Holds settings (recasted script back) realm'
  back_holds count back acts is_open others stands by holds =
      let out = out_holds count acts is_open others holds in
      let low = holds.standing.begun name a had in
      record {
        is_open = is_open;
        below = out.below;
        standing = put_standing settings realm'.history script.next name (under cast) (under back) b by stands (omega (arith, low, same_pass))
            (λ n x is e. left_apart settings realm.history script.next name (under script.cast) (under cast) a takes.gone holds.standing had n x is (e ∙ same_pass))
            out.standing;
      }

-- ---- by the realm's settings

-- the others stand as before
abbrev pub OthersStand : ℕ → List Event → List Event → SettingsView → Type 0
OthersStand pass h h' settings = (x : Active) → x.pass ≢ pass → StandsIn settings h x → StandsIn settings h' x

pub stood_there : (settings : SettingsView) (script : Script) (cast : Cast) (name : List ℕ) (a : Active) (realm : RealmView) → Takes script cast name (Some a) → Holds settings script realm → StandsIn realm.settings realm.history a
stood_there settings script cast name a realm takes holds =
    subst (λ s. StandsIn s realm.history a) (sym holds.is_open.settings_are) (stood settings script cast name a a realm realm takes refl holds)

pub part_taken : (script : Script) (cast : Cast) (name : List ℕ) (a : Active) → Takes script cast name (Some a) → part_of (under script.cast name) ≡ plays (role_of a)
part_taken script cast name a takes = ap part_of (at_playing (under script.cast name) a (sym takes.who))

-- so many events, if all that were wanted
pub acted_some : (by : Gone) (pass moment most : ℕ) (h h' : List Event) → HasActed by pass moment most h h' → HasActedSome pass moment most h h'
acted_some Short pass moment most h h' acted = (most, omega arith, acted)
acted_some Ended pass moment most h h' acted = acted

-- ---- what was begun

-- what a line made by the actor when it was left: at most so many events
abbrev pub LeavesSome : SettingsView → Script → Active → ℕ → List Event → List Event → Type 0
LeavesSome settings script a most h h' = (count : ℕ) × (count ≤ most) × LeavesActor settings (scene_of script h) (role_of a) count h'

module _ (settings : SettingsView) (script : Script) (a : Active) (most : ℕ) (h h' : List Event) (acted : HasActedSome a.pass script.moment most h h') where
  -- an event failed to come
  pub broke_off : (other : SettingsView) → other ≡ settings → HasBrokenOff other h' a → LeavesSome settings script a most h h'
  broke_off other eq broken = (acted.0, acted.1, inl (record { acts = acted.2; so_far = subst (λ s. HasBrokenOff s h' a) eq broken }))

  -- the fault came behind its end
  pub ended_first : (b : Active) → role_of b ≡ role_of a → (other : SettingsView) → other ≡ settings → HasEnded other h' b
      → {P : ActorOutcome → List ℕ → Type 0} → (outcome : ActorOutcome) × (shown : List ℕ) × BearsOut b outcome shown × P outcome shown → LeavesSome settings script a most h h'
  ended_first b same other eq ended told = (
    acted.0,
    acted.1,
    inr (told.0, told.1, ends_so settings script h h' a b same acted.0 told.0 told.1 acted.2 (subst (λ s. HasEnded s h' b) eq ended) told.2),
  )

  -- the fault came behind all that were wanted
  pub went_first : (b : Active) → role_of b ≡ role_of a → StandsIn settings h' b → LeavesSome settings script a most h h'
  went_first b same stands =
      let on = goes_on settings script h h' a b same acted.0 acted.2 stands in
      (acted.0, acted.1, inl (record { acts = acted.2; so_far = record { player = on.player; asks = on.asks; sound = on.playing.stands; stands = on.stands } }))

pub begun_run : (settings : SettingsView) (script : Script) (cast : Cast) (name : List ℕ) (a : Active) (most : ℕ) (h h' : List Event) → Takes script cast name (Some a) → LeavesSome settings script a most h h' → Begins settings (scene_of script h) (lines.Run name) h'
begun_run settings script cast name a most h h' takes left = (role_of a, part_taken script cast name a takes, left.0, left.2)

pub begun_step : (settings : SettingsView) (script : Script) (cast : Cast) (name : List ℕ) (a : Active) (events : ℕ) (h h' : List Event) → Takes script cast name (Some a) → LeavesSome settings script a events h h' → Begins settings (scene_of script h) (lines.Step name events) h'
begun_step settings script cast name a events h h' takes left = (role_of a, part_taken script cast name a takes, left.0, left.1, left.2)

pub begun_do : (settings : SettingsView) (script : Script) (zone : ℕ) (verb : Verb) (a : Active) (most : ℕ) (h h' : List Event) → role_of a ≡ record { pass = script.next; zone = zone; asker = asker_for script.asker verb; verb = verb } → LeavesSome settings script a most h h'
    → Begins settings (scene_of script h) (lines.Do zone verb) h'
begun_do settings script zone verb a most h h' role left =
    inr (subst (λ (r : Role). (count : ℕ) × LeavesActor settings (scene_of script h) r count h') role (left.0, left.2))

-- ---- an actor without a name

module _ (settings : SettingsView) (script : Script) (zone : ℕ) (verb : Verb) (a b : Active) (realm realm' : RealmView)
    (role : role_of a ≡ record { pass = script.next; zone = zone; asker = asker_for script.asker verb; verb = verb }) (same : role_of b ≡ role_of a) where
  pass_is : a.pass ≡ script.next
  pass_is = ap (λ (r : Role). r.pass) role

  pub done_holds : (count : ℕ) → Acts (scene_of script realm.history) a.pass count realm'.history → IsOpen settings realm' → OthersStand a.pass realm.history realm'.history settings
      → Holds settings script realm → Holds settings (raised script script.cast) realm'
  done_holds count acts is_open others holds = record {
    is_open = is_open;
    below = acted_below script.moment count a.pass (script.next + 1) realm.history realm'.history (omega (arith, pass_is)) acts (raised_below script.next realm.history holds.below);
    standing = raised_standing settings realm'.history script.next (under script.cast)
        (later_standing settings realm.history realm'.history script.next a.pass (under script.cast) others
        (λ n x is e. let low = holds.standing.begun n x is in omega (arith, low, e, pass_is)) holds.standing);
  }

  pub done_so : (count : ℕ) (old printed : List ℕ) → old ≡ [] → Acts (scene_of script realm.history) a.pass count realm'.history → HasEnded settings realm'.history b → Tells b reply_line old printed
      → Does settings (scene_of script realm.history) (next_role (scene_of script realm.history) zone verb) (scene_of (raised script script.cast) realm'.history) printed
  done_so count old printed empty acts ended tells = record {
    count = count;
    history = realm'.history;
    outcome = tells.outcome;
    shown = tells.shown;
    ends = subst (λ (r : Role). Ends settings (scene_of script realm.history) r count realm'.history tells.outcome tells.shown) role
        (ends_so settings script realm.history realm'.history a b same count tells.outcome tells.shown acts ended tells.bears);
    leaves = refl;
    tells = tells.told ∙ ap (λ l. l ++ reply_line (outcome_text tells.outcome tells.shown)) empty;
  }

-- ---- by how an actor went on

pub acted_as : (by is : Gone) (pass moment most : ℕ) (h h' : List Event) → by ≡ is → HasActed by pass moment most h h' → HasActed is pass moment most h h'
acted_as by is pass moment most h h' same acted = subst (λ g. HasActed g pass moment most h h') same acted

pub stands_as : (by is : Gone) (settings other : SettingsView) (h : List Event) (a : Active) → by ≡ is → settings ≡ other → StandsAfter by settings h a → StandsAfter is other h a
stands_as by is settings other h a same eq stands = subst (λ s. StandsAfter is s h a) eq (subst (λ g. StandsAfter g settings h a) same stands)

-- ---- by what a line is

-- what a line comes to that is this one
pub as_line : (settings : SettingsView) (line other : Line) (before after : Script) (old new : RealmView) (printed : List ℕ) (result : Result Bool ScriptFault) → line ≡ other
    → ComesTo settings other before after old new printed result → ComesTo settings line before after old new printed result
as_line settings line other before after old new printed result is comes = subst (λ l. ComesTo settings l before after old new printed result) (sym is) comes

ok_is : (a b : Bool) → ◌≡◌ {A = Result Bool ScriptFault} (Ok a) (Ok b) → a ≡ b
ok_is a b e = cc

ok_so : (r : Result Bool ScriptFault) (P Q : Type 0) → (P → Q) → OnOk r P → OnOk r Q
ok_so (Ok x) P Q so p = so p
ok_so (Err e) P Q so p = tt

memory_stops : (r : Result Bool ScriptFault) (history : List Event) → IfErr r (λ fault. fault ≡ OutOfMemory) → IfErr r (StopsAt history)
memory_stops (Ok x) history is = tt
memory_stops (Err e) history is = subst (StopsAt history) (sym is) tt

pub comes_clock : (settings : SettingsView) (script : Script) (realm : RealmView) (moment : ℕ) (out : List ℕ) → out ≡ [] → Holds settings script realm
    → ComesTo settings (lines.Clock moment) script (record { moment = moment; next = script.next; cast = script.cast; asker = script.asker }) realm realm out (Ok true)
comes_clock settings script realm moment out empty holds = record {
  holds = record { is_open = holds.is_open; below = holds.below; standing = holds.standing };
  played = λ is. (refl, empty);
  missed = λ is. let e = ok_is _ _ is in absurd (cc);
  next = omega arith;
  begun = tt;
  cause = tt;
  is_open = holds.is_open;
}

pub comes_start : (settings : SettingsView) (before after : Script) (realm : RealmView) (name : List ℕ) (zone : ℕ) (verb : Verb) (out : List ℕ) (result : Result Bool ScriptFault) → out ≡ [] → Holds settings before realm
    → OnOk result ((r : RealmView) → Holds settings before r → Holds settings after r)
    → (result ≡ Ok true → (history : List Event) → Plays settings (scene_of before history) (lines.Start name zone verb) (scene_of after history) [])
    → (result ≡ Ok false → (history : List Event) → Misses (scene_of before history) (lines.Start name zone verb))
    → OnOk result (after.next ≤ before.next + 1) → IfErr result (λ fault. fault ≡ OutOfMemory)
    → ComesTo settings (lines.Start name zone verb) before after realm realm out result
comes_start settings before after realm name zone verb out result empty holds kept played missed next cause = record {
  holds = ok_so result _ _ (λ so. so realm holds) kept;
  played = λ is. subst (Plays settings (scene_of before realm.history) (lines.Start name zone verb) (scene_of after realm.history)) (sym empty) (played is realm.history);
  missed = λ is. (missed is realm.history, refl);
  next = next;
  begun = any_err result _ refl;
  cause = memory_stops result realm.history cause;
  is_open = holds.is_open;
}

pub comes_stop : (settings : SettingsView) (before after : Script) (realm : RealmView) (name : List ℕ) (out : List ℕ) (there : Bool) → out ≡ [] → Holds settings before realm
    → ((s : SettingsView) (r : RealmView) → Holds s before r → Holds s after r)
    → (there ≡ true → (s : SettingsView) (history : List Event) → Plays s (scene_of before history) (lines.Stop name) (scene_of after history) [])
    → (there ≡ false → (history : List Event) → Misses (scene_of before history) (lines.Stop name))
    → after.next ≡ before.next
    → ComesTo settings (lines.Stop name) before after realm realm out (Ok there)
comes_stop settings before after realm name out there empty holds kept played missed next = record {
  holds = kept settings realm holds;
  played = λ is. subst (Plays settings (scene_of before realm.history) (lines.Stop name) (scene_of after realm.history)) (sym empty) (played (ok_is _ _ is) settings realm.history);
  missed = λ is. (missed (ok_is _ _ is) realm.history, refl);
  next = omega (arith, next);
  begun = tt;
  cause = tt;
  is_open = holds.is_open;
}

pub comes_do : (settings : SettingsView) (before after : Script) (old new : RealmView) (zone : ℕ) (verb : Verb) (out : List ℕ)
    → Holds settings after new → Plays settings (scene_of before old.history) (lines.Do zone verb) (scene_of after new.history) out → after.next ≤ before.next + 1 → IsOpen settings new
    → ComesTo settings (lines.Do zone verb) before after old new out (Ok true)
comes_do settings before after old new zone verb out holds played next is_open = record {
  holds = holds;
  played = λ is. played;
  missed = λ is. let e = ok_is _ _ is in absurd (cc);
  next = next;
  begun = tt;
  cause = tt;
  is_open = is_open;
}

pub comes_left : (settings : SettingsView) (line : Line) (before after : Script) (old new : RealmView) (out : List ℕ) (fault : ScriptFault) → Begins settings (scene_of before old.history) line new.history → StopsAt new.history fault → IsOpen settings new
    → ComesTo settings line before after old new out (Err fault)
comes_left settings line before after old new out fault begun cause is_open = record {
  holds = tt;
  played = λ is. absurd (cc);
  missed = λ is. absurd (cc);
  next = tt;
  begun = begun;
  cause = cause;
  is_open = is_open;
}
