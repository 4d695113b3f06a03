-- The clock, asked once for each event.
use Rattle.std.proofs.Common.{◌≡◌, ℕ, Bool, true, false, List, [], ◌∷◌, ◌++◌, Option, Result, Ok, Err, OnOk, OnErr, refl, sym, ap, ◌∙◌, subst, append_assoc}
use Rattle.std.proofs.KnownBytes.{Appends-nil, Appends-trans}
use Rattle.std.specs.Io.KnownBytes.{Appends}
use Rattle.realm_model.specs.Settings.{SettingsView}
use Rattle.realm_model.specs.Histories.{Legal}
use Rattle.realm_model.specs.Doors.{DoorView}
use Rattle.realm_door.specs.Turns.{MakesEvent, IsOneMore}
use Rattle.door_moments.specs.Acts.{Tells, Acts, Asks}
use Rattle.door_moments.proofs.Moments.{no_act, act_once, act_both}

tells_both : (more : Bool) (told moments first : List ℕ) → Tells more told moments → Tells more (first ++ told) (first ++ moments)
tells_both true told moments first (last, is) = (last, ap (λ l. first ++ l) is ∙ sym (append_assoc first moments (last ∷ [])))
tells_both false told moments first is = ap (λ l. first ++ l) is

module _ (tells alone : Type 0) (settings : SettingsView) where
  -- nothing was done
  pub none_asks : (d : DoorView) (a : Option (List ℕ)) → (tells → Legal settings d.seen) → Asks tells alone settings false d d a a
  none_asks d a legal = record { moments = []; clock = []; asked_clock = Appends-nil a; each = refl; acts = λ is. no_act alone settings d (legal is) }

  -- the clock was asked, and no event came
  pub untold_asks : (d e : DoorView) (a b : Option (List ℕ)) (moment : ℕ) → (tells → Legal settings d.seen) → (tells → e ≡ d) → Appends a b (moment ∷ []) → Asks tells alone settings true d e a b
  untold_asks d e a b moment legal same asks = record {
    moments = [];
    clock = moment ∷ [];
    asked_clock = asks;
    each = (moment, refl);
    acts = λ is. subst (λ x. Acts alone settings d x []) (sym (same is)) (no_act alone settings d (legal is));
  }

  -- an event was made
  pub event_asks : (d e : DoorView) (a b : Option (List ℕ)) (moment : ℕ) → Appends a b (moment ∷ []) → (tells → MakesEvent settings moment d e) → (tells → alone → IsOneMore d e) → Asks tells alone settings false d e a b
  event_asks d e a b moment asks made few = record {
    moments = moment ∷ [];
    clock = moment ∷ [];
    asked_clock = asks;
    each = refl;
    acts = λ is. act_once alone settings d e moment (made is) (few is);
  }

  -- one after another
  pub both_ask : (now : SettingsView) (more : Bool) (d e f : DoorView) (a b c : Option (List ℕ)) → now ≡ settings → Asks tells alone settings false d e a b → Asks tells alone now more e f b c → Asks tells alone settings more d f a c
  both_ask now more d e f a b c same x y0 =
      let y : Asks tells alone settings more e f b c = subst (λ s. Asks tells alone s more e f b c) same y0 in
      record {
        moments = x.moments ++ y.moments;
        clock = x.clock ++ y.clock;
        asked_clock = Appends-trans a b c x.clock y.clock x.asked_clock y.asked_clock;
        each = subst (λ l. Tells more (l ++ y.clock) (x.moments ++ y.moments)) (sym x.each) (tells_both more y.clock y.moments x.moments y.each);
        acts = λ is. act_both alone settings d e f x.moments y.moments (x.acts is) (y.acts is);
      }

  -- after one event, if it came
  pub event_asks_if : {T E : Type 0} (result : Result T E) (d e : DoorView) (a b : Option (List ℕ)) (moment : ℕ) → Appends a b (moment ∷ [])
      → OnOk result (tells → MakesEvent settings moment d e) → OnOk result (tells → alone → IsOneMore d e) → OnOk result (Asks tells alone settings false d e a b)
  event_asks_if (Ok x) d e a b moment asks made few = event_asks d e a b moment asks made few
  event_asks_if (Err f) d e a b moment asks made few = tt

  pub untold_asks_if : {T E : Type 0} (result : Result T E) (d e : DoorView) (a b : Option (List ℕ)) (moment : ℕ) (stays : Type 0) → (tells → Legal settings d.seen) → Appends a b (moment ∷ [])
      → OnErr result ((tells → e ≡ d) × stays) → OnErr result (Asks tells alone settings true d e a b)
  untold_asks_if (Ok x) d e a b moment stays legal asks same = tt
  untold_asks_if (Err f) d e a b moment stays legal asks same = untold_asks d e a b moment legal same.0 asks
