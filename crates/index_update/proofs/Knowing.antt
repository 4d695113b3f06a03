-- What is known after others' events, and after an own one.
use Rattle.std.proofs.Common.{◌≡◌, ℕ, ◌<◌, ◌≤◌, ◌⊎◌, inl, inr, List, [], ◌∷◌, ◌++◌, length, Some, None, sym, ◌∙◌, ap, subst, arith}
use Rattle.std.proofs.lemmas.List.{length-append}
use Rattle.rgw_types.specs.declared.pool_key.Key.{Key}
use Rattle.realm_model.specs.Settings.{SettingsView}
use Rattle.realm_model.specs.Doors.{DoorView, actor_at}
use Rattle.realm_model.specs.Histories.{Doings, account_of, phase_of, world_of, Legal}
use Rattle.realm_model.specs.Maps.{Made, heads}
use Rattle.realm_model.specs.Owns.{own_events}
use Rattle.realm_model.specs.Phases.{pending, tried, over}
use Rattle.realm_model.specs.Worlds.{World, start}
use Rattle.realm_model.specs.declared.op.Op.{Op}
use Rattle.realm_model.specs.declared.event.Event.{Event}
use Rattle.realm_model.proofs.Runs.{run-append, legal_front}
use Rattle.realm_door.specs.declared.door.Answered.{Answered}
use Rattle.realm_door.specs.Steps.{Extends, event_at}
use Rattle.realm_door.specs.Waiting.{Waited}
use Rattle.stripe_law.proofs.Staying.{still_made}
use Rattle.index_update.specs.declared.head_change.HeadChange.{HeadChange}
use Rattle.index_update.specs.declared.stage.Change.{Change}
use Rattle.index_update.specs.declared.stage.Target.{Target}
use Rattle.index_update.specs.declared.stage.Tried.{Tried}
use Rattle.index_update.specs.declared.stage.After.{After}
use Rattle.index_update.specs.declared.stage.After.TheVariants.{Again, End}
use Rattle.index_update.specs.declared.stage.Stage.{Stage}
use Rattle.index_update.specs.declared.stage.Stage.TheVariants.{Looking, Preparing, Announcing, Writing, Cancelling, Completing, LookingForShard, Ended}
use Rattle.index_update.specs.Fits.{Start, Asked, Known, known_at, known_later, known_next, Trying, AtRow, Since, Carries, EndsSo, IsAfter, HasChanged, ReadSince, IsTriedBy, FitsAt, Fits}
use Rattle.index_update.specs.declared.stage.Updated.{Updated}
use Rattle.index_update.specs.declared.stage.Updated.TheVariants as updated
use Rattle.index_update.specs.declared.update.IndexUpdate.{IndexUpdate}
use Rattle.index_update.specs.Updates.{asked_of, fits}

-- ---- others' events

-- the row that was read stays the last one
pub row_later : (k : Known) (last : ℕ) (tails : Made) → k.last ≤ last → (t : Target) (key : Key) → AtRow t key k → AtRow t key (known_later k last tails)
row_later k last tails low t key a = record {
  row = a.row;
  number = a.number;
  looked = a.looked;
  read = a.read;
  granted = a.granted;
  some = a.some;
  names = a.names;
  later = a.later;
  before = (let was = a.before in omega (arith, was, low));
}

module _ (r : Asked) (x : Tried) (k : Known) (last : ℕ) (tails : Made) (low : k.last ≤ last)
    (stays : (zone write part : ℕ) (bytes : List ℕ) → k.made zone write part ≡ Some bytes → tails zone write part ≡ Some bytes) where
  abbrev later : Known
  later = known_later k last tails

  at_row : (key : Key) → AtRow r.target key k → AtRow r.target key later
  at_row = row_later k last tails low r.target

  trying : Trying r x k → Trying r x later
  trying t = record {
    moved = t.moved;
    left = t.left;
    few = t.few;
    moved_before = (let was = t.moved_before in omega (arith, was, low));
    expired = t.expired;
    few_expired = t.few_expired;
    undecided = t.undecided;
    unchanged = t.unchanged;
  }

  since_later : Since r k → Since r later
  since_later s = record {
    own = s.own;
    first = s.first;
    made = λ zone write part bytes is. stays zone write part bytes (s.made zone write part bytes is);
  }

  carries : (c : HeadChange) → Carries r c k → Carries r c later
  carries c i = record { same = i.same; needs = i.needs; since = since_later i.since }

  ends : (end : Updated) → EndsSo r end k → EndsSo r end later
  ends (updated.Changed stamp old) e = (e.0, record { changed = e.1.changed; completed = e.1.completed }, e.2)
  ends (updated.Refused refusal) e = (e.0, since_later e.1)
  ends updated.NotMet e = (e.0, e.1, since_later e.2)
  ends (updated.Busy id) e = (e.0, e.1, since_later e.2)
  ends updated.MovedOften e = (e.0, e.1, since_later e.2)
  ends updated.LateTag e = (e.0, e.1, since_later e.2)
  ends (updated.NoSpace free needed) e = (e.0, e.1, since_later e.2)

  tried_later : (stage : _) → IsTriedBy stage k.last → IsTriedBy stage last
  tried_later (tried (Some first)) was = omega (arith, was, low)
  tried_later (tried None) was = tt
  tried_later pending was = tt
  tried_later over was = tt

  changed : (made : Change) (stage : _) → HasChanged r x made stage k → HasChanged r x made stage later
  changed made stage h = record {
    by_head = h.by_head;
    once = h.once;
    replaced = h.replaced;
    left = h.left;
    few = h.few;
    guard = h.guard;
    numbered = h.numbered;
    tag = h.tag;
    waits = h.waits;
    tried_by = tried_later stage h.tried_by;
  }

  after : (key : Key) (a : After) → IsAfter r x key a k → IsAfter r x key a later
  after key (Again c) i = (trying i.0, at_row key i.1, carries c i.2)
  after key (End end) i = (i.0, ends end i.1)

  since : (home key : Key) (stage : _) → (key ≡ home) ⊎ ReadSince r home key stage k → (key ≡ home) ⊎ ReadSince r home key stage later
  since home key stage (inl same) = inl same
  since home key stage (inr s) = inr (record { first = s.first; is_tried = s.is_tried; row = s.row; number = s.number; since = s.since; read = s.read; of_container = s.of_container; names = s.names })

  pub fits_later : (stage : Stage) → FitsAt r x stage k → FitsAt r x stage later
  fits_later (Looking c) f = (trying f.0, carries c f.1, f.2)
  fits_later (Preparing key c) f = (trying f.0, at_row key f.1, carries c f.2, f.3)
  fits_later (Announcing key guard c) f = (trying f.0, at_row key f.1, carries c f.2, f.3, f.4)
  fits_later (Writing key guard c) f = (trying f.0, at_row key f.1, carries c f.2, f.3, f.4)
  fits_later (Cancelling key tag a) f = (record { guard = f.0.guard; numbered = f.0.numbered; tag = f.0.tag }, after key a f.1)
  fits_later (Completing key made) f = (f.0, changed made f.0 f.1, since made.home key f.0 f.2)
  fits_later (LookingForShard made) f = (f.0, changed made f.0 f.1, f.2)
  fits_later (Ended end) f = ends end f

  -- an update stands where it stood when others made events
  pub others_keep : (settings : SettingsView) (stage : Stage) → Fits settings r x stage k → Fits settings r x stage later
  others_keep settings stage f = record {
    low = f.low;
    high = f.high;
    named = f.named;
    mine = f.mine;
    follow = f.follow;
    order = f.order;
    own = f.own;
    stands = fits_later stage f.stands;
  }

-- ---- an actor that waits

module _ (settings : SettingsView) (d e : DoorView) (w : Waited settings d e) (legal : Legal settings e.seen) where
  same_actor : actor_at e ≡ actor_at d
  same_actor i = record { pass = w.pass i; count = w.count i }

  pub longer : length d.seen ≤ length e.seen
  longer = let long = ap length w.front.is_front in let both = length-append d.seen w.front.later in omega (arith, long, both)

  pub made_now : (zone write part : ℕ) (bytes : List ℕ) → (world_of settings d.seen).stripes.made zone write part ≡ Some bytes → (world_of settings e.seen).stripes.made zone write part ≡ Some bytes
  made_now zone write part bytes is =
      subst (λ s. (world_of settings s).stripes.made zone write part ≡ Some bytes) (sym w.front.is_front)
      (still_made settings d.seen w.front.later (subst (Legal settings) w.front.is_front legal) zone write part bytes is)

  -- what is known then
  pub known_now : known_at settings e ≡ known_later (known_at settings d) (length e.seen) (world_of settings e.seen).stripes.made
  known_now =
      let phase = ap (phase_of settings e.seen) same_actor ∙ ap (λ (o : Doings). o.phase) w.same.doings in
      let account = ap (account_of settings e.seen) same_actor ∙ ap (λ (o : Doings). o.account) w.same.doings in
      let events = ap (own_events e.seen) same_actor ∙ w.same.events in
      λ i. record {
        phase = phase i;
        account = account i;
        events = events i;
        last = length e.seen;
        made = (world_of settings e.seen).stripes.made;
      }

pub waited : (s : Start) (u : IndexUpdate) (settings : SettingsView) (d e : DoorView) → Waited settings d e → Legal settings e.seen → fits s u settings d → fits s u settings e
waited s u settings d e w legal f =
    subst (Fits settings (asked_of s u) u.tried u.stage) (sym (known_now settings d e w legal))
    (others_keep (asked_of s u) u.tried (known_at settings d) (length e.seen) (world_of settings e.seen).stripes.made (longer settings d e w legal) (made_now settings d e w legal) settings u.stage f)

-- ---- an own event

module _ (settings : SettingsView) (d e : DoorView) (op : Op) (moment : ℕ) (a : Answered) (x : Extends settings d op moment a e) where
  abbrev pub front : List Event
  front = d.seen ++ x.between

  abbrev pub made : Made
  made = (world_of settings front).stripes.made

  -- what is known just before it
  abbrev pub before : Known
  before = known_later (known_at settings d) (length front) made

  pub not_less : length d.seen ≤ length front
  not_less = let both = length-append d.seen x.between in omega (arith, both)

  pub more_made : (zone write part : ℕ) (bytes : List ℕ) → (world_of settings d.seen).stripes.made zone write part ≡ Some bytes → made zone write part ≡ Some bytes
  more_made = still_made settings d.seen x.between (legal_front settings (start settings) front (event_at d op moment a.reply ∷ []) (subst (Legal settings) x.ends x.legal))

  pub numbered_later : length front < a.number
  numbered_later =
      let long = ap length x.ends in
      let one = length-append front (event_at d op moment a.reply ∷ []) in
      let number = x.number in
      omega (arith, long, one, number)

  pub known_is : known_at settings e ≡ known_next before (heads front) op a.reply a.number a.clock
  known_is =
      let pass = x.grows.pass in
      let count = x.grows.count in
      let same : actor_at e ≡ actor_at d = λ i. record { pass = pass i; count = count i } in
      let own = x.own in
      let events : own_events e.seen (actor_at e) ≡ own_events d.seen (actor_at d) ++ (record { op = op; reply = a.reply; number = a.number; clock = a.clock }) ∷ [] = ap (own_events e.seen) same ∙ x.events in
      let long : length e.seen ≡ a.number = sym x.number in
      let tails = ap (λ s. (world_of settings s).stripes.made) x.ends ∙ ap (λ (w : World). w.stripes.made) (run-append settings (start settings) front (event_at d op moment a.reply ∷ [])) in
      λ i. record {
        phase = (own i).phase;
        account = (own i).account;
        events = events i;
        last = long i;
        made = tails i;
      }
