-- Where an update begins, and how it ends.
use Rattle.std.proofs.Common.{◌≡◌, [], refl, sym, subst, arith}
use Rattle.std.proofs.lemmas.List.{append-nil}
use Rattle.rgw_types.specs.declared.pool_key.Key.{Key}
use Rattle.realm_model.specs.Settings.{SettingsView}
use Rattle.realm_model.specs.Doors.{DoorView}
use Rattle.index_update.specs.declared.head_change.HeadChange.{HeadChange}
use Rattle.index_update.specs.declared.stage.Stage.{Stage}
use Rattle.index_update.specs.declared.stage.Stage.TheVariants.{Looking, Preparing, Ended}
use Rattle.index_update.specs.declared.stage.Target.{Target}
use Rattle.index_update.specs.declared.stage.Tried.{Tried}
use Rattle.index_update.specs.declared.stage.Updated.{Updated}
use Rattle.index_update.specs.declared.update.IndexUpdate.{IndexUpdate}
use Rattle.index_update.specs.Paths.{Path, turned, ready, path_from}
use Rattle.index_update.specs.Fits.{Start, Asked, Known, known_at, HasName, Since, Carries, Trying, AtRow, IsAt, FitsAt, Fits}
use Rattle.index_update.specs.Updates.{asked_of, begun, fits, MayBegin, IsEnd}

-- nothing was refused yet
abbrev pub none_yet : Tried
none_yet = record { moved = 0; expired = 0 }

module _ (settings : SettingsView) (known : Known) (u : IndexUpdate) (change : HeadChange) (path : Path) (named : HasName u.target) (b : MayBegin settings u.target change known) where
  abbrev asked : Asked
  asked = asked_of (record { change = change; from = path; known = known }) u

  since_now : Since asked known
  since_now = record { own = refl; first = λ f first. first; made = λ zone write part bytes made. made }

  carries : Carries asked change known
  carries = record { same = refl; needs = b.needs; since = since_now }

  tries : Trying asked none_yet known
  tries = record {
    moved = omega arith;
    left = omega arith;
    few = omega arith;
    moved_before = b.moved;
    expired = omega arith;
    few_expired = omega arith;
    undecided = refl;
    unchanged = refl;
  }

  begins_at : (stage : Stage) → u.stage ≡ stage → u.tried ≡ none_yet → IsAt stage path → FitsAt asked none_yet stage known → Fits settings asked u.tried u.stage known
  begins_at stage is tried at stands = record {
    low = b.low;
    high = b.high;
    named = named;
    mine = [];
    follow = sym (append-nil known.events);
    order = subst (λ g. IsAt g path) (sym is) at;
    own = tt;
    stands = subst (λ g. FitsAt asked u.tried g known) (sym is) (subst (λ x. FitsAt asked x stage known) (sym tried) stands);
  }

pub looking_begins : (settings : SettingsView) (k : Known) (t : Target) (change : HeadChange) → HasName t → MayBegin settings t change k
    → Fits settings (asked_of (record { change = change; from = turned; known = k }) (begun t (Looking change))) none_yet (Looking change) k
looking_begins settings k t change named b =
    let u : IndexUpdate = begun t (Looking change) in
    begins_at settings k u change turned named b (Looking change) refl refl tt (tries settings k u change turned named b, carries settings k u change turned named b, b.free)

pub preparing_begins : (settings : SettingsView) (k : Known) (t : Target) (change : HeadChange) (key : Key) → HasName t → MayBegin settings t change k → AtRow t key k
    → Fits settings (asked_of (record { change = change; from = ready; known = k }) (begun t (Preparing key change))) none_yet (Preparing key change) k
preparing_begins settings k t change key named b at =
    let u : IndexUpdate = begun t (Preparing key change) in
    begins_at settings k u change ready named b (Preparing key change) refl refl tt (tries settings k u change ready named b, at, carries settings k u change ready named b, b.free)

-- what the end means
pub means_it : (s : Start) (u : IndexUpdate) (settings : SettingsView) (d : DoorView) (end : Updated) → u.stage ≡ Ended end → fits s u settings d → IsEnd s u end (known_at settings d)
means_it s u settings d end ended f = record {
  ends = subst (λ g. FitsAt (asked_of s u) u.tried g (known_at settings d)) ended f.stands;
  mine = f.mine;
  follow = f.follow;
  finished = subst (λ g. IsAt g (path_from s.from f.mine)) ended f.order;
  own = f.own;
}
