-- What a PUT did so far, by where it stands.
use Rattle.std.proofs.Common.{◌≡◌, ◌⊎◌, inl, inr, ℕ, List, ◌++◌, Option, Some, None, refl, sym, ◌∙◌, ap, subst, append_assoc, arith}
use Rattle.realm_model.specs.Accounts.{Account}
use Rattle.realm_model.specs.Owns.{OwnEvent}
use Rattle.realm_model.specs.Settings.{SettingsView}
use Rattle.realm_model.specs.Doors.{DoorView}
use Rattle.task_words.specs.declared.asker.Asker.{Asker}
use Rattle.task_words.specs.declared.command.BodyEnd.{BodyEnd}
use Rattle.task_words.specs.declared.command.BodyEnd.TheVariants.{Whole}
use Rattle.task_words.specs.declared.command.PutCommand.{PutCommand}
use Rattle.task_words.specs.declared.outcome.Outcome.{Outcome}
use Rattle.task_words.specs.declared.outcome.Outcome.TheVariants.{Done, BodyFailed, Busy, MovedOften, LateTag, NoSpace}
use Rattle.task_words.specs.declared.reply.MapReply.TheVariants.{Stored, Refused}
use Rattle.task_words.specs.declared.reply.Refusal.TheVariants.{Unauthorized, Denied, NoContainer, NotMet, OtherEtag}
use Rattle.task_words.specs.Cuts.{AreCut}
use Rattle.task_words.specs.Outcomes.{Body, IsPutOutcome}
use Rattle.realm_door.specs.declared.stepping.Stepping.{Stepping}
use Rattle.index_update.specs.declared.stage.After.{After}
use Rattle.index_update.specs.declared.stage.After.TheVariants.{Again, End}
use Rattle.index_update.specs.declared.stage.Stage.{Stage as UpdateStage}
use Rattle.index_update.specs.declared.stage.Stage.TheVariants as ups
use Rattle.index_update.specs.declared.stage.Tried.{Tried}
use Rattle.index_update.specs.declared.stage.Updated.{Updated}
use Rattle.index_update.specs.declared.stage.Updated.TheVariants as updated
use Rattle.index_update.specs.declared.update.IndexUpdate.{IndexUpdate}
use Rattle.index_update.specs.Fits.{Known, Start, known_at, ByHead, EndsSo, HasChanged, IsAt as IsUpdateAt, FitsAt as UpdateFitsAt}
use Rattle.index_update.specs.Paths.{Path as UpdatePath, astray, IsOrdered as IsUpdateOrdered}
use Rattle.index_update.specs.Updates.{asked_of}
use Rattle.task_put.specs.declared.stage.PutRequest.{PutRequest}
use Rattle.task_put.specs.declared.stage.Stage.{Stage}
use Rattle.task_put.specs.declared.stage.Stage.TheVariants.{Looking, Feeding, Changing, Ended}
use Rattle.task_put.specs.declared.task.PutTask.{PutTask}
use Rattle.task_put.specs.Cuts.{MayFollow, CutBody}
use Rattle.task_put.specs.Orders.{Path, path_of, begun, feeding, IsOrdered}
use Rattle.task_put.specs.Fits.{body_of, Begins, FitsAt, Fits, IsAt}
use Rattle.task_put.specs.Runs.{request_of, fault_of, fits}
use Rattle.task_put.specs.SoFar.{HasStored, IsPutSoFar}
use Rattle.task_put.proofs.Ordering.{finished_ordered}
use Rattle.task_put.proofs.Running.{stands_of}
use Rattle.task_put.proofs.Updating.{asked_is, stored_as, put_ends, cut_so_far, ordered_so_far}

-- ---- changes of heads

abbrev Changes : ℕ → Asker → PutCommand → Body → Account → Type 0
Changes zone asker c body y = (y.changes ≡ 0) ⊎ HasStored zone asker c body y

-- at an end
by_outcome : (zone : ℕ) (asker : Asker) (c : PutCommand) (body : Body) (y : Account) (events : List OwnEvent) (outcome : Outcome) → IsPutOutcome zone asker c body outcome y events → Changes zone asker c body y
by_outcome zone asker c body y events (Done (Stored etag stamp)) x =
    inr (record { is_taken = x.0; etag = etag; stamp = stamp; by_map = x.1; once = (x.2).changed })
by_outcome zone asker c body y events (Done (Refused NotMet)) x = inl x.2
by_outcome zone asker c body y events (Done (Refused OtherEtag)) x = inl (x.1).unchanged
by_outcome zone asker c body y events (Done (Refused Unauthorized)) x = inl x.unchanged
by_outcome zone asker c body y events (Done (Refused (Denied rule))) x = inl x.unchanged
by_outcome zone asker c body y events (Done (Refused NoContainer)) x = inl x.unchanged
by_outcome zone asker c body y events (Done reply) x = absurd x
by_outcome zone asker c body y events BodyFailed x = inl (x.1).unchanged
by_outcome zone asker c body y events (Busy id) x = inl (x.0).unchanged
by_outcome zone asker c body y events MovedOften x = inl (x.0).unchanged
by_outcome zone asker c body y events LateTag x = inl (x.0).unchanged
by_outcome zone asker c body y events (NoSpace free needed) x = inl (x.0).unchanged
by_outcome zone asker c body y events outcome x = absurd x

-- while the update is on its way
module _ (settings : SettingsView) (r : PutRequest) (s : Start) (etag : List ℕ) (u : IndexUpdate) (b : Begins settings r s etag u) (k : Known) where
  abbrev ChangesSo : Type 0
  ChangesSo = Changes r.zone r.asker r.command (body_of r) k.account

  none_yet : k.account.changes ≡ s.known.account.changes → ChangesSo
  none_yet same = inl (same ∙ b.untried.unchanged)

  by_end : (end : Updated) → EndsSo (asked_of s u) end k → ChangesSo
  by_end end e =
      by_outcome r.zone r.asker r.command (body_of r) k.account k.events _
      (put_ends settings r s etag u b k end (subst (λ a. EndsSo a end k) (asked_is settings r s etag u b k) e))

  by_change : (x : Tried) (made : _) (stage : _) → HasChanged (asked_of s u) x made stage k → ChangesSo
  by_change x made stage h =
      let none = b.untried.unchanged in
      let once = h.once in
      inr (record {
        is_taken = b.content.is_taken;
        etag = etag;
        stamp = made.stamp;
        by_map = stored_as settings r s etag u b k made.stamp (subst (λ a. ByHead a (Some made.stamp) k.account.decided) (asked_is settings r s etag u b k) h.by_head);
        once = omega (arith, none, once);
      })

  by_stage : (x : Tried) (stage : UpdateStage) → UpdateFitsAt (asked_of s u) x stage k → ChangesSo
  by_stage x (ups.Looking change) f = none_yet (f.0).unchanged
  by_stage x (ups.Preparing key change) f = none_yet (f.0).unchanged
  by_stage x (ups.Announcing key guard change) f = none_yet (f.0).unchanged
  by_stage x (ups.Writing key guard change) f = none_yet (f.0).unchanged
  by_stage x (ups.Cancelling key tag (Again change)) f = none_yet (f.1.0).unchanged
  by_stage x (ups.Cancelling key tag (End end)) f = by_end end f.1.1
  by_stage x (ups.Completing key made) f = by_change x made f.0 f.1
  by_stage x (ups.LookingForShard made) f = by_change x made f.0 f.1
  by_stage x (ups.Ended end) f = by_end end f

-- ---- by where it stands

no_stage_astray : (stage : UpdateStage) → IsUpdateAt stage astray → ⊥
no_stage_astray (ups.Looking change) is = is
no_stage_astray (ups.Preparing key change) is = is
no_stage_astray (ups.Announcing key guard change) is = is
no_stage_astray (ups.Writing key guard change) is = is
no_stage_astray (ups.Cancelling key tag after) is = is
no_stage_astray (ups.Completing key made) is = is
no_stage_astray (ups.LookingForShard made) is = is
no_stage_astray (ups.Ended end) is = is

at_ordered : (stage : UpdateStage) (path : UpdatePath) → IsUpdateAt stage path → IsUpdateOrdered path
at_ordered stage astray is = absurd (no_stage_astray stage is)
at_ordered stage path is = tt

at_ordered_body : (draft : _) (path : Path) → IsAt (Looking draft) path → IsOrdered path
at_ordered_body draft begun is = tt
at_ordered_body draft path is = absurd is

at_ordered_feeding : (write : _) (key : _) (draft : _) (path : Path) → IsAt (Feeding write key draft) path → IsOrdered path
at_ordered_feeding write key draft feeding is = tt
at_ordered_feeding write key draft path is = absurd is

so_far_at : (settings : SettingsView) (r : PutRequest) (stage : Stage) (k : Known) → Fits settings r stage k → IsPutSoFar settings.stripe r.zone r.asker r.command (body_of r) k.account k.events
so_far_at settings r (Looking draft) k f = record {
  ordered = at_ordered_body draft (path_of k.events) f.order.0;
  cut = (f.order.1).cut;
  changes = inl (ap (λ (y : Account). y.changes) f.stands.3);
}
so_far_at settings r (Feeding write key draft) k f = record {
  ordered = at_ordered_feeding write key draft (path_of k.events) f.order.0;
  cut = (f.order.1).cut;
  changes = inl (f.stands.1).unchanged;
}
so_far_at settings r (Changing etag u) k f =
    let s = f.stands.0 in
    let b = f.stands.1 in
    let g = f.stands.2 in
    let ordered = at_ordered u.stage _ g.order in
    record {
      ordered = ordered_so_far settings r s etag u b k g.mine g.follow ordered g.own;
      cut = cut_so_far settings r s etag u b k g.mine g.follow ordered g.own;
      changes = by_stage settings r s etag u b k u.tried u.stage g.stands;
    }
so_far_at settings r (Ended outcome) k f = record {
  ordered = finished_ordered (path_of k.events) f.order.0;
  cut = (f.order.1).cut;
  changes = by_outcome r.zone r.asker r.command (body_of r) k.account k.events outcome f.stands;
}

-- ---- of the task

pub so_far : (t : Stepping PutTask) (settings : SettingsView) (d : DoorView) → fault_of t ≡ None → fits t settings d
    → IsPutSoFar settings.stripe (request_of t).zone (request_of t).asker (request_of t).command (body_of (request_of t)) (known_at settings d).account (known_at settings d).events
so_far t settings d sound f = so_far_at settings (request_of t) t.stages.stage (known_at settings d) (stands_of t settings d sound f)

-- ---- of a body of which more came

-- only a whole body changes a head
pub unchanged_before : (zone : ℕ) (asker : Asker) (c : PutCommand) (body : Body) (y : Account) → body.end ≡ None → Changes zone asker c body y → y.changes ≡ 0
unchanged_before zone asker c body y unended (inl none) = none
unchanged_before zone asker c body y unended (inr has) = let clash : None ≡ Some Whole = sym unended ∙ (has.is_taken).whole in absurd (cc)

more_of : (zone stripe : ℕ) (bytes rest : List ℕ) (end : Option BodyEnd) (events : List OwnEvent) → CutBody zone stripe bytes None events → CutBody zone stripe (bytes ++ rest) end events
more_of zone stripe bytes rest end events cut = λ more follows.
    subst (λ b. AreCut zone stripe b events) (sym (append_assoc bytes rest more)) (cut (rest ++ more) tt)

-- while the task saw no end of the body, what it did is so whatever came behind the bytes that it took
pub widened : (stripe zone : ℕ) (asker : Asker) (c : PutCommand) (bytes rest : List ℕ) (end : Option BodyEnd) (y : Account) (events : List OwnEvent)
    → IsPutSoFar stripe zone asker c (record { bytes = bytes; end = None }) y events → IsPutSoFar stripe zone asker c (record { bytes = bytes ++ rest; end = end }) y events
widened stripe zone asker c bytes rest end y events x = record {
  ordered = x.ordered;
  cut = more_of zone stripe bytes rest end events x.cut;
  changes = inl (unchanged_before zone asker c (record { bytes = bytes; end = None }) y refl x.changes);
}
