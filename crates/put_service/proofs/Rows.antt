-- The read of the container's row, the first event of a PUT.
use Rattle.std.proofs.Common.{◌≡◌, ◌⊎◌, inl, inr, ℕ, Bool, true, false, List, [], ◌∷◌, ◌++◌, Option, Some, None, refl, sym, ◌∙◌, ap, subst}
use Rattle.std.specs.Prelude.{is_some}
use Rattle.std.specs.declared.result.Result.{Result}
use Rattle.std.specs.declared.result.Result.TheVariants.{Ok, Err}
use Rattle.rgw_types.specs.declared.pool_key.Key.{Key}
use Rattle.object_words.specs.declared.bucket.Bucket.{Bucket}
use Rattle.realm_model.specs.Accounts.{Account, Looked, blank, looked_after}
use Rattle.realm_model.specs.Doors.{DoorView, actor_at}
use Rattle.realm_model.specs.Histories.{account_of}
use Rattle.realm_model.specs.Owns.{OwnEvent, own_events}
use Rattle.realm_model.specs.Settings.{SettingsView}
use Rattle.realm_model.specs.Shown.{row_shown}
use Rattle.realm_model.specs.declared.op.Op.{Op}
use Rattle.realm_model.specs.declared.op.Op.TheVariants.{BucketRead}
use Rattle.realm_model.specs.declared.event.Reply.{Reply}
use Rattle.realm_model.specs.declared.event.Reply.TheVariants.{Row, No}
use Rattle.realm_door.specs.declared.stepping.Stepping.{Stepping}
use Rattle.realm_door.specs.Turns.{MakesEvent}
use Rattle.swift_auth.specs.declared.policy.Deed.TheVariants.{ChangeThing}
use Rattle.task_words.specs.declared.asker.Asker.{Asker}
use Rattle.task_words.specs.declared.outcome.Outcome.TheVariants.{Done}
use Rattle.task_words.specs.declared.reply.MapReply.TheVariants.{Refused}
use Rattle.task_words.specs.declared.reply.Refusal.{Refusal}
use Rattle.task_words.specs.declared.reply.Refusal.TheVariants.{Unauthorized, Denied, NoContainer, NotMet, OtherEtag}
use Rattle.task_words.specs.declared.command.BodyEnd.TheVariants.{Whole}
use Rattle.task_words.specs.Outcomes.{LookedUp, IsPutOutcome}
use Rattle.task_words.specs.Rows.{row_refusal}
use Rattle.index_update.specs.Fits.{Known, known_at, AtRow}
use Rattle.index_update.specs.Stages.{place_of}
use Rattle.index_update.proofs.Knowing.{known_is}
use Rattle.task_put.specs.declared.stage.Draft.{Draft}
use Rattle.task_put.specs.declared.stage.PutRequest.{PutRequest}
use Rattle.task_put.specs.declared.stage.Stage.{Stage}
use Rattle.task_put.specs.declared.stage.Stage.TheVariants.{Looking, Feeding, Ended}
use Rattle.task_put.specs.declared.task.PutTask.{PutTask}
use Rattle.task_put.specs.Orders.{begun, path_after, path_of, IsOrdered}
use Rattle.task_put.specs.Fits.{target_of, body_of, FitsAt}
use Rattle.task_put.specs.Runs.{request_of, stage_of, fault_of, fits}
use Rattle.task_put.specs.Stages.{IsOver, by_first_place, step_of}
use Rattle.task_put.specs.Stepped.{stepped}
use Rattle.task_put.proofs.Running.{stands_of}
use Rattle.task_put.proofs.SoFar.{so_far}
use Rattle.call_words.specs.Calls.{ReadsRowAlone, first_refuses}
use Rattle.put_service.specs.Leaving.{HasLooked}
use Rattle.put_service.specs.Standing.{IsUp, IsLooking}

-- ---- what an own read showed

abbrev row_in : Option Looked → Option Bucket
row_in None = None
row_in (Some look) = look.row

abbrev zone_in : Option Looked → ℕ
zone_in None = 0
zone_in (Some look) = look.zone

abbrev name_in : Option Looked → List ℕ
name_in None = []
name_in (Some look) = look.name

abbrev IsRead : Op → Type 0
IsRead (BucketRead zone name) = Unit {0}
IsRead op = ⊥

-- the first event of a PUT is a read of a row
first_read : (op : Op) (reply : Reply) → IsOrdered (path_after begun op reply) → IsRead op
first_read (BucketRead zone name) reply ordered = tt
first_read op reply ordered = absurd ordered

abbrev refused : Asker → Reply → Bool
refused asker reply = is_some (row_refusal asker (row_shown reply) ChangeThing)

refused_at : (asker : Asker) (zone : ℕ) (container : List ℕ) (refusal : Refusal) (op : Op) (reply : Reply) (number : ℕ) → IsRead op
    → LookedUp zone asker container ChangeThing (Some refusal) (looked_after None op reply number) → (op ≡ BucketRead zone container) × (refused asker reply ≡ true)
refused_at asker zone container refusal (BucketRead z n) (Row row) number read x = (
  (λ i. BucketRead (zone_in (x.is_last i)) (name_in (x.is_last i))) ∙ (λ i. BucketRead (x.in_zone i) (x.under_name i)),
  ap is_some (ap (λ r. row_refusal asker r ChangeThing) (ap row_in x.is_last) ∙ x.refuses),
)
refused_at asker zone container refusal (BucketRead z n) (No why) number read x = (
  (λ i. BucketRead (zone_in (x.is_last i)) (name_in (x.is_last i))) ∙ (λ i. BucketRead (x.in_zone i) (x.under_name i)),
  ap is_some (ap (λ r. row_refusal asker r ChangeThing) (ap row_in x.is_last) ∙ x.refuses),
)
refused_at asker zone container refusal (BucketRead z n) reply number read x = let clash : None ≡ Some x.look = x.is_last in absurd (cc)
refused_at asker zone container refusal op reply number read x = absurd read

granted_at : (asker : Asker) (look : Looked) (row : Bucket) (op : Op) (reply : Reply) (number : ℕ) → IsRead op → look.row ≡ Some row → row_refusal asker (Some row) ChangeThing ≡ None
    → looked_after None op reply number ≡ Some look → (op ≡ BucketRead look.zone look.name) × (refused asker reply ≡ false)
granted_at asker look row (BucketRead z n) (Row shown) number read is grants looked = (
  (λ i. BucketRead (zone_in (looked i)) (name_in (looked i))),
  ap is_some (ap (λ r. row_refusal asker r ChangeThing) (ap row_in looked ∙ is) ∙ grants),
)
granted_at asker look row (BucketRead z n) (No why) number read is grants looked = let clash : None ≡ Some row = ap row_in looked ∙ is in absurd (cc)
granted_at asker look row (BucketRead z n) reply number read is grants looked = let clash : None ≡ Some look = looked in absurd (cc)
granted_at asker look row op reply number read is grants looked = absurd read

-- ---- where the task stands behind it

-- a stage of the body, or a refusal by the row
abbrev StandsBehind : Stage → Type 0
StandsBehind stage = ((write : ℕ) × (key : Key) × (draft : Draft) × (stage ≡ Feeding write key draft)) ⊎ ((refusal : Refusal) × (stage ≡ Ended (Done (Refused refusal))))

placed : (number : ℕ) (draft : Draft) (place : Result Key Refusal) → StandsBehind (by_first_place number draft place)
placed number draft (Ok key) = inl (number, key, draft, refl)
placed number draft (Err refusal) = inr (refusal, refl)

stands_behind : (stage : Stage) (number : ℕ) (reply : Reply) → IsLooking stage → StandsBehind (step_of stage number reply)
stands_behind (Looking draft) number reply looks = placed number draft (place_of draft.target (row_shown reply))
stands_behind stage number reply looks = absurd looks

not_over : (write : ℕ) (key : Key) (draft : Draft) (stage : Stage) → stage ≡ Feeding write key draft → IsOver stage → ⊥
not_over write key draft stage is over = subst IsOver is over

-- a refusal while the body has not ended is one by the row
by_row : (r : PutRequest) (y : Account) (events : List OwnEvent) (refusal : Refusal) → r.end ≡ None → IsPutOutcome r.zone r.asker r.command (body_of r) (Done (Refused refusal)) y events
    → LookedUp r.zone r.asker r.command.container ChangeThing (Some refusal) y.looked
by_row r y events Unauthorized unended x = x.by_row
by_row r y events (Denied rule) unended x = x.by_row
by_row r y events NoContainer unended x = x.by_row
by_row r y events NotMet unended x = let clash : None ≡ Some Whole = sym unended ∙ (x.0).whole in absurd (cc)
by_row r y events OtherEtag unended x = let clash : None ≡ Some Whole = sym unended ∙ (x.0).whole in absurd (cc)
by_row r y events refusal unended x = absurd x

-- ---- the first event

module _ (settings : SettingsView) (d e : DoorView) (moment : ℕ) (made : MakesEvent settings moment d e) (none : own_events d.seen (actor_at d) ≡ []) (new : account_of settings d.seen (actor_at d) ≡ blank)
    (t : Stepping PutTask) (unended : (request_of t).end ≡ None) (sound : fault_of t ≡ None) (up : fits t settings e) where
  abbrev own : OwnEvent
  own = record { op = made.op; reply = (made.answered).reply; number = (made.answered).number; clock = (made.answered).clock }

  abbrev r : PutRequest
  r = request_of t

  events_are : own_events e.seen (actor_at e) ≡ own ∷ []
  events_are = ap (λ (k : Known). k.events) (known_is settings d e made.op moment made.answered made.extends) ∙ ap (λ (es : List OwnEvent). es ++ own ∷ []) none

  looked_is : (account_of settings e.seen (actor_at e)).looked ≡ looked_after None made.op own.reply own.number
  looked_is =
      ap (λ (k : Known). (k.account).looked) (known_is settings d e made.op moment made.answered made.extends)
      ∙ ap (λ (y : Account). looked_after y.looked made.op own.reply own.number) new

  read : IsRead made.op
  read = first_read made.op own.reply (subst (λ es. IsOrdered (path_of es)) events_are (so_far t settings e sound up).ordered)

  stands : FitsAt settings r (stage_of t) (known_at settings e)
  stands = (stands_of t settings e sound up).stands

  at_row : (write : ℕ) (key : Key) (draft : Draft) → stage_of t ≡ Feeding write key draft → AtRow (target_of r) key (known_at settings e)
  at_row write key draft is = (subst (λ s. FitsAt settings r s (known_at settings e)) is stands).2

  granted : (write : ℕ) (key : Key) (draft : Draft) → stage_of t ≡ Feeding write key draft → (made.op ≡ BucketRead r.zone r.command.container) × (refused r.asker own.reply ≡ false)
  granted write key draft is =
      let row = at_row write key draft is in
      granted_at r.asker (record { zone = r.zone; name = r.command.container; row = Some row.row; number = row.number }) row.row made.op own.reply own.number read refl row.granted (sym looked_is ∙ row.looked)

  refused_so : (refusal : Refusal) → stage_of t ≡ Ended (Done (Refused refusal)) → (made.op ≡ BucketRead r.zone r.command.container) × (refused r.asker own.reply ≡ true)
  refused_so refusal is =
      let ended = subst (λ s. FitsAt settings r s (known_at settings e)) is stands in
      let looks = by_row r (account_of settings e.seen (actor_at e)) (own_events e.seen (actor_at e)) refusal unended ended in
      refused_at r.asker r.zone r.command.container refusal made.op own.reply own.number read (subst (LookedUp r.zone r.asker r.command.container ChangeThing (Some refusal)) looked_is looks)

  refuses_so : (refusal : Refusal) → stage_of t ≡ Ended (Done (Refused refusal)) → first_refuses r.asker ChangeThing (own_events e.seen (actor_at e)) ≡ true
  refuses_so refusal is = ap (first_refuses r.asker ChangeThing) events_are ∙ (refused_so refusal is).1

  grants_so : (write : ℕ) (key : Key) (draft : Draft) → stage_of t ≡ Feeding write key draft → first_refuses r.asker ChangeThing (own_events e.seen (actor_at e)) ≡ false
  grants_so write key draft is = ap (first_refuses r.asker ChangeThing) events_are ∙ (granted write key draft is).1

  looks_so : made.op ≡ BucketRead r.zone r.command.container → ReadsRowAlone r.zone r.command.container (own_events e.seen (actor_at e))
  looks_so is = record { look = own; alone = events_are; op = is }

-- what the read of the row showed
pub has_looked : (tells : Type 0) (settings : SettingsView) (d e : DoorView) (t : PutTask) (u : Stepping PutTask) → IsLooking t.stage → (number : ℕ) × (reply : Reply) × (u.stages ≡ stepped t number reply)
    → (tells → (own_events d.seen (actor_at d) ≡ []) × (account_of settings d.seen (actor_at d) ≡ blank)) → (tells → (moment : ℕ) × MakesEvent settings moment d e)
    → (request_of u).end ≡ None → fault_of u ≡ None → IsUp tells settings u e → HasLooked tells u e
has_looked tells settings d e t u looks (number, reply, is) new made unended sound up =
    by_stage (subst StandsBehind (ap (λ (s : PutTask). s.stage) (sym is)) (stands_behind t.stage number reply looks))
  where
    by_stage : StandsBehind (stage_of u) → HasLooked tells u e
    by_stage (inl (write, key, draft, at)) = record {
      refuses = λ over told. absurd (not_over write key draft (stage_of u) at over);
      grants = λ open_still told.
          let m = made told in let n = new told in grants_so settings d e m.0 m.1 n.0 n.1 u unended sound (up told).1 write key draft at;
      looks = λ told.
          let m = made told in let n = new told in
          looks_so settings d e m.0 m.1 n.0 n.1 u unended sound (up told).1 (granted settings d e m.0 m.1 n.0 n.1 u unended sound (up told).1 write key draft at).0;
    }
    by_stage (inr (refusal, at)) = record {
      refuses = λ over told.
          let m = made told in let n = new told in refuses_so settings d e m.0 m.1 n.0 n.1 u unended sound (up told).1 refusal at;
      grants = λ open_still told. absurd (open_still (subst IsOver (sym at) tt));
      looks = λ told.
          let m = made told in let n = new told in
          looks_so settings d e m.0 m.1 n.0 n.1 u unended sound (up told).1 (refused_so settings d e m.0 m.1 n.0 n.1 u unended sound (up told).1 refusal at).0;
    }
