-- A step through a door, and the end of a body or of an update, bring a PUT on.
use Rattle.std.proofs.Common.{◌≡◌, ℕ, ◌≤◌, true, false, cond, List, [], ◌∷◌, ◌++◌, Option, Some, None, refl, sym, ◌∙◌, ap, subst}
use Rattle.realm_model.specs.Settings.{SettingsView}
use Rattle.realm_model.specs.Allowed.{allowed}
use Rattle.realm_model.specs.Doors.{DoorView, actor_at}
use Rattle.realm_model.specs.Histories.{Legal, state_of, phase_of}
use Rattle.realm_model.specs.Maps.{heads}
use Rattle.realm_model.specs.Owns.{OwnEvent}
use Rattle.realm_model.specs.Suits.{Suits}
use Rattle.realm_model.specs.declared.op.Op.{Op}
use Rattle.realm_model.specs.declared.event.Reply.{Reply}
use Rattle.realm_door.specs.declared.door.Answered.{Answered}
use Rattle.realm_door.specs.Steps.{Extends, event_at}
use Rattle.rgw_types.specs.declared.pool_key.Key.{Key}
use Rattle.task_words.specs.declared.command.BodyEnd.{BodyEnd}
use Rattle.task_words.specs.declared.command.BodyEnd.TheVariants as ends
use Rattle.task_words.specs.declared.reply.MapReply.TheVariants.{Refused}
use Rattle.task_words.specs.declared.reply.Refusal.TheVariants.{OtherEtag}
use Rattle.task_words.specs.declared.outcome.Outcome.{Outcome}
use Rattle.task_words.specs.declared.outcome.Outcome.TheVariants.{Done, BodyFailed}
use Rattle.task_words.specs.Answers.{is_other_etag}
use Rattle.md5.specs.Md5.{md5}
use Rattle.index_update.specs.declared.stage.Stage.{Stage as UpdateStage}
use Rattle.index_update.specs.declared.stage.Stage.TheVariants as ups
use Rattle.index_update.specs.declared.update.IndexUpdate.{IndexUpdate}
use Rattle.index_update.specs.Fits.{Known, known_at, Start, HasShards, IsAnswer, FitsAt as UpdateFitsAt, Fits as UpdateFits}
use Rattle.index_update.specs.Fits.{IsAt as IsUpdateAt}
use Rattle.index_update.specs.Paths.{path_from}
use Rattle.index_update.specs.Updates.{asked_of, IsEnd}
use Rattle.index_update.proofs.Knowing.{before, front, not_less, more_made, numbered_later, known_is}
use Rattle.index_update.proofs.ChangingAnswers.{answered_so}
use Rattle.index_update.proofs.Stepping.{may_next}
use Rattle.task_put.specs.declared.stage.PutRequest.{PutRequest}
use Rattle.task_put.specs.declared.stage.Draft.{Draft}
use Rattle.task_put.specs.declared.stage.Stage.{Stage}
use Rattle.task_put.specs.declared.stage.Stage.TheVariants.{Looking, Feeding, Changing, Ended}
use Rattle.task_put.specs.declared.task.PutTask.{PutTask}
use Rattle.task_put.specs.Bodies.{has_tail}
use Rattle.task_put.specs.Cuts.{IsSliced}
use Rattle.task_put.specs.Orders.{path_of, IsFinished}
use Rattle.task_put.specs.Stages.{IsReady, IsBody, op_of, left_of, resumed, step_of, closed, update_of, after_stage, after_update, settled}
use Rattle.task_put.specs.Taking.{at_target, normal}
use Rattle.task_put.specs.Fits.{FitsAt, IsAt, IsInOrder, Fits, MayCome, IsKept}
use Rattle.task_put.specs.Tasks.{request_of, at_stage, fits, IsPutEnd}
use Rattle.task_put.proofs.Ordering.{in_order, path_more}
use Rattle.task_put.proofs.Knowing.{fits_later}
use Rattle.task_put.proofs.Looking.{may_look, looking_kept}
use Rattle.task_put.proofs.Tailing.{feeding_may, feeding_kept, closed_fits, at_feeding}
use Rattle.task_put.proofs.Slicing.{step_sliced}
use Rattle.task_put.proofs.Updating.{ended_so}

-- ---- the target is that of the request

target_same : (r : PutRequest) (settings : SettingsView) (stage : Stage) (k : Known) → FitsAt settings r stage k → normal r stage ≡ stage
target_same r settings (Looking draft) k f = λ i. Looking (record { target = sym f.0.target i; body = draft.body; kind = draft.kind; meta = draft.meta; etag = draft.etag; when = draft.when })
target_same r settings (Feeding write key draft) k f = λ i. Feeding write key (record { target = sym f.0.target i; body = draft.body; kind = draft.kind; meta = draft.meta; etag = draft.etag; when = draft.when })
target_same r settings (Changing etag u) k f = refl
target_same r settings (Ended outcome) k f = refl

-- ---- a stage of the body

body_still : (r : PutRequest) (stage : Stage) → IsBody stage → IsBody (normal r stage)
body_still r (Looking draft) body = body
body_still r (Feeding write key draft) body = body
body_still r (Changing etag u) body = absurd body
body_still r (Ended outcome) body = absurd body

module _ (settings : SettingsView) (r : PutRequest) (k : Known) where
  may_come : (stage : Stage) → 1 ≤ r.zone → r.zone ≤ settings.zones → IsBody stage → FitsAt settings r (normal r stage) k → MayCome settings (normal r stage) k
  may_come (Looking draft) low high body f = may_look settings r k.phase low high
  may_come (Feeding write key draft) low high body f = feeding_may settings r write key draft k f body low high
  may_come (Changing etag u) low high body f = absurd body
  may_come (Ended outcome) low high body f = absurd body

  kept : (stage : Stage) (reply : Reply) → IsBody stage → FitsAt settings r (normal r stage) k → IsKept settings r (normal r stage) k reply
  kept (Looking draft) reply body f = looking_kept settings r draft k reply f
  kept (Feeding write key draft) reply body f = feeding_kept settings r write key draft k f body reply
  kept (Changing etag u) reply body f = absurd body
  kept (Ended outcome) reply body f = absurd body

-- whatever the target of the draft
pub may_so : (settings : SettingsView) (r : PutRequest) (k : Known) (stage : Stage) → 1 ≤ r.zone → r.zone ≤ settings.zones → IsBody stage → FitsAt settings r stage k → MayCome settings stage k
may_so settings r k stage low high body f =
    let same = target_same r settings stage k f in
    subst (λ g. MayCome settings g k) same (may_come settings r k stage low high body (subst (λ g. FitsAt settings r g k) (sym same) f))

pub kept_so : (settings : SettingsView) (r : PutRequest) (k : Known) (stage : Stage) (reply : Reply) → IsBody stage → FitsAt settings r stage k → IsKept settings r stage k reply
kept_so settings r k stage reply body f =
    let same = target_same r settings stage k f in
    subst (λ g. IsKept settings r g k reply) same (kept settings r k stage reply body (subst (λ g. FitsAt settings r g k) (sym same) f))

-- what is known of the order, of a stage at which no update is on its way
in_order_at : (settings : SettingsView) (r : PutRequest) (stage : Stage) (events : List OwnEvent) → IsAt stage (path_of events) → IsSliced settings.stripe r stage events → IsInOrder settings r stage events
in_order_at settings r (Looking draft) events is s = (is, s)
in_order_at settings r (Feeding write key draft) events is s = (is, s)
in_order_at settings r (Changing etag u) events is s = tt
in_order_at settings r (Ended outcome) events is s = (is, s)

body_order : (settings : SettingsView) (r : PutRequest) (stage : Stage) (events : List OwnEvent) → IsBody stage → IsInOrder settings r stage events → IsAt stage (path_of events) × IsSliced settings.stripe r stage events
body_order settings r (Looking draft) events body o = o
body_order settings r (Feeding write key draft) events body o = o
body_order settings r (Changing etag u) events body o = absurd body
body_order settings r (Ended outcome) events body o = absurd body

module _ (settings : SettingsView) (d e : DoorView) (r : PutRequest) (given : Stage) (moment : ℕ) (a : Answered) where
  abbrev stage : Stage
  stage = normal r given

  abbrev op : Op
  op = op_of stage

  abbrev stage_now : Stage
  stage_now = step_of stage a.number a.reply

  next_fits : IsBody given → Suits op a.reply → HasShards a.reply → Fits settings r stage (known_at settings d) → Extends settings d op moment a e → Fits settings r stage_now (known_at settings e)
  next_fits body suits shards f step =
      let was = before settings d e op moment a step in
      let maps = heads (front settings d e op moment a step) in
      let fits_before = fits_later settings r (known_at settings d) was.last was.made (not_less settings d e op moment a step) (more_made settings d e op moment a step) stage f.stands in
      let legal : Legal settings (front settings d e op moment a step ++ event_at d op moment a.reply ∷ []) = subst (Legal settings) step.ends step.legal in
      let clock = step.clock ∙ ap (λ s. (state_of settings s).clock) step.ends in
      let answers : IsAnswer maps a.clock op a.reply = answered_so settings (front settings d e op moment a step) (event_at d op moment a.reply) a.clock legal clock shards in
      let stands = kept settings r was given a.reply body fits_before maps a.number a.clock (numbered_later settings d e op moment a step) suits answers in
      let own : OwnEvent = record { op = op; reply = a.reply; number = a.number; clock = a.clock } in
      let o = body_order settings r stage was.events (body_still r given body) f.order in
      let order = in_order stage (path_of was.events) a.number a.reply (body_still r given body) suits o.0 in
      let ordered : IsAt stage_now (path_of (was.events ++ own ∷ [])) = subst (IsAt stage_now) (sym (path_more was.events own)) order in
      subst (Fits settings r stage_now) (sym (known_is settings d e op moment a step)) (record {
        low = f.low;
        high = f.high;
        named = f.named;
        stands = stands;
        order = in_order_at settings r stage_now (was.events ++ own ∷ []) ordered (step_sliced settings r given was a.number a.clock a.reply body fits_before suits o.1);
      })

-- ---- the task

pub fits_next : (settings : SettingsView) (d e : DoorView) (t : PutTask) (op : Op) (moment : ℕ) (a : Answered) → IsBody t.stage → op ≡ op_of t.stage → Suits op a.reply → HasShards a.reply
    → fits t settings d → Extends settings d op moment a e → fits (at_stage t (step_of t.stage a.number a.reply)) settings e
fits_next settings d e t op moment a body op_is suits shards f step =
    let r : PutRequest = request_of t in
    let s = f in
    let same = target_same r settings t.stage (known_at settings d) s.stands in
    let is : op ≡ op_of (normal r t.stage) = op_is ∙ ap (λ g. op_of g) (sym same) in
    (subst (λ g. Fits settings r (step_of g a.number a.reply) (known_at settings e)) same
    (next_fits settings d e r t.stage moment a body (subst (λ o. Suits o a.reply) is suits) shards (subst (λ g. Fits settings r g (known_at settings d)) (sym same) s) (subst (λ o. Extends settings d o moment a e) is step)))

may_body : (settings : SettingsView) (d : DoorView) (t : PutTask) (stage : Stage) → t.stage ≡ stage → IsBody stage → fits t settings d → allowed settings (phase_of settings d.seen (actor_at d)) (op_of stage) ≡ true
may_body settings d t stage is body f =
    let s = subst (λ g. Fits settings (request_of t) g (known_at settings d)) is f in
    may_so settings (request_of t) (known_at settings d) stage s.low s.high body s.stands

-- ---- the end of an update

after_fits : (settings : SettingsView) (r : PutRequest) (etag : List ℕ) (u : IndexUpdate) (k : Known) (stage : UpdateStage) → u.stage ≡ stage → Fits settings r (Changing etag u) k → Fits settings r (after_stage etag u stage) k
after_fits settings r etag u k (ups.Ended end) is f =
    let s = f.stands.0 in
    let v = f.stands.2 in
    let e : IsEnd s u end k = record {
      ends = subst (λ g. UpdateFitsAt (asked_of s u) u.tried g k) is v.stands;
      mine = v.mine;
      follow = v.follow;
      finished = subst (λ g. IsUpdateAt g (path_from s.from v.mine)) is v.order;
      own = v.own;
    } in
    let so = ended_so settings r s etag u f.stands.1 k end e in
    record { low = f.low; high = f.high; named = f.named; stands = so.0; order = so.1 }
after_fits settings r etag u k (ups.Looking change) is f = f
after_fits settings r etag u k (ups.Preparing key change) is f = f
after_fits settings r etag u k (ups.Announcing key guard change) is f = f
after_fits settings r etag u k (ups.Writing key guard change) is f = f
after_fits settings r etag u k (ups.Cancelling key tag after) is f = f
after_fits settings r etag u k (ups.Completing key made) is f = f
after_fits settings r etag u k (ups.LookingForShard made) is f = f

-- ---- the body's end

at_end : (settings : SettingsView) (r : PutRequest) (write : ℕ) (key : Key) (draft : Draft) (k : Known) (outcome : Outcome) → IsInOrder settings r (Feeding write key draft) k.events → IsInOrder settings r (Ended outcome) k.events
at_end settings r write key draft k outcome o = (subst IsFinished (sym (at_feeding write key draft (path_of k.events) o.0)) tt, record { cut = o.1.cut; made = tt })

closed_order : (settings : SettingsView) (r : PutRequest) (write : ℕ) (key : Key) (draft : Draft) (k : Known) (end : Option BodyEnd) → IsInOrder settings r (Feeding write key draft) k.events → IsInOrder settings r (closed write key draft end) k.events
closed_order settings r write key draft k None o = o
closed_order settings r write key draft k (Some ends.Failed) o = at_end settings r write key draft k BodyFailed o
closed_order settings r write key draft k (Some ends.Whole) o =
    elim (is_other_etag draft.etag draft.body.bytes) as (λ b. IsInOrder settings r (cond b (Ended (Done (Refused OtherEtag))) (Changing (md5 draft.body.bytes) (update_of write key draft))) k.events) [
      | true ↦ at_end settings r write key draft k (Done (Refused OtherEtag)) o
      | false ↦ tt
    ]

settled_fits : (settings : SettingsView) (r : PutRequest) (given : Stage) (k : Known) → Fits settings r (normal r given) k → Fits settings r (settled (normal r given)) k
settled_fits settings r (Looking draft) k f = f
settled_fits settings r (Feeding write key given) k f =
    let draft : Draft = at_target r given in
    elim (has_tail given.body) as (λ b. has_tail given.body ≡ b → Fits settings r (cond b (Feeding write key draft) (closed write key draft draft.body.end)) k) [
      | true ↦ λ waits. f
      | false ↦ λ none. record {
        low = f.low;
        high = f.high;
        named = f.named;
        stands = closed_fits settings r write key given k f.low f.high f.named f.order f.stands none draft.body.end refl;
        order = closed_order settings r write key draft k draft.body.end f.order;
      }
    ] refl
settled_fits settings r (Changing etag u) k f = after_fits settings r etag u k u.stage refl f
settled_fits settings r (Ended outcome) k f = f

pub settled_so : (settings : SettingsView) (r : PutRequest) (stage : Stage) (k : Known) → Fits settings r stage k → Fits settings r (settled stage) k
settled_so settings r stage k f =
    let same = target_same r settings stage k f.stands in
    subst (λ g. Fits settings r (settled g) k) same (settled_fits settings r stage k (subst (λ g. Fits settings r g k) (sym same) f))

pub settled_task : (settings : SettingsView) (d : DoorView) (t : PutTask) → fits t settings d → fits (at_stage t (settled t.stage)) settings d
settled_task settings d t = settled_so settings (request_of t) t.stage (known_at settings d)

-- an event of the update brings the PUT on
pub update_on : (settings : SettingsView) (d e : DoorView) (t : PutTask) (etag : List ℕ) (u v : IndexUpdate) → t.stage ≡ Changing etag u → v.target ≡ u.target
    → ((s : Start) → UpdateFits settings (asked_of s u) u.tried u.stage (known_at settings d) → UpdateFits settings (asked_of s v) v.tried v.stage (known_at settings e))
    → fits t settings d → fits (at_stage t (after_update etag v)) settings e
update_on settings d e t etag u v is target on f =
    let r : PutRequest = request_of t in
    let s = subst (λ g. Fits settings r g (known_at settings d)) is f in
    let b = s.stands.1 in
    (after_fits settings r etag v (known_at settings e) v.stage refl (record {
      low = s.low;
      high = s.high;
      named = s.named;
      stands = (
        s.stands.0,
        record {
          new = b.new;
          when = b.when;
          change = b.change;
          target = target ∙ b.target;
          etag_is = b.etag_is;
          from = b.from;
          content = b.content;
          untried = b.untried;
          order = b.order;
          stripe = b.stripe;
          cut = b.cut;
          unchanged = b.unchanged;
        },
        on s.stands.0 s.stands.2,
      );
      order = tt;
    }))

-- what the update stands on
pub update_of_task : (settings : SettingsView) (d : DoorView) (t : PutTask) (etag : List ℕ) (u : IndexUpdate) → t.stage ≡ Changing etag u → fits t settings d → (s : Start) × UpdateFits settings (asked_of s u) u.tried u.stage (known_at settings d)
update_of_task settings d t etag u is f =
    let s = subst (λ g. Fits settings (request_of t) g (known_at settings d)) is f in
    (s.stands.0, s.stands.2)

-- what the outcome means
pub means_it : (t : PutTask) (settings : SettingsView) (d : DoorView) (outcome : Outcome) → t.stage ≡ Ended outcome → fits t settings d → IsPutEnd (request_of t) outcome settings d
means_it t settings d outcome ended f =
    let s = subst (λ g. Fits settings (request_of t) g (known_at settings d)) ended f in
    (s.stands, s.order.0, s.order.1.cut)

may_at : (settings : SettingsView) (d : DoorView) (t : PutTask) (stage : Stage) → t.stage ≡ stage → IsReady stage → fits t settings d → allowed settings (phase_of settings d.seen (actor_at d)) (op_of stage) ≡ true
may_at settings d t (Looking draft) is ready f = may_body settings d t (Looking draft) is ready f
may_at settings d t (Feeding write key draft) is ready f = may_body settings d t (Feeding write key draft) is ready f
may_at settings d t (Changing etag u) is ready f = let so = update_of_task settings d t etag u is f in may_next so.0 settings d u ready so.1
may_at settings d t (Ended outcome) is ready f = absurd ready

-- the operation that comes next is one that the actor may make
pub may_go_on : (settings : SettingsView) (d : DoorView) (t : PutTask) → IsReady t.stage → fits t settings d → allowed settings (phase_of settings d.seen (actor_at d)) (op_of t.stage) ≡ true
may_go_on settings d t = may_at settings d t t.stage refl

-- what is left is brought to the next stage
pub resumed_so : (stage : Stage) (number : ℕ) (reply : Reply) → IsBody stage → resumed (left_of stage) number reply ≡ step_of stage number reply
resumed_so (Looking draft) number reply body = refl
resumed_so (Feeding write key draft) number reply body = refl
resumed_so (Changing etag u) number reply body = absurd body
resumed_so (Ended outcome) number reply body = absurd body
