-- The operation of a PUT is taken out, and its answer brings the PUT on.
use Rattle.std.proofs.Common.{◌≡◌, ℕ, List, [], refl, sym, ◌∙◌, ap, subst}
use Rattle.realm_model.specs.Doors.{DoorView}
use Rattle.realm_model.specs.Histories.{Legal, world_of}
use Rattle.realm_model.specs.Settings.{SettingsView}
use Rattle.realm_model.specs.Suits.{Suits}
use Rattle.realm_model.specs.declared.event.Reply.{Reply}
use Rattle.realm_door.specs.declared.door.Answered.{Answered}
use Rattle.realm_door.specs.Steps.{Extends}
use Rattle.realm_door.specs.Waiting.{Waited}
use Rattle.index_update.specs.declared.stage.Rest.{Rest}
use Rattle.index_update.specs.declared.update.IndexUpdate.{IndexUpdate}
use Rattle.index_update.specs.Fits.{Start, HasShards, known_at}
use Rattle.index_update.specs.Updates.{IsTaken as IsUpdateTaken, next_op, stepped as update_stepped, fits as update_fits}
use Rattle.index_update.proofs.Knowing.{longer, made_now, known_now}
use Rattle.task_put.specs.declared.stage.Stage.{Stage}
use Rattle.task_put.specs.declared.stage.Stage.TheVariants.{Looking, Feeding, Changing, Ended}
use Rattle.task_put.specs.declared.task.PutTask.{PutTask}
use Rattle.task_put.specs.Fits.{Fits}
use Rattle.task_put.specs.Stages.{IsBody, op_of, left_of, draft_rest, resumed, step_of, after_update}
use Rattle.task_put.specs.Stepped.{stepped}
use Rattle.task_put.specs.Tasks.{request_of, at_stage, fits, IsLeft}
use Rattle.task_put.proofs.Knowing.{others_keep}
use Rattle.task_put.proofs.Stepping.{fits_next, resumed_so, update_on}

-- what the task is but for its stage stays
at_left : (t u : PutTask) (stage : Stage) → u ≡ at_stage t u.stage → at_stage u stage ≡ at_stage t stage
at_left t u stage is = ap (λ (x : PutTask). at_stage x stage) is

-- ---- what is left

-- of an update that
abbrev pub IsUpdateLeft : Rest → Stage → Stage → Type 0
IsUpdateLeft rest stage left =
    (etag : List ℕ) × (u : IndexUpdate) × (v : IndexUpdate) × (stage ≡ Changing etag u) × (left ≡ Changing etag v) × IsUpdateTaken u v rest

apart : (stage other left : Stage) → left ≡ stage → left ≡ other → stage ≡ other
apart stage other left one two = sym one ∙ two

pub update_left : (rest : Rest) (stage left : Stage) (e : List ℕ) (v : IndexUpdate) → left ≡ Changing e v → IsLeft rest stage left → IsUpdateLeft rest stage left
update_left rest (Looking draft) left e v is l = let no : ⊥ = cc (apart (Looking draft) (Changing e v) left l.1 is) in absurd no
update_left rest (Feeding write key draft) left e v is l = let no : ⊥ = cc (apart (Feeding write key (draft_rest draft)) (Changing e v) left l.1 is) in absurd no
update_left rest (Changing etag u) left e v is l = (etag, u, l.0, refl, l.1, l.2)
update_left rest (Ended outcome) left e v is l = absurd l.0

pub body_left : (rest : Rest) (stage left : Stage) → ((e : List ℕ) (v : IndexUpdate) → left ≡ Changing e v → ⊥) → IsLeft rest stage left → IsBody stage × (left ≡ left_of stage)
body_left rest (Looking draft) left other l = l
body_left rest (Feeding write key draft) left other l = l
body_left rest (Changing etag u) left other l = absurd (other etag l.0 l.1)
body_left rest (Ended outcome) left other l = l

-- ---- of a body

module _ (t u w : PutTask) (same : u ≡ at_stage t u.stage) (left : IsBody t.stage × (u.stage ≡ left_of t.stage)) where
  pub body_steps : (number : ℕ) (reply : Reply) → w ≡ at_stage u (resumed u.stage number reply) → w ≡ stepped t number reply
  body_steps number reply is =
      is ∙ at_left t u (resumed u.stage number reply) same
      ∙ ap (λ (s : Stage). at_stage t s) (ap (λ (s : Stage). resumed s number reply) left.1 ∙ resumed_so t.stage number reply left.0)

  pub body_fits : (a : Answered) → w ≡ at_stage u (resumed u.stage a.number a.reply) → Suits (op_of t.stage) a.reply → HasShards a.reply
      → (settings : SettingsView) (d e : DoorView) (moment : ℕ) → fits t settings d → Extends settings d (op_of t.stage) moment a e → fits w settings e
  body_fits a is suits shards settings d e moment f step =
      subst (λ (x : PutTask). fits x settings e) (sym (body_steps a.number a.reply is))
      (fits_next settings d e t (op_of t.stage) moment a left.0 (λ i. op_of t.stage) suits shards f step)

-- ---- of an update

module _ (t u w : PutTask) (rest : Rest) (same : u ≡ at_stage t u.stage) (l : IsUpdateLeft rest t.stage u.stage) where
  pub op_is : op_of t.stage ≡ next_op l.1
  op_is = ap (λ (s : Stage). op_of s) l.3

  pub update_steps : (number : ℕ) (reply : Reply) → w ≡ at_stage u (after_update l.0 (update_stepped l.1 reply)) → w ≡ stepped t number reply
  update_steps number reply is =
      is ∙ at_left t u (after_update l.0 (update_stepped l.1 reply)) same
      ∙ ap (λ (s : Stage). at_stage t (step_of s number reply)) (sym l.3)

  pub update_brings : (a : Answered) → w ≡ at_stage u (after_update l.0 (update_stepped l.1 a.reply))
      → (settings : SettingsView) (d e : DoorView) (moment : ℕ)
      → ((s : Start) → update_fits s l.1 settings d → Extends settings d (next_op l.1) moment a e → update_fits s (update_stepped l.1 a.reply) settings e)
      → fits t settings d → Extends settings d (op_of t.stage) moment a e → fits w settings e
  update_brings a is settings d e moment on f step =
      let v : IndexUpdate = update_stepped l.1 a.reply in
      let step_now : Extends settings d (next_op l.1) moment a e = subst (λ o. Extends settings d o moment a e) op_is step in
      subst (λ (x : PutTask). fits x settings e) (sym (is ∙ at_left t u (after_update l.0 v) same))
      (update_on settings d e t l.0 l.1 v l.3 (λ i. l.1.target) (λ s g. on s g step_now) f)

-- ---- the update of a stage

abbrev etag_in : Stage → List ℕ
etag_in (Changing etag u) = etag
etag_in stage = []

abbrev update_in : IndexUpdate → Stage → IndexUpdate
update_in other (Changing etag u) = u
update_in other stage = other

module _ (e etag : List ℕ) (u v : IndexUpdate) (same : Changing e u ≡ Changing etag v) where
  pub same_etag : e ≡ etag
  same_etag = ap (λ (s : Stage). etag_in s) same

  pub same_update : u ≡ v
  same_update = ap (λ (s : Stage). update_in u s) same

-- ---- an actor that waits

pub waits : (t : PutTask) (settings : SettingsView) (d e : DoorView) → Waited settings d e → Legal settings e.seen → fits t settings d → fits t settings e
waits t settings d e w legal f =
    subst (Fits settings (request_of t) t.stage) (sym (known_now settings d e w legal))
    (others_keep settings (request_of t) (known_at settings d) _ (world_of settings e.seen).stripes.made (longer settings d e w legal) (made_now settings d e w legal) t.stage f)
