-- Behind the first event of a listing.
use Rattle.std.proofs.Common.{◌≡◌, ◌⊎◌, inl, inr, ℕ, List, [], ◌∷◌, Option, Some, None, refl, sym, subst}
use Rattle.std.proofs.lemmas.List.Elements.{Contains-push}
use Rattle.object_words.specs.declared.bucket.Bucket.{Bucket}
use Rattle.realm_model.specs.Owns.{OwnEvent}
use Rattle.realm_model.specs.declared.event.Reply.{Reply}
use Rattle.realm_model.specs.declared.event.Reply.TheVariants.{Row}
use Rattle.swift_auth.specs.declared.policy.Deed.TheVariants.{ListContainer}
use Rattle.swift_auth.specs.Policies.{verdict_of, found_under}
use Rattle.task_words.specs.declared.asker.Asker.{Asker}
use Rattle.task_words.specs.declared.outcome.Outcome.TheVariants.{Done}
use Rattle.task_words.specs.declared.reply.MapReply.TheVariants.{Listed}
use Rattle.task_words.specs.declared.reply.Refusal.{Refusal}
use Rattle.task_words.specs.Rows.{row_refusal}
use Rattle.task_words.proofs.Refusals.{by_three}
use Rattle.list_words.specs.declared.command.ListCommand.{ListCommand}
use Rattle.task_list.specs.declared.request.ListRequest.{ListRequest}
use Rattle.task_list.specs.declared.stage.Stage.{Stage}
use Rattle.task_list.specs.declared.stage.Stage.TheVariants.{Look, Page, Head, Suggest, Broken, Ended}
use Rattle.task_list.specs.declared.task.ListTask.{ListTask}
use Rattle.task_list.specs.Listed.{asks_row, IsRefusal}
use Rattle.task_list.specs.Stages.{IsRowShown}
use Rattle.realm_model.specs.Shown.{row_shown}
use Rattle.task_list.specs.Tasks.{IsPast, WentOn, AfterRow, Takes, stage_of}

-- a row refuses a listing in one of three ways
pub refusal_is : (asker : Asker) (row : Option Bucket) (refusal : Refusal) → row_refusal asker row ListContainer ≡ Some refusal → IsRefusal refusal
refusal_is asker row refusal is = by_three IsRefusal (verdict_of asker.user asker.account row ListContainer) (found_under asker.account row) refusal is tt (λ rule. tt) tt

-- a listing that went on by a row is past it
past_by : (c : ListCommand) (row : Bucket) (events : List OwnEvent) (stage : Stage) → WentOn 1 c row stage events → IsPast stage
past_by c row events (Page m next) on = tt
past_by c row events (Head m wanted) on = tt
past_by c row events (Suggest m s) on = tt
past_by c row events (Ended (Done (Listed rows))) on = tt
past_by c row events stage on = absurd on

module _ (c : ListCommand) (asker : Asker) where
  past_row : (refusal : Option Refusal) (row : Option Bucket) (stage : Stage) → row_refusal asker row ListContainer ≡ refusal → AfterRow c None refusal row stage → IsPast stage
  past_row (Some refusal) row stage is after =
      subst IsPast (sym after) (refusal_is asker row refusal is)
  past_row None None stage is after = absurd after
  past_row None (Some row) stage is after =
      let own : OwnEvent = record { op = asks_row 1 c; reply = Row row; number = 1; clock = 0 } in
      let shown : IsRowShown 1 c row (own ∷ []) = record { look = own; looked = Contains-push [] own; looks = refl; told = refl } in
      past_by c row (own ∷ []) stage (after 1 (own ∷ []) tt shown)

past_first : (r : ListRequest) (stage next : Stage) (moved now : ℕ) (reply : Reply) → stage ≡ Look None → Takes r stage moved reply next now → IsPast next
past_first r stage next moved now reply is takes =
    let taken = subst (λ s. Takes r s moved reply next now) is takes in
    past_row r.command r.asker (row_refusal r.asker (row_shown reply) ListContainer) (row_shown reply) next refl taken.0

-- the row was read first
pub behind_row : (t u : ListTask) (reply : Reply) → (u.stage ≡ Broken) ⊎ Takes t.request t.stage t.moved reply u.stage u.moved → stage_of t ≡ Look None → IsPast (stage_of u)
behind_row t u reply (inl broken) looks = subst IsPast (sym broken) tt
behind_row t u reply (inr takes) looks = past_first t.request t.stage u.stage t.moved u.moved reply looks takes
