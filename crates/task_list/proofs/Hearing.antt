-- What a stage keeps of what was told, and what it owes, when one event more comes.
use Rattle.std.proofs.Common.{◌≡◌, ℕ, cond, List, [], ◌∷◌, ◌++◌, Option, Some, None, refl, sym, ◌∙◌, ap, subst}
use Rattle.object_words.specs.declared.bucket.Bucket.{Bucket}
use Rattle.object_words.specs.declared.head.HeadSeen.{HeadSeen}
use Rattle.object_words.proofs.KeyLemmas.{number_itself}
use Rattle.realm_model.specs.Owns.{OwnEvent}
use Rattle.realm_model.specs.Suits.{Suits}
use Rattle.realm_model.specs.declared.op.Op.{Op}
use Rattle.realm_model.specs.declared.event.Reply.{Reply}
use Rattle.realm_model.specs.declared.event.Reply.TheVariants.{Head as head_reply}
use Rattle.task_list.specs.declared.request.ListRequest.{ListRequest}
use Rattle.task_list.specs.declared.stage.Stage.{Stage}
use Rattle.task_list.specs.declared.stage.Stage.TheVariants.{Look, Page, Head, Suggest, Broken, Ended}
use Rattle.task_list.specs.Repairs.{Told, told_after, told_by, untold, suggestion, owed_by, owed_after, suggested, IsRepairing}
use Rattle.realm_model.specs.Shown.{page_shown}
use Rattle.task_list.specs.Sightings.{IsInOrder, StageTold, owes}
use Rattle.task_list.specs.Tasks.{IsGoing, op_of, TakesTold, Heard}

told-push : (t : Told) (events : List OwnEvent) (own : OwnEvent) → told_by t (events ++ own ∷ []) ≡ told_after (told_by t events) own.op own.reply
told-push t [] own = refl
told-push t (e ∷ es) own = told-push (told_after t e.op e.reply) es own

repairs-push : (t : Told) (owed : Option Op) (events : List OwnEvent) (own : OwnEvent) (last : Option Op) → IsRepairing t owed events last → suggested own.op ≡ last
    → IsRepairing t owed (events ++ own ∷ []) (owed_after (told_by t events) own.op own.reply)
repairs-push t owed [] own last is asks = (asks ∙ sym is, refl)
repairs-push t owed (e ∷ es) own last is asks = (is.0, repairs-push (told_after t e.op e.reply) (owed_after t e.op e.reply) es own last is.1 asks)

-- the stage's operation suggests what the stage owes
suggests_owed : (r : ListRequest) (stage : Stage) → suggested (op_of r stage) ≡ owes r.zone stage
suggests_owed r (Look known) = refl
suggests_owed r (Page m next) = refl
suggests_owed r (Head m wanted) = refl
suggests_owed r (Suggest m s) = refl
suggests_owed r Broken = refl
suggests_owed r (Ended outcome) = refl

-- no page waits beside the one that comes next
abbrev pub IsReady : Stage → Type 0
IsReady (Page m next) = m.used_up ≡ None
IsReady stage = Unit {0}

-- a page that was asked for is by rising name
abbrev pub IsAnswerInOrder : Stage → Reply → Type 0
IsAnswerInOrder (Page m next) reply = IsInOrder (page_shown reply)
IsAnswerInOrder stage reply = Unit {0}

abbrev Hears : ListRequest → Stage → Reply → Stage → Told → Type 0
Hears r stage reply next t = StageTold next (told_after t (op_of r stage) reply) × (owes r.zone next ≡ owed_after t (op_of r stage) reply)

owed_head : (row : Option Bucket) (m : Bucket) (t : Told) (zone : ℕ) (name : List ℕ) (head : HeadSeen) → row ≡ Some m → suggestion zone m name (t.seen name) head ≡ owed_by row t.seen zone m.id name head
owed_head row m t zone name head is =
    sym (ap (λ o. owed_by o t.seen zone m.id name head) is ∙ ap (λ b. cond b (suggestion zone m name (t.seen name) head) None) (number_itself m.id))

hears : (r : ListRequest) (stage : Stage) (reply : Reply) (next : Stage) (t : Told) → IsGoing stage → Suits (op_of r stage) reply → IsAnswerInOrder stage reply → IsReady stage → TakesTold stage reply next → StageTold stage t → Hears r stage reply next t
hears r (Look known) reply next t going suits order ready takes keeps = (takes.0, takes.1 r.zone)
hears r (Page m page) reply next t going suits order ready takes keeps =
    let went = takes t keeps ready order in (went.0, went.1 r.zone)
hears r (Head m wanted) (head_reply head clock) next t going suits order ready takes keeps =
    let came = takes t keeps in (came.0, came.1 r.zone ∙ owed_head t.row m.row t r.zone wanted.name head (keeps.pages).row_is)
hears r (Head m wanted) reply next t going suits order ready takes keeps = absurd suits
hears r (Suggest m s) reply next t going suits order ready takes keeps =
    let went = takes t keeps in (went.0, went.1 r.zone)
hears r Broken reply next t going suits order ready takes keeps = absurd going
hears r (Ended outcome) reply next t going suits order ready takes keeps = absurd going

pub hear : (r : ListRequest) (stage : Stage) (reply : Reply) (next : Stage) (events : List OwnEvent) (number clock : ℕ) → IsGoing stage → Suits (op_of r stage) reply → IsAnswerInOrder stage reply → IsReady stage → TakesTold stage reply next → Heard r stage events
    → Heard r next (events ++ (record { op = op_of r stage; reply = reply; number = number; clock = clock }) ∷ [])
hear r stage reply next events number clock going suits order ready takes heard =
    let own : OwnEvent = record { op = op_of r stage; reply = reply; number = number; clock = clock } in
    let t = told_by untold events in
    let now = hears r stage reply next t going suits order ready takes heard.told in
    record {
      told = subst (StageTold next) (sym (told-push untold events own)) now.0;
      repairs = subst (IsRepairing untold None (events ++ own ∷ [])) (sym now.1)
          (repairs-push untold None events own (owes r.zone stage) heard.repairs (suggests_owed r stage));
    }
