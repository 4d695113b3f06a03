-- A task that ended with a reply made an event.
use Rattle.std.proofs.Common.{◌≡◌, ℕ, List, [], Option, Some, None}
use Rattle.realm_model.specs.Accounts.{blank}
use Rattle.realm_model.specs.Owns.{OwnEvent}
use Rattle.realm_model.specs.Settings.{SettingsView}
use Rattle.swift_auth.specs.declared.policy.Deed.{Deed}
use Rattle.swift_requests.specs.declared.asked.Asked.{Asked}
use Rattle.swift_requests.specs.declared.asked.Asked.TheVariants.{Put, Unfed}
use Rattle.swift_requests.specs.declared.asked.UnfedCommand.{UnfedCommand}
use Rattle.swift_requests.specs.declared.asked.UnfedCommand.TheVariants.{Get, Listing, Container, Account as OfAccount}
use Rattle.task_account.specs.declared.request.AccountRequest.{AccountRequest}
use Rattle.task_container.specs.declared.request.ContainerRequest.{ContainerRequest}
use Rattle.task_words.specs.declared.asker.Asker.{Asker}
use Rattle.task_words.specs.declared.command.GetCommand.{GetCommand}
use Rattle.task_words.specs.declared.command.PutCommand.{PutCommand}
use Rattle.task_words.specs.declared.outcome.Outcome.{Outcome}
use Rattle.task_words.specs.declared.outcome.Outcome.TheVariants.{Done, BodyFailed, Busy, MovedOften, RacedOften, LateTag, LateRead, NoSpace}
use Rattle.task_words.specs.declared.reply.MapReply.{MapReply}
use Rattle.task_words.specs.declared.reply.MapReply.TheVariants as Map
use Rattle.task_words.specs.declared.reply.Refusal.{Refusal}
use Rattle.task_words.specs.declared.reply.Refusal.TheVariants.{Unauthorized, Denied, NoContainer, NoObject, NotMet, NoRange, OtherEtag}
use Rattle.task_words.specs.Answers.{Command}
use Rattle.task_list.specs.declared.request.ListRequest.{ListRequest}
use Rattle.task_list.specs.Listed.{IsListReply, IsListOutcome}
use Rattle.task_words.specs.Outcomes.{LookedUp, ByMap, Body, IsGetReply, IsGetOutcome, IsPutReply, IsPutOutcome}
use Rattle.call_words.specs.Bodies.{Fate}
use Rattle.call_words.specs.Ends.{TaskEnd, on_object, on_container, on_account}
use Rattle.call_words.specs.Calls.{body_at, IsGrantedAlone, IsGetEnd, IsListEnd, container_request, account_request, IsContainerEndOver, IsAccountEndOver, IsUnfedBorneOut, IsBorneOut}

none_some : {X : Type 0} (x : X) → None ≡ Some x → ⊥
none_some x e = absurd (cc)

no_look : (zone : ℕ) (asker : Asker) (container : List ℕ) (deed : Deed) (refusal : Option Refusal) → LookedUp zone asker container deed refusal None → ⊥
no_look zone asker container deed refusal x = none_some x.look x.is_last

no_map : (zone : ℕ) (asker : Asker) (command : Command) (reply : MapReply) → ByMap zone asker command reply None → ⊥
no_map zone asker command reply x = none_some x.event x.is_last

get_reply : (zone : ℕ) (asker : Asker) (c : GetCommand) (reply : MapReply) → IsGetReply zone asker c reply blank → ⊥
get_reply zone asker c (Map.Refused Unauthorized) x = no_look _ _ _ _ _ x.by_row
get_reply zone asker c (Map.Refused (Denied rule)) x = no_look _ _ _ _ _ x.by_row
get_reply zone asker c (Map.Refused NoContainer) x = no_look _ _ _ _ _ x.by_row
get_reply zone asker c (Map.Refused NoObject) x = no_map _ _ _ _ x.0
get_reply zone asker c (Map.Refused NotMet) x = no_map _ _ _ _ x.0
get_reply zone asker c (Map.Refused (NoRange size)) x = no_map _ _ _ _ x.0
get_reply zone asker c (Map.Refused OtherEtag) x = no_map _ _ _ _ x.0
get_reply zone asker c (Map.Stored etag stamp) x = no_map _ _ _ _ x.0
get_reply zone asker c (Map.Same etag stamp) x = no_map _ _ _ _ x.0
get_reply zone asker c (Map.Shown kind meta etag stamp size start count) x = no_map _ _ _ _ x.0
get_reply zone asker c (Map.Counted row objects bytes) x = no_map _ _ _ _ x.0
get_reply zone asker c (Map.Listed rows) x = no_map _ _ _ _ x.0

get_outcome : (zone : ℕ) (asker : Asker) (c : GetCommand) (outcome : Outcome) → IsGetOutcome zone asker c outcome blank → ⊥
get_outcome zone asker c (Done reply) x = get_reply zone asker c reply x
get_outcome zone asker c (LateRead read_at clock) x = no_map _ _ _ _ x.by_map
get_outcome zone asker c BodyFailed x = x
get_outcome zone asker c (Busy id) x = x
get_outcome zone asker c MovedOften x = x
get_outcome zone asker c RacedOften x = x
get_outcome zone asker c LateTag x = x
get_outcome zone asker c (NoSpace free needed) x = x

put_reply : (zone : ℕ) (asker : Asker) (c : PutCommand) (body : Body) (reply : MapReply) (events : List OwnEvent) → IsPutReply zone asker c body reply blank events → ⊥
put_reply zone asker c body (Map.Refused Unauthorized) events x = no_look _ _ _ _ _ x.by_row
put_reply zone asker c body (Map.Refused (Denied rule)) events x = no_look _ _ _ _ _ x.by_row
put_reply zone asker c body (Map.Refused NoContainer) events x = no_look _ _ _ _ _ x.by_row
put_reply zone asker c body (Map.Refused NoObject) events x = x
put_reply zone asker c body (Map.Refused NotMet) events x = no_map _ _ _ _ x.1
put_reply zone asker c body (Map.Refused (NoRange size)) events x = x
put_reply zone asker c body (Map.Refused OtherEtag) events x = no_look _ _ _ _ _ x.1.by_row
put_reply zone asker c body (Map.Stored etag stamp) events x = no_map _ _ _ _ x.1
put_reply zone asker c body (Map.Same etag stamp) events x = x
put_reply zone asker c body (Map.Shown kind meta etag stamp size start count) events x = x
put_reply zone asker c body (Map.Counted row objects bytes) events x = x
put_reply zone asker c body (Map.Listed rows) events x = x

put_outcome : (zone : ℕ) (asker : Asker) (c : PutCommand) (body : Body) (outcome : Outcome) (events : List OwnEvent) → IsPutOutcome zone asker c body outcome blank events → ⊥
put_outcome zone asker c body (Done reply) events x = put_reply zone asker c body reply events x
put_outcome zone asker c body BodyFailed events x = no_look _ _ _ _ _ x.1.by_row
put_outcome zone asker c body (Busy id) events x = no_look _ _ _ _ _ x.0.by_row
put_outcome zone asker c body MovedOften events x = no_look _ _ _ _ _ x.0.by_row
put_outcome zone asker c body RacedOften events x = x
put_outcome zone asker c body LateTag events x = no_look _ _ _ _ _ x.0.by_row
put_outcome zone asker c body (LateRead read_at clock) events x = x
put_outcome zone asker c body (NoSpace free needed) events x = no_look _ _ _ _ _ x.0.by_row

list_reply : (r : ListRequest) (reply : MapReply) (events : List OwnEvent) → IsListReply r reply blank events → ⊥
list_reply r (Map.Listed rows) events x = none_some x.look x.is_last
list_reply r (Map.Refused refusal) events x = no_look _ _ _ _ _ x.1
list_reply r reply events x = x

list_outcome : (r : ListRequest) (outcome : Outcome) (events : List OwnEvent) → IsListOutcome r outcome blank events → ⊥
list_outcome r (Done reply) events x = list_reply r reply events x.0
list_outcome r MovedOften events x = no_look _ _ _ _ _ x.0
list_outcome r outcome events x = x

-- the row is not granted to it either
ungranted : (zone : ℕ) (asker : Asker) (container : List ℕ) (deed : Deed) (events : List OwnEvent) → IsGrantedAlone zone asker container deed blank events → ⊥
ungranted zone asker container deed events x = no_look _ _ _ _ _ x.0.by_row

get_end : (zone : ℕ) (asker : Asker) (c : GetCommand) (fate : Fate) (outcome : Outcome) (events : List OwnEvent) → IsGetEnd zone asker c fate outcome blank events → ⊥
get_end zone asker c fate BodyFailed events x = ungranted zone asker c.container _ events x
get_end zone asker c fate (Done reply) events x = get_outcome zone asker c (Done reply) x.0
get_end zone asker c fate (Busy id) events x = get_outcome zone asker c (Busy id) x.0
get_end zone asker c fate MovedOften events x = get_outcome zone asker c MovedOften x.0
get_end zone asker c fate RacedOften events x = get_outcome zone asker c RacedOften x.0
get_end zone asker c fate LateTag events x = get_outcome zone asker c LateTag x.0
get_end zone asker c fate (LateRead read_at clock) events x = get_outcome zone asker c (LateRead read_at clock) x.0
get_end zone asker c fate (NoSpace free needed) events x = get_outcome zone asker c (NoSpace free needed) x.0

list_end : (r : ListRequest) (fate : Fate) (outcome : Outcome) (events : List OwnEvent) → IsListEnd r fate outcome blank events → ⊥
list_end r fate BodyFailed events x = ungranted r.zone r.asker r.command.container _ events x
list_end r fate (Done reply) events x = list_outcome r (Done reply) events x.0
list_end r fate (Busy id) events x = list_outcome r (Busy id) events x.0
list_end r fate MovedOften events x = list_outcome r MovedOften events x.0
list_end r fate RacedOften events x = list_outcome r RacedOften events x.0
list_end r fate LateTag events x = list_outcome r LateTag events x.0
list_end r fate (LateRead read_at clock) events x = list_outcome r (LateRead read_at clock) events x.0
list_end r fate (NoSpace free needed) events x = list_outcome r (NoSpace free needed) events x.0

-- ---- containers and accounts

container_end : (r : ContainerRequest) (settings : SettingsView) (fate : Fate) (end : TaskEnd) → IsContainerEndOver r settings fate end blank [] → ⊥
container_end r settings fate (on_object BodyFailed) x = let none = x.reads.alone in absurd (cc)
container_end r settings fate (on_object outcome) x = x
container_end r settings fate (on_container outcome) x = let ends = x.0.ended in absurd (cc)
container_end r settings fate (on_account outcome) x = x

account_end : (r : AccountRequest) (fate : Fate) (end : TaskEnd) → IsAccountEndOver r fate end blank [] → ⊥
account_end r fate (on_object BodyFailed) x = let none = x.1.alone in absurd (cc)
account_end r fate (on_object outcome) x = x
account_end r fate (on_container outcome) x = x
account_end r fate (on_account outcome) x = let ends = x.0.ends in absurd (cc)

-- ---- what was asked

unfed_end : (settings : SettingsView) (zone : ℕ) (asker : Asker) (u : UnfedCommand) (fate : Fate) (end : TaskEnd) (shown : List ℕ) → IsUnfedBorneOut settings zone asker u fate end shown blank [] → ⊥
unfed_end settings zone asker (Get c) fate (on_object outcome) shown x = get_end zone asker c fate outcome [] x.0
unfed_end settings zone asker (Listing c l) fate (on_object outcome) shown x = list_end (record { zone = zone; asker = asker; command = c }) fate outcome [] x.0
unfed_end settings zone asker (Container c) fate end shown x = container_end (container_request zone asker c) settings fate end x.0
unfed_end settings zone asker (OfAccount c l) fate end shown x = account_end (account_request zone asker c) fate end x.0
unfed_end settings zone asker u fate end shown x = x

-- nothing is borne out by an actor without events
pub not_blank : (settings : SettingsView) (zone : ℕ) (asked : Asked) (fate : Fate) (body shown : List ℕ) (end : TaskEnd) → IsBorneOut settings zone asked fate body end shown blank [] → ⊥
not_blank settings zone (Put asker c) fate body shown (on_object outcome) x = put_outcome zone asker c (body_at fate body) outcome [] x.0
not_blank settings zone (Unfed asker u) fate body shown end x = unfed_end settings zone asker u fate end shown x.0
not_blank settings zone asked fate body shown end x = x
