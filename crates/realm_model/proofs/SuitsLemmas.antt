-- The answer of the step suits its operation.
use Rattle.std.proofs.Common.{ℕ, Bool, true, false, cond, List, [], ◌∷◌, length, Option, Some, None}
use Rattle.std.specs.Prelude.{IfSome, nat_lt, nat_le, ◌==◌, ◌&&◌, not}
use Rattle.object_words.specs.declared.entry.Guard.{Guard}
use Rattle.object_words.specs.declared.head.NewHead.{NewHead}
use Rattle.object_words.specs.declared.head.Conditions.{Conditions}
use Rattle.object_words.specs.declared.shard.Fate.{Fate}
use Rattle.object_words.specs.declared.shard.Fate.TheVariants as Fates
use Rattle.object_words.specs.declared.shard.Hold.{Hold}
use Rattle.object_words.specs.declared.shard.Hold.TheVariants.{Free, Reshard, Closing}
use Rattle.object_words.specs.declared.why.Why.{Why}
use Rattle.object_words.specs.declared.why.Why.TheVariants.{Raced, Held, Moved, Closed, Fenced, NotEmpty, Unsettled, NoTag, Stale, Expired, Gone}
use Rattle.object_words.specs.Keys.{head_key, tail_key}
use Rattle.object_words.specs.Names.{at}
use Rattle.object_words.specs.Tags.{has_tag, has_due}
use Rattle.object_words.specs.Shards.{Shard, entry_at}
use Rattle.object_words.specs.Refusals.{first_refusal, fate_refusal, hold_refusal, change_refusal}
use Rattle.object_words.specs.ShardCalls.{tag_refusal, complete_refusal, stale_refusal, suggest_refusal, untimely_refusal}
use Rattle.object_words.specs.Conditions.{fails}
use Rattle.object_words.specs.Heads.{Head, etag_of, frames_for}
use Rattle.object_words.specs.Names.{entries}
use Rattle.object_words.specs.Entries.{EntryView}
use Rattle.object_words.specs.HoldCalls.{hold_number, fence_refusal, greater_refusal, take_refusal, entry_refusal, close_refusal}
use Rattle.object_words.specs.HeadCalls.{guard_refusal, condition_refusal, space_refusal, write_refusal}
use Rattle.object_words.specs.Roots.{version_of, swap_refusal}
use Rattle.object_words.specs.Tails.{is_there, tail_refusal, read_refusal}
use Rattle.realm_model.specs.Settings.{SettingsView}
use Rattle.realm_model.specs.States.{State}
use Rattle.realm_model.specs.Steps.{reply_or, on_shard, row_reply, suggest_event_refusal, reply_of}
use Rattle.realm_model.specs.Suits.{IsLeft, IsBarred, IsUntagged, IsOutdated, IsNotClosed, IsUnwritten, Suits}
use Rattle.realm_model.specs.declared.op.Op.{Op}
use Rattle.realm_model.specs.declared.op.Op.TheVariants.{BucketRead, BucketSwap, AccountPage, BucketPage, ShardMake, Prepare, Complete, Cancel, Page, Suggest, Stats, CloseShard, Release, Shut, HeadRead, HeadWrite, TailMake, TailRead, Announce}
use Rattle.realm_model.specs.declared.event.Reply.{Reply}
use Rattle.realm_model.specs.declared.event.Reply.TheVariants.{No}

-- ---- refusals

first_is : (P : Why → Type 0) (a b : Option Why) → IfSome a P → IfSome b P → IfSome (first_refusal a b) P
first_is P None b one two = two
first_is P (Some why) b one two = one

weaker : (P Q : Why → Type 0) (a : Option Why) → ((why : Why) → P why → Q why) → IfSome a P → IfSome a Q
weaker P Q None more is = tt
weaker P Q (Some why) more is = more why is

-- a refusal that comes where a test passes
tested : (P : Why → Type 0) (test : Bool) (why : Why) → P why → IfSome (cond test (Some why) None) P
tested P true why is = is
tested P false why is = tt

untested : (P : Why → Type 0) (test : Bool) (why : Why) → P why → IfSome (cond test None (Some why)) P
untested P true why is = tt
untested P false why is = is

fate_left : (fate : Fate) → IfSome (fate_refusal fate) IsLeft
fate_left Fates.Serving = tt
fate_left (Fates.Moved instance) = tt
fate_left Fates.Closed = tt

hold_barred : (hold : Hold) → IfSome (hold_refusal hold) IsBarred
hold_barred Free = tt
hold_barred (Reshard number) = tt
hold_barred (Closing number) = tt

left_barred : (why : Why) → IsLeft why → IsBarred why
left_barred (Moved instance) is = tt
left_barred Closed is = tt
left_barred why is = absurd is

barred_untagged : (why : Why) → IsBarred why → IsUntagged why
barred_untagged NoTag is = tt
barred_untagged why is = is

barred_outdated : (why : Why) → IsBarred why → IsOutdated why
barred_outdated (Stale revision) is = tt
barred_outdated why is = is

barred_not_closed : (why : Why) → IsBarred why → IsNotClosed why
barred_not_closed (Fenced fence) is = tt
barred_not_closed (NotEmpty name) is = tt
barred_not_closed (Unsettled name) is = tt
barred_not_closed why is = is

change_barred : (s : Shard) → IfSome (change_refusal s) IsBarred
change_barred s =
    first_is IsBarred (fate_refusal s.fate) (hold_refusal s.hold) (weaker IsLeft IsBarred (fate_refusal s.fate) left_barred (fate_left s.fate))
    (hold_barred s.hold)

complete_untagged : (s : Shard) (name : List ℕ) (tag : ℕ) → IfSome (complete_refusal s name tag) IsUntagged
complete_untagged s name tag =
    first_is IsUntagged (change_refusal s) (tag_refusal (entry_at s name) tag)
    (weaker IsBarred IsUntagged (change_refusal s) barred_untagged (change_barred s))
    (untested IsUntagged (has_tag tag (entry_at s name).tags) NoTag tt)

suggest_outdated : (s : Shard) (name : List ℕ) (revision seen : ℕ) → IfSome (suggest_event_refusal s name revision seen) IsOutdated
suggest_outdated s name revision seen =
    let e = entry_at s name in
    first_is IsOutdated (untimely_refusal s name revision seen) (suggest_refusal s name revision)
    (tested IsOutdated (e.revision == revision && not (has_due seen e.tags)) (Stale e.revision) tt)
    (first_is IsOutdated (change_refusal s) (stale_refusal e revision)
    (weaker IsBarred IsOutdated (change_refusal s) barred_outdated (change_barred s))
    (untested IsOutdated (e.revision == revision) (Stale e.revision) tt))

entry_not_closed : (es : List (List ℕ × EntryView)) (force : Bool) → IfSome (entry_refusal es force) IsNotClosed
entry_not_closed [] force = tt
entry_not_closed (e ∷ es) force =
    elim (length (e.1).tags == 0) as (λ b. IfSome (cond b (cond force None (Some (NotEmpty e.0))) (Some (Unsettled e.0))) IsNotClosed) [
      | true ↦ untested IsNotClosed force (NotEmpty e.0) tt
      | false ↦ tt
    ]

close_not_closed : (s : Shard) (id : ℕ) (force : Bool) → IfSome (close_refusal s id force) IsNotClosed
close_not_closed s id force =
    first_is IsNotClosed (take_refusal s id) (entry_refusal (entries s.entries) force)
    (first_is IsNotClosed (fate_refusal s.fate) _
    (weaker IsLeft IsNotClosed (fate_refusal s.fate) (λ why is. barred_not_closed why (left_barred why is)) (fate_left s.fate))
    (first_is IsNotClosed (fence_refusal s id) (greater_refusal s id) (tested IsNotClosed (nat_le id s.fence) (Fenced s.fence) tt)
    (tested IsNotClosed (nat_lt id (hold_number s.hold)) (Held (hold_number s.hold)) tt)))
    (entry_not_closed (entries s.entries) force)

write_unwritten : (head : Head) (guard : Guard) (new : NewHead) (when : Conditions) (clock free frame : ℕ) → IfSome (write_refusal head guard new when clock free frame) IsUnwritten
write_unwritten head guard new when clock free frame =
    first_is IsUnwritten (guard_refusal guard clock) _
    (tested IsUnwritten (nat_le guard.deadline clock) (Expired guard.deadline clock) tt)
    (first_is IsUnwritten (condition_refusal when head.slot) (space_refusal free (frames_for frame new.first))
    (tested IsUnwritten (fails when (etag_of head.slot)) _ tt)
    (tested IsUnwritten (nat_lt free (frames_for frame new.first)) _ tt))

-- ---- answers

answer_suits : (op : Op) (reply : Reply) (refusal : Option Why) → Suits op reply → IfSome refusal (λ why. Suits op (No why)) → Suits op (reply_or reply refusal)
answer_suits op reply None done refused = done
answer_suits op reply (Some why) done refused = refused

shard_suits : (op : Op) (shard : Option Shard) (reply : Shard → Reply) → Suits op (No Closed) → ((s : Shard) → Suits op (reply s)) → Suits op (on_shard shard reply)
shard_suits op None reply closed suits = closed
shard_suits op (Some s) reply closed suits = suits s

pub reply_suits : (settings : SettingsView) (st : State) (op : Op) → Suits op (reply_of settings st op)
reply_suits settings st (BucketRead zone name) =
    elim (at (st.root zone).buckets name) as (λ found. Suits (BucketRead zone name) (row_reply found)) [ None ↦ tt | Some row ↦ tt ]
reply_suits settings st (BucketSwap zone name expected new) =
    let version = version_of (at (st.root zone).buckets name) in
    answer_suits (BucketSwap zone name expected new) _ (swap_refusal (st.root zone) name expected) tt
    (untested (λ why. Suits (BucketSwap zone name expected new) (No why)) (version == expected) (Raced version) tt)
reply_suits settings st (AccountPage zone account after limit) = tt
reply_suits settings st (BucketPage zone after limit) = tt
reply_suits settings st (ShardMake zone key) = tt
reply_suits settings st (Prepare zone key name) =
    shard_suits (Prepare zone key name) (st.shards zone key) _ tt
    (λ s. answer_suits (Prepare zone key name) _ (change_refusal s) tt (change_barred s))
reply_suits settings st (Complete zone key name tag version row) =
    shard_suits (Complete zone key name tag version row) (st.shards zone key) _ tt
    (λ s. answer_suits (Complete zone key name tag version row) _ (complete_refusal s name tag) tt (complete_untagged s name tag))
reply_suits settings st (Cancel zone key name tag) =
    shard_suits (Cancel zone key name tag) (st.shards zone key) _ tt
    (λ s. answer_suits (Cancel zone key name tag) _ (complete_refusal s name tag) tt (complete_untagged s name tag))
reply_suits settings st (Page zone key after limit) =
    shard_suits (Page zone key after limit) (st.shards zone key) _ tt
    (λ s. answer_suits (Page zone key after limit) _ (fate_refusal s.fate) tt (fate_left s.fate))
reply_suits settings st (Suggest zone key name revision seen version row) =
    shard_suits (Suggest zone key name revision seen version row) (st.shards zone key) _ tt
    (λ s.
    answer_suits (Suggest zone key name revision seen version row) _ (suggest_event_refusal s name revision seen) tt
    (suggest_outdated s name revision seen))
reply_suits settings st (Stats zone key) =
    shard_suits (Stats zone key) (st.shards zone key) _ tt
    (λ s. answer_suits (Stats zone key) _ (fate_refusal s.fate) tt (fate_left s.fate))
reply_suits settings st (CloseShard zone key id force) =
    shard_suits (CloseShard zone key id force) (st.shards zone key) _ tt
    (λ s. answer_suits (CloseShard zone key id force) _ (close_refusal s id force) tt (close_not_closed s id force))
reply_suits settings st (Release zone key id) = tt
reply_suits settings st (Shut zone key) = tt
reply_suits settings st (HeadRead zone container name) = tt
reply_suits settings st (HeadWrite zone container name guard new when) =
    let head = st.heads zone (head_key container name) in
    answer_suits (HeadWrite zone container name guard new when) _
    (write_refusal head guard new when st.clock (st.free zone) settings.frame) tt
    (write_unwritten head guard new when st.clock (st.free zone) settings.frame)
reply_suits settings st (TailMake zone write part bytes) =
    let needed = frames_for settings.frame bytes in
    answer_suits (TailMake zone write part bytes) _ (tail_refusal bytes (st.free zone) settings.frame) tt
    (tested (λ why. Suits (TailMake zone write part bytes) (No why)) (nat_lt (st.free zone) needed) _ tt)
reply_suits settings st (TailRead zone write part start count) =
    let tail = st.tails zone (tail_key write part) in
    answer_suits (TailRead zone write part start count) _ (read_refusal tail st.clock) tt
    (untested (λ why. Suits (TailRead zone write part start count) (No why)) (is_there tail) (Gone st.clock) tt)
reply_suits settings st (Announce zone container instance shard bucket) = tt
