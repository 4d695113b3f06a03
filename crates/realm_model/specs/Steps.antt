-- What one operation answers, and which object it changes. An operation touches at most one object.
use Rattle.std.specs.Prelude.{ℕ, ◌+◌, ◌==◌, Bool, List, Option, Some, None}
use Rattle.object_words.specs.declared.bucket.Bucket.{Bucket}
use Rattle.object_words.specs.declared.entry.Tag.{Tag}
use Rattle.object_words.specs.declared.log.LogWhat.TheVariants.{Shard as shard_row}
use Rattle.object_words.specs.declared.why.Why.{Why}
use Rattle.object_words.specs.declared.why.Why.TheVariants.{Absent, Closed}
use Rattle.object_words.specs.Keys.{head_key, tail_key}
use Rattle.object_words.specs.Names.{at}
use Rattle.object_words.specs.Numbers.{next}
use Rattle.object_words.specs.Tags.{tag_of, guard_of}
use Rattle.object_words.specs.Logs.{logged}
use Rattle.object_words.specs.Shards.{Shard, stats_of}
use Rattle.object_words.specs.Refusals.{first_refusal, unless_refused, fate_refusal}
use Rattle.object_words.specs.ShardCalls.{made, prepare_refusal, prepared, complete_refusal, completed, cancelled, suggest_refusal, untimely_refusal, suggested, page_of}
use Rattle.object_words.specs.HeadCalls.{seen, write_refusal, written, change_of}
use Rattle.object_words.specs.HoldCalls.{close_refusal, closed, released, shut_down}
use Rattle.object_words.specs.Roots.{swap_refusal, swapped}
use Rattle.object_words.specs.Pages.{account_names, bucket_names}
use Rattle.object_words.specs.Tails.{tail_refusal, tail_made, read_refusal, bytes_at}
use Rattle.realm_model.specs.Settings.{SettingsView}
use Rattle.realm_model.specs.States.{State, number_next, Touch, nothing, at_root, at_shard, at_head, at_tail, at_changes, touched}
use Rattle.realm_model.specs.declared.op.Op.{Op}
use Rattle.realm_model.specs.declared.op.Op.TheVariants.{BucketRead, BucketSwap, AccountPage, BucketPage, ShardMake, Prepare, Complete, Cancel, Page, Suggest, Stats as stats_op, CloseShard, Release, Shut, HeadRead, HeadWrite, TailMake, TailRead, Announce}
use Rattle.realm_model.specs.declared.event.Reply.{Reply}
use Rattle.realm_model.specs.declared.event.Reply.TheVariants.{Done, No, Row, Names, Prepared, Entries, Stats, Head as head_reply, Changed, Bytes, Position}

-- zone 1 is the master of the containers
abbrev pub is_master : ℕ → Bool
is_master zone = zone == 1

-- the answer, or the refusal
abbrev pub reply_or : Reply → Option Why → Reply
reply_or reply None = reply
reply_or reply (Some why) = No why

-- a shard that was never made is closed
abbrev pub on_shard : Option Shard → (Shard → Reply) → Reply
on_shard None reply = No Closed
on_shard (Some s) reply = reply s

-- a shard that was never made stays so
abbrev pub change_at : Option Shard → (Shard → Shard) → Option Shard
change_at None change = None
change_at (Some s) change = Some (change s)

-- a row that is there, or that none is
abbrev pub row_reply : Option Bucket → Reply
row_reply None = No Absent
row_reply (Some row) = Row row

-- the tag that a preparation gives now
abbrev pub new_tag : SettingsView → State → Tag
new_tag settings st = tag_of (number_next st) st.clock settings.tag_life

-- an event that suggests is refused for a reason of its own besides
abbrev pub suggest_event_refusal : Shard → List ℕ → ℕ → ℕ → Option Why
suggest_event_refusal s name revision seen = first_refusal (untimely_refusal s name revision seen) (suggest_refusal s name revision)

-- what an operation is answered
abbrev pub reply_of : SettingsView → State → Op → Reply
reply_of settings st (BucketRead zone name) = row_reply (at (st.root zone).buckets name)
reply_of settings st (BucketSwap zone name expected new) = reply_or Done (swap_refusal (st.root zone) name expected)
reply_of settings st (AccountPage zone account after limit) = Names (account_names (st.root zone) account after limit)
reply_of settings st (BucketPage zone after limit) = Names (bucket_names (st.root zone) after limit)
reply_of settings st (ShardMake zone key) = Done
reply_of settings st (Prepare zone key name) =
    on_shard (st.shards zone key) (λ s. reply_or (Prepared (guard_of (new_tag settings st))) (prepare_refusal s))
reply_of settings st (Complete zone key name tag version row) =
    on_shard (st.shards zone key) (λ s. reply_or Done (complete_refusal s name tag))
reply_of settings st (Cancel zone key name tag) =
    on_shard (st.shards zone key) (λ s. reply_or Done (complete_refusal s name tag))
reply_of settings st (Page zone key after limit) =
    on_shard (st.shards zone key) (λ s. reply_or (Entries (page_of s after limit st.clock)) (fate_refusal s.fate))
reply_of settings st (Suggest zone key name revision moment version row) =
    on_shard (st.shards zone key) (λ s. reply_or Done (suggest_event_refusal s name revision moment))
reply_of settings st (stats_op zone key) =
    on_shard (st.shards zone key) (λ s. reply_or (Stats (stats_of s)) (fate_refusal s.fate))
reply_of settings st (CloseShard zone key id force) =
    on_shard (st.shards zone key) (λ s. reply_or Done (close_refusal s id force))
reply_of settings st (Release zone key id) = Done
reply_of settings st (Shut zone key) = Done
reply_of settings st (HeadRead zone container name) =
    head_reply (seen (st.heads zone (head_key container name)) (number_next st)) st.clock
reply_of settings st (HeadWrite zone container name guard new when) =
    let head = st.heads zone (head_key container name) in
    let after = written head guard new when zone (number_next st) st.clock (st.free zone) settings.frame in
    reply_or (Changed (change_of head after)) (write_refusal head guard new when st.clock (st.free zone) settings.frame)
reply_of settings st (TailMake zone write part bytes) = reply_or Done (tail_refusal bytes (st.free zone) settings.frame)
reply_of settings st (TailRead zone write part start count) =
    let tail = st.tails zone (tail_key write part) in reply_or (Bytes (bytes_at tail start count)) (read_refusal tail st.clock)
reply_of settings st (Announce zone container instance shard bucket) = Position (next (st.changes zone).last)

-- which object an operation touches, and what it becomes
abbrev pub touch_of : SettingsView → State → Op → Touch
touch_of settings st (BucketRead zone name) = nothing
touch_of settings st (BucketSwap zone name expected new) =
    at_root zone (swapped (st.root zone) name expected new (is_master zone) (number_next st))
touch_of settings st (AccountPage zone account after limit) = nothing
touch_of settings st (BucketPage zone after limit) = nothing
touch_of settings st (ShardMake zone key) = at_shard zone key (made (st.shards zone key))
touch_of settings st (Prepare zone key name) =
    at_shard zone key (change_at (st.shards zone key) (λ s. prepared s name (new_tag settings st)))
touch_of settings st (Complete zone key name tag version row) =
    at_shard zone key (change_at (st.shards zone key) (λ s. completed s name tag version row))
touch_of settings st (Cancel zone key name tag) =
    at_shard zone key (change_at (st.shards zone key) (λ s. cancelled s name tag))
touch_of settings st (Page zone key after limit) = nothing
touch_of settings st (Suggest zone key name revision moment version row) =
    at_shard zone key (change_at (st.shards zone key) (λ s.
    unless_refused (suggest_event_refusal s name revision moment) s (suggested s name revision moment version row)))
touch_of settings st (stats_op zone key) = nothing
touch_of settings st (CloseShard zone key id force) =
    at_shard zone key (change_at (st.shards zone key) (λ s. closed s id force))
touch_of settings st (Release zone key id) = at_shard zone key (change_at (st.shards zone key) (λ s. released s id))
touch_of settings st (Shut zone key) = at_shard zone key (change_at (st.shards zone key) shut_down)
touch_of settings st (HeadRead zone container name) = nothing
touch_of settings st (HeadWrite zone container name guard new when) =
    let key = head_key container name in
    at_head zone key (written (st.heads zone key) guard new when zone (number_next st) st.clock (st.free zone) settings.frame)
touch_of settings st (TailMake zone write part bytes) =
    let key = tail_key write part in at_tail zone key (tail_made (st.tails zone key) bytes (st.free zone) settings.frame)
touch_of settings st (TailRead zone write part start count) = nothing
touch_of settings st (Announce zone container instance shard bucket) =
    at_changes zone (logged (st.changes zone) (shard_row container instance shard bucket))

-- one event more
abbrev pub counted : State → State
counted st = record st { count = st.count + 1 }

-- what an operation leaves, in the state at its moment
abbrev pub after : SettingsView → State → Op → State
after settings st op = counted (touched settings st (touch_of settings st op))
