-- Where an update stands, and how an answer brings it on.
use Rattle.std.specs.Prelude.{◌≡◌, ℕ, ◌+◌, ◌-◌, ◌^◌, ◌==◌, nat_lt, min, Bool, true, false, List, Option, Some, None, if◌then◌else◌}
use Rattle.std.specs.declared.result.Result.{Result}
use Rattle.std.specs.declared.result.Result.TheVariants.{Ok, Err}
use Rattle.rgw_types.specs.declared.pool_key.Key.{Key}
use Rattle.object_words.specs.declared.bucket.Bucket.{Bucket}
use Rattle.object_words.specs.declared.entry.Guard.{Guard}
use Rattle.object_words.specs.declared.why.Why.{Why}
use Rattle.object_words.specs.declared.why.Why.TheVariants as whys
use Rattle.object_words.specs.Hashes.{shard_of}
use Rattle.object_words.specs.Rows.{RowView}
use Rattle.object_words.specs.Keys.{shard_key, container_of, instance_of, number_of}
use Rattle.realm_model.specs.Accounts.{is_left}
use Rattle.realm_model.specs.declared.op.Op.{Op}
use Rattle.realm_model.specs.declared.op.Op.TheVariants as ops
use Rattle.realm_model.specs.declared.event.Reply.{Reply}
use Rattle.realm_model.specs.declared.event.Reply.TheVariants as replies
use Rattle.realm_model.specs.Shown.{row_shown}
use Rattle.realm_door.specs.Steps.{back_of}
use Rattle.swift_auth.specs.declared.policy.Deed.TheVariants.{ChangeThing}
use Rattle.task_words.specs.declared.reply.Refusal.{Refusal}
use Rattle.task_words.specs.declared.reply.Refusal.TheVariants.{NoContainer}
use Rattle.task_words.specs.Outcomes.{most_moved, most_expired}
use Rattle.task_words.specs.Rows.{row_refusal}
use Rattle.index_update.specs.Changes.{head_op, change_back}
use Rattle.index_update.specs.declared.head_change.HeadChange.{HeadChange}
use Rattle.index_update.specs.declared.stage.Target.{Target}
use Rattle.index_update.specs.declared.stage.Change.{Change}
use Rattle.index_update.specs.declared.stage.Unfinished.{Unfinished}
use Rattle.index_update.specs.declared.stage.Tried.{Tried}
use Rattle.index_update.specs.declared.stage.Updated.TheVariants as ends
use Rattle.index_update.specs.declared.stage.After.{After}
use Rattle.index_update.specs.declared.stage.After.TheVariants.{Again, End}
use Rattle.index_update.specs.declared.stage.Stage.{Stage}
use Rattle.index_update.specs.declared.stage.Stage.TheVariants.{Looking, Preparing, Announcing, Writing, Cancelling, Completing, LookingForShard, Ended}
use Rattle.index_update.specs.declared.stage.Rest.{Rest}
use Rattle.index_update.specs.declared.stage.Rest.TheVariants.{Stands, Write, Complete}

-- ---- stages

-- the end is there
abbrev pub IsOver : Stage → Type 0
IsOver (Ended end) = Unit {0}
IsOver stage = ⊥

-- an operation comes next
abbrev pub IsReady : Stage → Type 0
IsReady (Ended end) = ⊥
IsReady stage = Unit {0}

-- its operation takes the change or the row along
abbrev pub TakesAlong : Stage → Type 0
TakesAlong (Writing key guard change) = Unit {0}
TakesAlong (Completing key made) = Unit {0}
TakesAlong stage = ⊥

-- ---- operations

-- the shard that a row has for a name
abbrev pub shard_for : Bucket → List ℕ → Key
shard_for row name = shard_key row.id row.instance (shard_of name row.shards)

-- the operation that comes next
abbrev pub op_of : Target → Stage → Op
op_of t (Looking change) = ops.BucketRead t.zone t.container
op_of t (Preparing key change) = ops.Prepare t.zone key t.name
op_of t (Announcing key guard change) =
    ops.Announce t.zone (container_of key) (instance_of key) (number_of key) t.container
op_of t (Writing key guard change) = head_op t.zone (container_of key) t.name guard change
op_of t (Cancelling key tag after) = ops.Cancel t.zone key t.name tag
op_of t (Completing key made) = ops.Complete t.zone key t.name made.tag made.version made.row
op_of t (LookingForShard made) = ops.BucketRead t.zone t.container
op_of t (Ended end) = ops.BucketRead t.zone t.container

-- what is kept meanwhile
abbrev pub rest_of : Stage → Rest
rest_of (Writing key guard change) = Write key guard
rest_of (Completing key made) =
    Complete (record { home = made.home; tag = made.tag; version = made.version; stamp = made.stamp; old = made.old })
rest_of stage = Stands

-- the stage that is left meanwhile: it stands, unless its operation takes of it
abbrev pub IsLeft : Stage → Stage → Type 0
IsLeft (Writing key guard change) left = Unit {0}
IsLeft (Completing key made) left = Unit {0}
IsLeft stage left = left ≡ stage

-- ---- answers

-- one more, up to the greatest number
abbrev pub one_more : ℕ → ℕ
one_more n = min (n + 1) (2 ^ 32 - 1)

-- the tag's life was over
abbrev pub is_late : Reply → Bool
is_late (replies.No (whys.Expired deadline clock)) = true
is_late reply = false

-- the counts with one answer more
abbrev pub tried_after : Tried → Reply → Tried
tried_after x reply = record {
  moved = if is_left reply then one_more x.moved else x.moved;
  expired = if is_late reply then one_more x.expired else x.expired;
}

-- the shard for the name, or why the row refuses it
abbrev pub place_by : Option Refusal → Option Bucket → List ℕ → Result Key Refusal
place_by (Some refusal) row name = Err refusal
place_by None None name = Err NoContainer
place_by None (Some row) name = Ok (shard_for row name)

abbrev pub place_of : Target → Option Bucket → Result Key Refusal
place_of t row = place_by (row_refusal t.asker row ChangeThing) row t.name

-- the row was read
abbrev pub by_place : HeadChange → Result Key Refusal → Stage
by_place change (Err refusal) = Ended (ends.Refused refusal)
by_place change (Ok key) = Preparing key change

-- the row is read again, unless that came too often
abbrev pub look_again : Tried → HeadChange → Stage
look_again x change = if nat_lt x.moved most_moved then Looking change else Ended ends.MovedOften

-- a tag was given, or not
abbrev pub by_tag : Tried → Key → HeadChange → Reply → Stage
by_tag x key change (replies.Prepared guard) = Announcing key guard change
by_tag x key change (replies.No (whys.Held id)) = Ended (ends.Busy id)
by_tag x key change reply = look_again x change

-- what comes after the cancel of a tag whose life was over
abbrev pub after_late : Tried → HeadChange → After
after_late x change = if nat_lt x.expired most_expired then Again change else End ends.LateTag

-- the tag's life was over
abbrev pub by_lateness : Tried → Option HeadChange → After
by_lateness x None = End ends.NotMet
by_lateness x (Some change) = after_late x change

-- what comes after the cancel of a tag under which the head was not changed
abbrev pub by_refusal : Tried → Why → Option Op → After
by_refusal x (whys.Expired deadline clock) back = by_lateness x (change_back back)
by_refusal x (whys.NoSpace free needed) back = End (ends.NoSpace free needed)
by_refusal x why back = End ends.NotMet

-- the head was changed, or not
abbrev pub by_change : Tried → Key → Guard → Reply → Option Op → Stage
by_change x key guard (replies.Changed made) back =
    Completing key (record { home = key; tag = guard.tag; version = made.version; row = made.row; stamp = made.stamp; old = made.old })
by_change x key guard (replies.No why) back = Cancelling key guard.tag (by_refusal x why back)
by_change x key guard reply back = Cancelling key guard.tag (End ends.NotMet)

-- the tag was cancelled, or is left to its deadline
abbrev pub by_cancel : Tried → After → Stage
by_cancel x (Again change) = look_again x change
by_cancel x (End end) = Ended end

-- the change is completed elsewhere, unless that came too often
abbrev pub look_for_shard : Tried → Change → Stage
look_for_shard x made =
    if nat_lt x.moved most_moved then LookingForShard made else Ended (ends.Changed made.stamp made.old)

-- the row, where a completion comes back
abbrev pub row_back : Option Op → Option RowView
row_back (Some (ops.Complete zone key name tag version row)) = Some row
row_back back = None

-- the change, with the row that is to be told
abbrev pub change_of : Unfinished → RowView → Change
change_of u row = record { home = u.home; tag = u.tag; version = u.version; row = row; stamp = u.stamp; old = u.old }

-- the shard moved
abbrev pub by_move : Tried → Unfinished → Option RowView → Stage
by_move x u None = Ended (ends.Changed u.stamp u.old)
by_move x u (Some row) = look_for_shard x (change_of u row)

-- the change was completed, or not
abbrev pub by_completion : Tried → Unfinished → Reply → Option Op → Stage
by_completion x u (replies.No (whys.Moved instance)) back = by_move x u (row_back back)
by_completion x u reply back = Ended (ends.Changed u.stamp u.old)

-- the shard that the row has now, where it is still that of the container; else the tag's own
abbrev pub shard_now : Key → List ℕ → Option Bucket → Key
shard_now home name None = home
shard_now home name (Some row) = if row.id == container_of home then shard_for row name else home

-- the stage after an answer to one that stood
abbrev pub stood_on : Target → Tried → Stage → Reply → Stage
stood_on t x (Looking change) reply = by_place change (place_of t (row_shown reply))
stood_on t x (Preparing key change) reply = by_tag x key change reply
stood_on t x (Announcing key guard change) reply = Writing key guard change
stood_on t x (Cancelling key tag after) reply = by_cancel x after
stood_on t x (LookingForShard made) reply = Completing (shard_now made.home t.name (row_shown reply)) made
stood_on t x stage reply = stage

-- the stage after an answer, where this one is left and that is kept
abbrev pub resumed : Target → Tried → Stage → Rest → Reply → Option Op → Stage
resumed t x left Stands reply back = stood_on t x left reply
resumed t x left (Write key guard) reply back = by_change x key guard reply back
resumed t x left (Complete u) reply back = by_completion x u reply back

-- the stage after an answer to the operation, with the counts after it
abbrev pub step_of : Target → Tried → Stage → Reply → Stage
step_of t x stage reply = resumed t x stage (rest_of stage) reply (back_of (op_of t stage) reply)
