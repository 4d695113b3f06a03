-- An update is refused by rows alone.
use Rattle.std.proofs.Common.{ℕ, true, false, cond, List, Option, Some, None}
use Rattle.std.specs.Prelude.{nat_lt}
use Rattle.rgw_types.specs.declared.pool_key.Key.{Key}
use Rattle.object_words.specs.declared.bucket.Bucket.{Bucket}
use Rattle.object_words.specs.declared.entry.Guard.{Guard}
use Rattle.object_words.specs.declared.why.Why.{Why}
use Rattle.object_words.specs.declared.why.Why.TheVariants as whys
use Rattle.object_words.specs.Rows.{RowView}
use Rattle.realm_model.specs.declared.op.Op.{Op}
use Rattle.realm_model.specs.declared.event.Reply.{Reply}
use Rattle.realm_model.specs.declared.event.Reply.TheVariants as replies
use Rattle.realm_model.specs.Shown.{row_shown}
use Rattle.realm_door.specs.Steps.{back_of}
use Rattle.swift_auth.specs.declared.policy.Deed.TheVariants.{ChangeThing}
use Rattle.swift_auth.specs.declared.policy.Verdict.{Verdict}
use Rattle.swift_auth.specs.declared.policy.Verdict.TheVariants.{Granted, Unknown, Denied}
use Rattle.swift_auth.specs.Policies.{found_under, verdict_of}
use Rattle.task_words.specs.Outcomes.{most_moved, most_expired}
use Rattle.task_words.specs.Rows.{refusal_by}
use Rattle.index_update.specs.declared.head_change.HeadChange.{HeadChange}
use Rattle.index_update.specs.declared.stage.Change.{Change}
use Rattle.index_update.specs.declared.stage.Target.{Target}
use Rattle.index_update.specs.declared.stage.Tried.{Tried}
use Rattle.index_update.specs.declared.stage.Unfinished.{Unfinished}
use Rattle.index_update.specs.declared.stage.Updated.TheVariants as ends
use Rattle.index_update.specs.declared.stage.After.TheVariants.{Again, End}
use Rattle.index_update.specs.declared.stage.Stage.{Stage}
use Rattle.index_update.specs.declared.stage.Stage.TheVariants.{Looking, Preparing, Announcing, Writing, Cancelling, Completing, LookingForShard, Ended}
use Rattle.index_update.specs.Changes.{change_back}
use Rattle.index_update.specs.Refusals.{OnlyRowsRefuse}
use Rattle.index_update.specs.Stages.{op_of, place_by, by_place, look_again, by_tag, by_lateness, by_refusal, by_change, look_for_shard, row_back, change_of, by_move, by_completion, step_of}

by_row : (c : HeadChange) (v : Verdict) (found row : Option Bucket) (name : List ℕ) → OnlyRowsRefuse (by_place c (place_by (refusal_by v found) row name))
by_row c Unknown found row name = tt
by_row c Granted None row name = tt
by_row c (Denied rule) None row name = tt
by_row c (Denied rule) (Some b) row name = tt
by_row c Granted (Some b) None name = tt
by_row c Granted (Some b) (Some row) name = tt

turns : (x : Tried) (c : HeadChange) → OnlyRowsRefuse (look_again x c)
turns x c =
    elim (nat_lt x.moved most_moved) as (λ b. OnlyRowsRefuse (cond b (Looking c) (Ended ends.MovedOften))) [
      | true ↦ tt
      | false ↦ tt
    ]

drifts : (x : Tried) (made : Change) → OnlyRowsRefuse (look_for_shard x made)
drifts x made =
    elim (nat_lt x.moved most_moved) as (λ b. OnlyRowsRefuse (cond b (LookingForShard made) (Ended (ends.Changed made.stamp made.old)))) [
      | true ↦ tt
      | false ↦ tt
    ]

tag_given : (x : Tried) (key : Key) (c : HeadChange) (reply : Reply) → OnlyRowsRefuse (by_tag x key c reply)
tag_given x key c (replies.Prepared guard) = tt
tag_given x key c (replies.No (whys.Held id)) = tt
tag_given x key c reply = turns x c

late : (x : Tried) (key : Key) (tag : ℕ) (c : Option HeadChange) → OnlyRowsRefuse (Cancelling key tag (by_lateness x c))
late x key tag None = tt
late x key tag (Some c) =
    elim (nat_lt x.expired most_expired) as (λ b. OnlyRowsRefuse (Cancelling key tag (cond b (Again c) (End ends.LateTag)))) [
      | true ↦ tt
      | false ↦ tt
    ]

refused_so : (x : Tried) (key : Key) (tag : ℕ) (why : Why) (back : Option Op) → OnlyRowsRefuse (Cancelling key tag (by_refusal x why back))
refused_so x key tag (whys.Expired deadline clock) back = late x key tag (change_back back)
refused_so x key tag (whys.NoSpace free needed) back = tt
refused_so x key tag why back = tt

head_changed : (x : Tried) (key : Key) (guard : Guard) (reply : Reply) (back : Option Op) → OnlyRowsRefuse (by_change x key guard reply back)
head_changed x key guard (replies.Changed made) back = tt
head_changed x key guard (replies.No why) back = refused_so x key guard.tag why back
head_changed x key guard reply back = tt

moved : (x : Tried) (u : Unfinished) (row : Option RowView) → OnlyRowsRefuse (by_move x u row)
moved x u None = tt
moved x u (Some row) = drifts x (change_of u row)

completed : (x : Tried) (u : Unfinished) (reply : Reply) (back : Option Op) → OnlyRowsRefuse (by_completion x u reply back)
completed x u (replies.No (whys.Moved instance)) back = moved x u (row_back back)
completed x u reply back = tt

-- an answer leaves it so
pub refused_by_rows : (t : Target) (x : Tried) (stage : Stage) (reply : Reply) → OnlyRowsRefuse stage → OnlyRowsRefuse (step_of t x stage reply)
refused_by_rows t x (Looking c) reply s =
    let row = row_shown reply in
    by_row c (verdict_of t.asker.user t.asker.account row ChangeThing) (found_under t.asker.account row) row t.name
refused_by_rows t x (Preparing key c) reply s = tag_given x key c reply
refused_by_rows t x (Announcing key guard c) reply s = tt
refused_by_rows t x (Writing key guard c) reply s = head_changed x key guard reply (back_of (op_of t (Writing key guard c)) reply)
refused_by_rows t x (Cancelling key tag (Again c)) reply s = turns x c
refused_by_rows t x (Cancelling key tag (End end)) reply s = s
refused_by_rows t x (Completing key made) reply s =
    completed x (record { home = made.home; tag = made.tag; version = made.version; stamp = made.stamp; old = made.old }) reply
    (back_of (op_of t (Completing key made)) reply)
refused_by_rows t x (LookingForShard made) reply s = tt
refused_by_rows t x (Ended end) reply s = s
