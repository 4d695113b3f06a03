-- Each event of an update comes where it may come.
use Rattle.std.proofs.Common.{true, false, cond, Some, None, nat_lt}
use Rattle.std.specs.declared.result.Result.{Result}
use Rattle.std.specs.declared.result.Result.TheVariants.{Ok, Err}
use Rattle.rgw_types.specs.declared.pool_key.Key.{Key}
use Rattle.object_words.specs.declared.why.Why.TheVariants as whys
use Rattle.realm_model.specs.Suits.{Suits}
use Rattle.realm_model.specs.declared.event.Reply.{Reply}
use Rattle.realm_model.specs.declared.event.Reply.TheVariants as replies
use Rattle.task_words.specs.declared.reply.Refusal.{Refusal}
use Rattle.task_words.specs.Outcomes.{most_moved}
use Rattle.index_update.specs.declared.head_change.HeadChange.{HeadChange}
use Rattle.index_update.specs.declared.head_change.HeadChange.TheVariants as changes
use Rattle.index_update.specs.declared.stage.Target.{Target}
use Rattle.index_update.specs.declared.stage.Change.{Change}
use Rattle.index_update.specs.declared.stage.Tried.{Tried}
use Rattle.index_update.specs.declared.stage.Updated.TheVariants as ends
use Rattle.index_update.specs.declared.stage.After.TheVariants.{Again, End}
use Rattle.index_update.specs.declared.stage.Stage.{Stage}
use Rattle.index_update.specs.declared.stage.Stage.TheVariants.{Looking, Preparing, Announcing, Writing, Cancelling, Completing, LookingForShard, Ended}
use Rattle.index_update.specs.Paths.{Path, turned, ready, prepared, announced, changed, refused, adrift, finished, astray, path_after, IsOrdered, IsFinished}
use Rattle.index_update.specs.Stages.{IsReady, op_of, place_of, by_place, look_again, look_for_shard, step_of}
use Rattle.index_update.specs.Fits.{IsAt}

again : (c : HeadChange) (place : Result Key Refusal) → IsAt (by_place c place) ready
again c (Ok key) = tt
again c (Err refusal) = tt

turns : (x : Tried) (c : HeadChange) → IsAt (look_again x c) turned
turns x c =
    elim (nat_lt x.moved most_moved) as (λ b. IsAt (cond b (Looking c) (Ended ends.MovedOften)) turned) [
      | true ↦ tt
      | false ↦ tt
    ]

drifts : (x : Tried) (made : Change) → IsAt (look_for_shard x made) adrift
drifts x made =
    elim (nat_lt x.moved most_moved) as (λ b. IsAt (cond b (LookingForShard made) (Ended (ends.Changed made.stamp made.old))) adrift) [
      | true ↦ tt
      | false ↦ tt
    ]

-- the answer of a stage's operation brings the path to that of the next stage
pub in_order : (t : Target) (x : Tried) (stage : Stage) (path : Path) (reply : Reply) → IsReady stage → Suits (op_of t stage) reply → IsAt stage path → IsAt (step_of t x stage reply) (path_after path (op_of t stage) reply)
in_order t x (Looking c) turned (replies.Row row) going suits is = again c (place_of t (Some row))
in_order t x (Looking c) turned (replies.No whys.Absent) going suits is = again c (place_of t None)
in_order t x (Looking c) turned reply going suits is = absurd suits
in_order t x (Looking c) path reply going suits is = absurd is
in_order t x (Preparing key c) ready (replies.Prepared guard) going suits is = tt
in_order t x (Preparing key c) ready (replies.No (whys.Held id)) going suits is = tt
in_order t x (Preparing key c) ready (replies.No (whys.Moved instance)) going suits is = turns x c
in_order t x (Preparing key c) ready (replies.No whys.Closed) going suits is = turns x c
in_order t x (Preparing key c) ready reply going suits is = absurd suits
in_order t x (Preparing key c) path reply going suits is = absurd is
in_order t x (Announcing key guard c) prepared reply going suits is = tt
in_order t x (Announcing key guard c) path reply going suits is = absurd is
in_order t x (Writing key guard (changes.Write new when)) announced (replies.Changed made) going suits is = tt
in_order t x (Writing key guard (changes.Write new when)) announced (replies.No why) going suits is = tt
in_order t x (Writing key guard (changes.Write new when)) announced reply going suits is = absurd suits
in_order t x (Writing key guard c) path reply going suits is = absurd is
in_order t x (Cancelling key tag (Again c)) refused reply going suits is = turns x c
in_order t x (Cancelling key tag (End end)) refused reply going suits is = tt
in_order t x (Cancelling key tag a) path reply going suits is = absurd is
in_order t x (Completing key made) changed replies.Done going suits is = tt
in_order t x (Completing key made) changed (replies.No (whys.Moved instance)) going suits is = drifts x made
in_order t x (Completing key made) changed (replies.No whys.Closed) going suits is = tt
in_order t x (Completing key made) changed (replies.No whys.NoTag) going suits is = tt
in_order t x (Completing key made) changed (replies.No (whys.Held id)) going suits is = tt
in_order t x (Completing key made) changed reply going suits is = absurd suits
in_order t x (Completing key made) path reply going suits is = absurd is
in_order t x (LookingForShard made) adrift reply going suits is = tt
in_order t x (LookingForShard made) path reply going suits is = absurd is
in_order t x (Ended end) path reply going suits is = absurd going

-- the order of a whole update is one of its events
pub finished_ordered : (path : Path) → IsFinished path → IsOrdered path
finished_ordered turned is = tt
finished_ordered ready is = tt
finished_ordered adrift is = tt
finished_ordered finished is = tt
finished_ordered prepared is = absurd is
finished_ordered announced is = absurd is
finished_ordered changed is = absurd is
finished_ordered refused is = absurd is
finished_ordered astray is = absurd is
