-- What a PUT did so far, on its way or at its end.
use Rattle.std.specs.Prelude.{◌≡◌, ◌⊎◌, ℕ, List}
use Rattle.rgw_types.specs.declared.stamp.Stamp.{Stamp}
use Rattle.realm_model.specs.Accounts.{Account}
use Rattle.realm_model.specs.Owns.{OwnEvent}
use Rattle.task_words.specs.declared.asker.Asker.{Asker}
use Rattle.task_words.specs.declared.command.PutCommand.{PutCommand}
use Rattle.task_words.specs.declared.reply.MapReply.TheVariants.{Stored}
use Rattle.task_words.specs.Answers.{put}
use Rattle.task_words.specs.Outcomes.{Body, IsTaken, ByMap}
use Rattle.task_put.specs.Cuts.{CutBody}
use Rattle.task_put.specs.Orders.{path_of, IsOrdered}

-- one head was changed, once: to the whole body, as the bucket map says
pub record HasStored (zone : ℕ) (asker : Asker) (c : PutCommand) (body : Body) (y : Account) : Type 0 where
  pub is_taken : IsTaken c body
  pub etag : List ℕ
  pub stamp : Stamp
  pub by_map : ByMap zone asker (put c body.bytes) (Stored etag stamp) y.decided
  pub once : y.changes ≡ 1

-- its events came in their order and cut the body, of which so much came, whatever follows; no head was changed, or that one
pub record IsPutSoFar (stripe zone : ℕ) (asker : Asker) (c : PutCommand) (body : Body) (y : Account) (events : List OwnEvent) : Type 0 where
  pub ordered : IsOrdered (path_of events)
  pub cut : CutBody zone stripe body.bytes body.end events
  pub changes : (y.changes ≡ 0) ⊎ HasStored zone asker c body y
