-- A call on an object that may not exist, and what an operation answers and leaves.
use Rattle.std.specs.Prelude.{◌≡◌, ℕ, Option, Some, None, Result, Ok, Err, MatchResult}
use Rattle.omap_pages.specs.declared.error.OutOfMemory.{OutOfMemory as OutOf}
use Rattle.object_pool.specs.Objects.{PoolView}
use Rattle.rgw_types.specs.declared.pool_key.Key.{Key}
use Rattle.object_words.specs.Answers.{Replies}
use Rattle.object_words.specs.declared.why.Why.{Why}
use Rattle.object_words.specs.declared.why.Why.TheVariants.{Closed}
use Rattle.object_words.specs.declared.why.ClassFault.{ClassFault}
use Rattle.object_words.specs.declared.why.ClassFault.TheVariants.{OutOfMemory, No as refused}
use Rattle.object_words.specs.Shards.{Shard}
use Rattle.realm_model.specs.Settings.{SettingsView}
use Rattle.realm_model.specs.States.{State, at_shard, touched}
use Rattle.realm_model.specs.Steps.{change_at, reply_of, touch_of}
use Rattle.realm_model.specs.declared.op.Op.{Op}
use Rattle.realm_model.specs.declared.event.Reply.{Reply}
use Rattle.realm_model.specs.declared.event.Reply.TheVariants.{No}
use Rattle.zone_core.specs.Bounds.{IsReady}
use Rattle.zone_core.specs.Stands.{Stands}

-- a call on a shard that was never made is refused as one on a closed shard
abbrev pub refusal_at : Option Shard → (Shard → Option Why) → Option Why
refusal_at None refusal = Some Closed
refusal_at (Some s) refusal = refusal s

-- a change of the shard of a key is refused so, and then nothing changes, or leaves this of the shard
abbrev pub AnswersAt : {T : Type 0} → Key → PoolView → PoolView → Result T Why → (Shard → Option Why) → (Shard → Shard) → Type 0
AnswersAt key old new result refusal after =
    (settings : SettingsView) (zone : ℕ) (st : State) → IsReady settings zone old st
    → let found = st.shards zone key in
    Replies result (refusal_at found refusal) (λ _. Unit {0}) (Stands settings zone new) (touched settings st (at_shard zone key (change_at found after)))

-- the reply to a call that failed: the refusal, or none for want of memory
abbrev pub fault_reply : ClassFault → Result Reply OutOf
fault_reply (refused why) = Ok (No why)
fault_reply OutOfMemory = Err (record {})

-- the reply is that of the step, and the pool has what the step leaves; for want of memory it has what it had
abbrev pub Performs : SettingsView → ℕ → State → Op → Result Reply OutOf → PoolView → Type 0
Performs settings zone st op result pool = MatchResult result
    (λ reply. (reply ≡ reply_of settings st op) × Stands settings zone pool (touched settings st (touch_of settings st op)))
    (λ _. Stands settings zone pool st)
