-- How much one event adds to the objects of a zone.
use Rattle.std.proofs.Common.{ℕ, ◌+◌, ◌≤◌, ◌==◌, ◌&&◌, Bool, true, false, cond, List, Option, Some, None, IfSome, arith}
use Rattle.rgw_types.specs.declared.pool_key.Key.{Key}
use Rattle.object_words.specs.declared.bucket.Bucket.{Bucket}
use Rattle.object_words.specs.declared.why.Why.{Why}
use Rattle.object_words.specs.declared.log.LogWhat.{LogWhat}
use Rattle.object_words.specs.HoldCalls.{closed, released, shut_down}
use Rattle.object_words.specs.Keys.{is_key, put, put_key}
use Rattle.object_words.specs.Logs.{Log, logged}
use Rattle.object_words.specs.Refusals.{unless_refused}
use Rattle.object_words.specs.declared.log.LogWhat.TheVariants.{Bucket as bucket_row, Shard as shard_row}
use Rattle.object_words.specs.Names.{at}
use Rattle.object_words.specs.Roots.{Root, is_logged, stored_or_none, swap_refusal, swapped, with_bucket}
use Rattle.object_words.specs.Shards.{Shard}
use Rattle.object_words.specs.ShardCalls.{cancelled, completed, made, prepared, suggested}
use Rattle.realm_model.specs.Settings.{SettingsView}
use Rattle.realm_model.specs.States.{State, number_next, put_in, touched}
use Rattle.realm_model.specs.Steps.{change_at, is_master, new_tag, suggest_event_refusal, touch_of}
use Rattle.realm_model.specs.declared.op.Op.{Op}
use Rattle.realm_model.specs.declared.op.Op.TheVariants.{BucketRead, BucketSwap, AccountPage, BucketPage, ShardMake, Prepare, Complete, Cancel, Page, Suggest, Stats, CloseShard, Release, Shut, HeadRead, HeadWrite, TailMake, TailRead, Announce}
use Rattle.zone_core.specs.Bounds.{AreSmallBy, FitsOp, IsSmallBy}
use Rattle.zone_core.proofs.BoundLemmas.{if_some, small_cancelled, small_closed, small_completed, small_new, small_next, small_prepared, small_released, small_shut, small_suggested}

-- what holds of every value of a function, also where it has another one
put_all : {A : Type 0} (Is : A → Type 0) (f : ℕ → A) (n : ℕ) (x : A) (q : ℕ) → Is x → Is (f q) → Is (put f n x q)
put_all Is f n x q here other = elim (n == q) as (λ b. Is (cond b x (f q))) [ true ↦ here | false ↦ other ]

put_key_all : {A : Type 0} (Is : A → Type 0) (f : Key → A) (key : Key) (x : A) (q : Key) → Is x → Is (f q) → Is (put_key f key x q)
put_key_all Is f key x q here other = elim (is_key key q) as (λ b. Is (cond b x (f q))) [ true ↦ here | false ↦ other ]

put_in_all : {A : Type 0} (Is : A → Type 0) (f : ℕ → Key → A) (zone : ℕ) (key : Key) (x : A) (z : ℕ) (q : Key) → Is x → Is (f zone q) → Is (f z q) → Is (put_in f zone key x z q)
put_in_all Is f zone key x z q here same other = put_all (λ g. Is (g q)) f zone (put_key (f zone) key x) z (put_key_all Is (f zone) key x q here same) other

-- ---- one event more, with nothing touched

pub small_still : (count zone : ℕ) (st : State) → AreSmallBy count zone st → AreSmallBy (count + 1) zone st
small_still count zone st small = record {
  root = omega (arith, small.root);
  changes = omega (arith, small.changes);
  shards = λ key. if_some (st.shards zone key) _ _ (small_next count) (small.shards key);
}

changed : (count : ℕ) (found : Option Shard) (change : Shard → Shard) → ((s : Shard) → IsSmallBy count s → IsSmallBy (count + 1) (change s)) → IfSome found (IsSmallBy count) → IfSome (change_at found change) (IsSmallBy (count + 1))
changed count None change step small = tt
changed count (Some s) change step small = step s small

made_small : (count : ℕ) (found : Option Shard) → IfSome found (IsSmallBy count) → IfSome (made found) (IsSmallBy (count + 1))
made_small count None small = small_new (count + 1)
made_small count (Some s) small = small_next count s small

-- a shard becomes another one
at_shard_small : (settings : SettingsView) (count zone z : ℕ) (st : State) (key : Key) (s : Option Shard) → ((y : ℕ) → AreSmallBy count y st) → IfSome s (IsSmallBy (count + 1))
    → AreSmallBy (count + 1) z (record st { shards = put_in st.shards zone key s })
at_shard_small settings count zone z st key s small here = record {
  root = omega (arith, (small z).root);
  changes = omega (arith, (small z).changes);
  shards = λ q. put_in_all (λ o. IfSome o (IsSmallBy (count + 1))) st.shards zone key s z q here
      (if_some (st.shards zone q) _ _ (small_next count) ((small zone).shards q)) (if_some (st.shards z q) _ _ (small_next count) ((small z).shards q));
}

grown : (log : Log) (what : LogWhat) (count : ℕ) → log.last ≤ count → (logged log what).last ≤ count + 1
grown log what count most = omega (arith, most)

chosen_last : (b : Bool) (log : Log) (what : LogWhat) (count : ℕ) → log.last ≤ count → (cond b (logged log what) log).last ≤ count + 1
chosen_last true log what count most = omega (arith, most)
chosen_last false log what count most = omega (arith, most)

kept_last : (refusal : Option Why) (root root' : Root) (count : ℕ) → root.log.last ≤ count → root'.log.last ≤ count + 1 → (unless_refused refusal root root').log.last ≤ count + 1
kept_last None root root' count old new = new
kept_last (Some why) root root' count old new = omega (arith, old)

swapped_last : (root : Root) (name : List ℕ) (expected : ℕ) (new : Option Bucket) (master : Bool) (number count : ℕ) → root.log.last ≤ count → (swapped root name expected new master number).log.last ≤ count + 1
swapped_last root name expected new master number count most =
    let kept = at root.buckets name in
    kept_last (swap_refusal root name expected) root
    (record { buckets = with_bucket root.buckets name (stored_or_none kept new master number); log = cond (master && is_logged kept new) (logged root.log (bucket_row name)) root.log })
    count most (chosen_last (master && is_logged kept new) root.log (bucket_row name) count most)

pub small_after : (settings : SettingsView) (st : State) (op : Op) (z : ℕ) → FitsOp op → ((y : ℕ) → AreSmallBy st.count y st) → AreSmallBy (st.count + 1) z (touched settings st (touch_of settings st op))
small_after settings st (BucketSwap zone name expected new) z fits small = record {
  root = put_all (λ r. r.log.last ≤ st.count + 1) st.root zone (swapped (st.root zone) name expected new (is_master zone) (number_next st)) z
      (swapped_last (st.root zone) name expected new (is_master zone) (number_next st) st.count (small zone).root) (omega (arith, (small z).root));
  changes = omega (arith, (small z).changes);
  shards = λ key. if_some (st.shards z key) _ _ (small_next st.count) ((small z).shards key);
}
small_after settings st (ShardMake zone key) z fits small = at_shard_small settings st.count zone z st key _ small (made_small st.count (st.shards zone key) ((small zone).shards key))
small_after settings st (Prepare zone key name) z fits small = at_shard_small settings st.count zone z st key _ small
    (changed st.count (st.shards zone key) (λ s. prepared s name (new_tag settings st)) (λ s here. small_prepared st.count s name (new_tag settings st) here (omega arith)) ((small zone).shards key))
small_after settings st (Complete zone key name tag version row) z fits small = at_shard_small settings st.count zone z st key _ small
    (changed st.count (st.shards zone key) (λ s. completed s name tag version row) (λ s here. small_completed st.count s name tag version row here fits) ((small zone).shards key))
small_after settings st (Cancel zone key name tag) z fits small = at_shard_small settings st.count zone z st key _ small
    (changed st.count (st.shards zone key) (λ s. cancelled s name tag) (λ s here. small_cancelled st.count s name tag here) ((small zone).shards key))
small_after settings st (Suggest zone key name revision seen version row) z fits small = at_shard_small settings st.count zone z st key _ small
    (changed st.count (st.shards zone key) (λ s. unless_refused (suggest_event_refusal s name revision seen) s (suggested s name revision seen version row))
    (λ s here. of s (suggest_event_refusal s name revision seen) here) ((small zone).shards key)) where
      of : (s : Shard) (refusal : Option Why) → IsSmallBy st.count s → IsSmallBy (st.count + 1) (unless_refused refusal s (suggested s name revision seen version row))
      of s None here = small_suggested st.count s name revision seen version row here fits
      of s (Some why) here = small_next st.count s here
small_after settings st (CloseShard zone key id force) z fits small = at_shard_small settings st.count zone z st key _ small
    (changed st.count (st.shards zone key) (λ s. closed s id force) (λ s here. small_closed st.count s id force here) ((small zone).shards key))
small_after settings st (Release zone key id) z fits small = at_shard_small settings st.count zone z st key _ small
    (changed st.count (st.shards zone key) (λ s. released s id) (λ s here. small_released st.count s id here) ((small zone).shards key))
small_after settings st (Shut zone key) z fits small = at_shard_small settings st.count zone z st key _ small
    (changed st.count (st.shards zone key) shut_down (small_shut st.count) ((small zone).shards key))
small_after settings st (Announce zone container instance shard bucket) z fits small = record {
  root = omega (arith, (small z).root);
  changes = put_all (λ log. log.last ≤ st.count + 1) st.changes zone _ z (grown (st.changes zone) (shard_row container instance shard bucket) st.count (small zone).changes) (omega (arith, (small z).changes));
  shards = λ key. if_some (st.shards z key) _ _ (small_next st.count) ((small z).shards key);
}
small_after settings st (BucketRead zone name) z fits small = small_still st.count z st (small z)
small_after settings st (AccountPage zone account after limit) z fits small = small_still st.count z st (small z)
small_after settings st (BucketPage zone after limit) z fits small = small_still st.count z st (small z)
small_after settings st (Page zone key after limit) z fits small = small_still st.count z st (small z)
small_after settings st (Stats zone key) z fits small = small_still st.count z st (small z)
small_after settings st (HeadRead zone container name) z fits small = small_still st.count z st (small z)
small_after settings st (TailRead zone write part start count) z fits small = small_still st.count z st (small z)
small_after settings st (HeadWrite zone container name guard new when) z fits small = let kept = small_still st.count z st (small z) in record { root = kept.root; changes = kept.changes; shards = kept.shards }
small_after settings st (TailMake zone write part bytes) z fits small = let kept = small_still st.count z st (small z) in record { root = kept.root; changes = kept.changes; shards = kept.shards }
