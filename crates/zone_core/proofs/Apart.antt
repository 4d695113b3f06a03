-- An operation on one zone leaves the objects of each other zone.
use Rattle.std.proofs.Common.{◌≡◌, ◌≢◌, ℕ, ◌==◌, false, sym, ap, subst, arith}
use Rattle.std.proofs.lemmas.Bool.Decides.{nat_tests}
use Rattle.rgw_types.specs.declared.pool_key.Key.{Key}
use Rattle.rgw_types.specs.declared.pool_key.Key.TheVariants.{Root, Head, Tail, Changes}
use Rattle.object_pool.specs.Objects.{PoolView, object_at}
use Rattle.object_words.specs.Keys.{put_key}
use Rattle.class_words.specs.Shards.{IsShardOr}
use Rattle.cls_head.specs.Heads.{IsHead}
use Rattle.cls_head.specs.Tails.{IsTail}
use Rattle.cls_log.specs.LogObjects.{IsLogObject}
use Rattle.cls_record.specs.RootObjects.{IsRoot}
use Rattle.realm_model.specs.Ops.{zone_of}
use Rattle.realm_model.specs.Settings.{SettingsView}
use Rattle.realm_model.specs.States.{State, Touch, nothing, at_changes, at_head, at_root, at_shard, at_tail, put_in, touched}
use Rattle.realm_model.specs.Steps.{touch_of}
use Rattle.realm_model.specs.declared.op.Op.{Op}
use Rattle.realm_model.specs.declared.op.Op.TheVariants.{BucketRead, BucketSwap, AccountPage, BucketPage, ShardMake, Prepare, Complete, Cancel, Page, Suggest, Stats, CloseShard, Release, Shut, HeadRead, HeadWrite, TailMake, TailRead, Announce}
use Rattle.zone_core.specs.Stands.{Stands}
use Rattle.zone_core.proofs.StandLemmas.{put_else}

-- the touch is in another zone
abbrev IsApart : Touch → ℕ → Type 0
IsApart nothing zone = Unit {0}
IsApart (at_root z root) zone = (z == zone) ≡ false
IsApart (at_shard z key shard) zone = (z == zone) ≡ false
IsApart (at_head z key head) zone = (z == zone) ≡ false
IsApart (at_tail z key tail) zone = (z == zone) ≡ false
IsApart (at_changes z log) zone = (z == zone) ≡ false

touch_apart : (settings : SettingsView) (st : State) (op : Op) (zone : ℕ) → (zone_of op == zone) ≡ false → IsApart (touch_of settings st op) zone
touch_apart settings st (BucketRead z name) zone e = tt
touch_apart settings st (BucketSwap z name expected new) zone e = e
touch_apart settings st (AccountPage z account after limit) zone e = tt
touch_apart settings st (BucketPage z after limit) zone e = tt
touch_apart settings st (ShardMake z key) zone e = e
touch_apart settings st (Prepare z key name) zone e = e
touch_apart settings st (Complete z key name tag version row) zone e = e
touch_apart settings st (Cancel z key name tag) zone e = e
touch_apart settings st (Page z key after limit) zone e = tt
touch_apart settings st (Suggest z key name revision seen version row) zone e = e
touch_apart settings st (Stats z key) zone e = tt
touch_apart settings st (CloseShard z key id force) zone e = e
touch_apart settings st (Release z key id) zone e = e
touch_apart settings st (Shut z key) zone e = e
touch_apart settings st (HeadRead z container name) zone e = tt
touch_apart settings st (HeadWrite z container name guard new when) zone e = e
touch_apart settings st (TailMake z write part bytes) zone e = e
touch_apart settings st (TailRead z write part start count) zone e = tt
touch_apart settings st (Announce z container instance shard bucket) zone e = e

in_other : {A : Type 0} (f : ℕ → Key → A) (zone : ℕ) (key : Key) (x : A) (other : ℕ) (q : Key) → (zone == other) ≡ false → f other q ≡ put_in f zone key x other q
in_other f zone key x other q apart = sym (ap (λ g. g q) (put_else f zone other (put_key (f zone) key x) apart))

stands_apart : (settings : SettingsView) (zone : ℕ) (p : PoolView) (st : State) (touch : Touch) → IsApart touch zone → Stands settings zone p st → Stands settings zone p (touched settings st touch)
stands_apart settings zone p st nothing apart stands = stands
stands_apart settings zone p st (at_root z root) apart stands = record {
  root = subst (IsRoot (object_at p Root)) (sym (put_else st.root z zone root apart)) stands.root;
  shards = stands.shards;
  heads = stands.heads;
  tails = stands.tails;
  changes = stands.changes;
  frame = stands.frame;
  free = stands.free;
}
stands_apart settings zone p st (at_shard z key shard) apart stands = record {
  root = stands.root;
  shards = λ q is. subst (IsShardOr (object_at p q)) (in_other st.shards z key shard zone q apart) (stands.shards q is);
  heads = stands.heads;
  tails = stands.tails;
  changes = stands.changes;
  frame = stands.frame;
  free = stands.free;
}
stands_apart settings zone p st (at_head z key head) apart stands = record {
  root = stands.root;
  shards = stands.shards;
  heads = λ c n. subst (IsHead (object_at p (Head c n))) (in_other st.heads z key head zone (Head c n) apart) (stands.heads c n);
  tails = stands.tails;
  changes = stands.changes;
  frame = stands.frame;
  free = subst (λ n. p.free ≡ n) (sym (put_else st.free z zone _ apart)) stands.free;
}
stands_apart settings zone p st (at_tail z key tail) apart stands = record {
  root = stands.root;
  shards = stands.shards;
  heads = stands.heads;
  tails = λ w n. subst (IsTail (object_at p (Tail w n))) (in_other st.tails z key tail zone (Tail w n) apart) (stands.tails w n);
  changes = stands.changes;
  frame = stands.frame;
  free = subst (λ n. p.free ≡ n) (sym (put_else st.free z zone _ apart)) stands.free;
}
stands_apart settings zone p st (at_changes z log) apart stands = record {
  root = stands.root;
  shards = stands.shards;
  heads = stands.heads;
  tails = stands.tails;
  changes = subst (IsLogObject (object_at p Changes)) (sym (put_else st.changes z zone log apart)) stands.changes;
  frame = stands.frame;
  free = stands.free;
}

-- what another zone's operation leaves
pub other_zone : (settings : SettingsView) (zone : ℕ) (p : PoolView) (st : State) (op : Op) → zone_of op ≢ zone → Stands settings zone p st → Stands settings zone p (touched settings st (touch_of settings st op))
other_zone settings zone p st op differs stands =
    let apart : (zone_of op == zone) ≡ false = grind (arith, nat_tests) in
    stands_apart settings zone p st (touch_of settings st op) (touch_apart settings st op zone apart) stands

-- the clock and the number of the events are no part of a zone
pub at_other_clock : (settings : SettingsView) (zone : ℕ) (p : PoolView) (st : State) (count clock : ℕ) → Stands settings zone p st → Stands settings zone p (record st { count = count; clock = clock })
at_other_clock settings zone p st count clock stands = record {
  root = stands.root;
  shards = stands.shards;
  heads = stands.heads;
  tails = stands.tails;
  changes = stands.changes;
  frame = stands.frame;
  free = stands.free;
}
