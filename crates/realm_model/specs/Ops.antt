-- Operations: their zones, and the numbers of their kinds.
use Rattle.std.specs.Prelude.{ℕ}
use Rattle.realm_model.specs.declared.op.Op.{Op}
use Rattle.realm_model.specs.declared.op.Op.TheVariants.{BucketRead, BucketSwap, AccountPage, BucketPage, ShardMake, Prepare, Complete, Cancel, Page, Suggest, Stats, CloseShard, Release, Shut, HeadRead, HeadWrite, TailMake, TailRead, Announce}

-- the zone of the object
abbrev pub zone_of : Op → ℕ
zone_of (BucketRead zone name) = zone
zone_of (BucketSwap zone name expected new) = zone
zone_of (AccountPage zone account after limit) = zone
zone_of (BucketPage zone after limit) = zone
zone_of (ShardMake zone key) = zone
zone_of (Prepare zone key name) = zone
zone_of (Complete zone key name tag version row) = zone
zone_of (Cancel zone key name tag) = zone
zone_of (Page zone key after limit) = zone
zone_of (Suggest zone key name revision seen version row) = zone
zone_of (Stats zone key) = zone
zone_of (CloseShard zone key id force) = zone
zone_of (Release zone key id) = zone
zone_of (Shut zone key) = zone
zone_of (HeadRead zone container name) = zone
zone_of (HeadWrite zone container name guard new when) = zone
zone_of (TailMake zone write part bytes) = zone
zone_of (TailRead zone write part start count) = zone
zone_of (Announce zone container instance shard bucket) = zone

-- the number of the kind, which it keeps for good
abbrev pub kind_of : Op → ℕ
kind_of (BucketRead zone name) = 1
kind_of (BucketSwap zone name expected new) = 2
kind_of (AccountPage zone account after limit) = 3
kind_of (BucketPage zone after limit) = 4
kind_of (ShardMake zone key) = 7
kind_of (Prepare zone key name) = 8
kind_of (Complete zone key name tag version row) = 9
kind_of (Cancel zone key name tag) = 10
kind_of (Page zone key after limit) = 11
kind_of (Suggest zone key name revision seen version row) = 12
kind_of (Stats zone key) = 13
kind_of (CloseShard zone key id force) = 15
kind_of (Release zone key id) = 16
kind_of (Shut zone key) = 19
kind_of (HeadRead zone container name) = 22
kind_of (HeadWrite zone container name guard new when) = 23
kind_of (TailMake zone write part bytes) = 27
kind_of (TailRead zone write part start count) = 28
kind_of (Announce zone container instance shard bucket) = 33
