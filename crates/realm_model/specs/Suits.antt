-- Which kinds of answer an operation may have.
use Rattle.object_words.specs.declared.why.Why.{Why}
use Rattle.object_words.specs.declared.why.Why.TheVariants.{Absent, Raced, Held, Moved, Closed, Fenced, NotEmpty, Unsettled, NoTag, Stale, Expired, NotMet, NoSpace, Gone}
use Rattle.realm_model.specs.declared.op.Op.{Op}
use Rattle.realm_model.specs.declared.op.Op.TheVariants.{BucketRead, BucketSwap, AccountPage, BucketPage, ShardMake, Prepare, Complete, Cancel, Page, Suggest, Stats as stats_op, CloseShard, Release, Shut, HeadRead, HeadWrite, TailMake, TailRead, Announce}
use Rattle.realm_model.specs.declared.event.Reply.{Reply}
use Rattle.realm_model.specs.declared.event.Reply.TheVariants.{Done, No, Row, Names, Prepared, Entries, Stats, Head as head_reply, Changed, Bytes, Position}

-- a shard that no longer serves
abbrev pub IsLeft : Why → Type 0
IsLeft (Moved instance) = Unit {0}
IsLeft Closed = Unit {0}
IsLeft why = ⊥

-- a shard that takes no change of an entry
abbrev pub IsBarred : Why → Type 0
IsBarred (Moved instance) = Unit {0}
IsBarred Closed = Unit {0}
IsBarred (Held id) = Unit {0}
IsBarred why = ⊥

-- a shard that takes no change, or a tag that is not there
abbrev pub IsUntagged : Why → Type 0
IsUntagged NoTag = Unit {0}
IsUntagged why = IsBarred why

-- a shard that takes no change, or an entry that changed
abbrev pub IsOutdated : Why → Type 0
IsOutdated (Stale revision) = Unit {0}
IsOutdated why = IsBarred why

-- a shard that cannot be closed: it takes no change, the number is fenced, or an entry stands in the way
abbrev pub IsNotClosed : Why → Type 0
IsNotClosed (Fenced fence) = Unit {0}
IsNotClosed (NotEmpty name) = Unit {0}
IsNotClosed (Unsettled name) = Unit {0}
IsNotClosed why = IsBarred why

-- a tag whose life is over, a condition that fails, no room
abbrev pub IsUnwritten : Why → Type 0
IsUnwritten (Expired deadline clock) = Unit {0}
IsUnwritten (NotMet stamp) = Unit {0}
IsUnwritten (NoSpace free needed) = Unit {0}
IsUnwritten why = ⊥

-- the answer is of a kind that the operation may have
abbrev pub Suits : Op → Reply → Type 0
Suits (BucketRead zone name) (Row row) = Unit {0}
Suits (BucketRead zone name) (No Absent) = Unit {0}
Suits (BucketSwap zone name expected new) Done = Unit {0}
Suits (BucketSwap zone name expected new) (No (Raced version)) = Unit {0}
Suits (AccountPage zone account after limit) (Names names) = Unit {0}
Suits (BucketPage zone after limit) (Names names) = Unit {0}
Suits (ShardMake zone key) Done = Unit {0}
Suits (Prepare zone key name) (Prepared guard) = Unit {0}
Suits (Prepare zone key name) (No why) = IsBarred why
Suits (Complete zone key name tag version row) Done = Unit {0}
Suits (Complete zone key name tag version row) (No why) = IsUntagged why
Suits (Cancel zone key name tag) Done = Unit {0}
Suits (Cancel zone key name tag) (No why) = IsUntagged why
Suits (Page zone key after limit) (Entries page) = Unit {0}
Suits (Page zone key after limit) (No why) = IsLeft why
Suits (Suggest zone key name revision seen version row) Done = Unit {0}
Suits (Suggest zone key name revision seen version row) (No why) = IsOutdated why
Suits (stats_op zone key) (Stats stats) = Unit {0}
Suits (stats_op zone key) (No why) = IsLeft why
Suits (CloseShard zone key id force) Done = Unit {0}
Suits (CloseShard zone key id force) (No why) = IsNotClosed why
Suits (Release zone key id) Done = Unit {0}
Suits (Shut zone key) Done = Unit {0}
Suits (HeadRead zone container name) (head_reply head clock) = Unit {0}
Suits (HeadWrite zone container name guard new when) (Changed change) = Unit {0}
Suits (HeadWrite zone container name guard new when) (No why) = IsUnwritten why
Suits (TailMake zone write part bytes) Done = Unit {0}
Suits (TailMake zone write part bytes) (No (NoSpace free needed)) = Unit {0}
Suits (TailRead zone write part start count) (Bytes bytes) = Unit {0}
Suits (TailRead zone write part start count) (No (Gone clock)) = Unit {0}
Suits (Announce zone container instance shard bucket) (Position position) = Unit {0}
Suits op reply = ⊥
