-- Words of the known histories.
use Rattle.std.specs.Prelude.{codes, ℕ, ◌+◌, ◌*◌, true, List, [], ◌∷◌, ◌++◌, take, map, min, replicate, unwrap_or, Option, Some, None}
use Rattle.std.specs.List.{range_with_len}
use Rattle.hex.specs.Hex.{hex_digit_value}
use Rattle.rgw_types.specs.declared.pool_key.Key.{Key}
use Rattle.rgw_types.specs.declared.stamp.Stamp.{Stamp}
use Rattle.rgw_types.specs.Stripes.{ManifestView}
use Rattle.object_words.specs.declared.bucket.Bucket.{Bucket}
use Rattle.object_words.specs.declared.entry.Tag.{Tag}
use Rattle.object_words.specs.declared.entry.Guard.{Guard}
use Rattle.object_words.specs.declared.entry.EntryPage.{EntryPage}
use Rattle.object_words.specs.declared.head.NewHead.{NewHead}
use Rattle.object_words.specs.declared.head.HeadSeen.{HeadSeen}
use Rattle.object_words.specs.declared.head.SeenSlot.TheVariants.{Nothing, Live}
use Rattle.object_words.specs.declared.head.Changed.{Changed}
use Rattle.object_words.specs.declared.head.Conditions.{Conditions}
use Rattle.object_words.specs.declared.shard.ShardStats.{ShardStats}
use Rattle.object_words.specs.declared.shard.Hold.TheVariants.{Free}
use Rattle.object_words.specs.Rows.{RowView}
use Rattle.realm_model.specs.Settings.{SettingsView}
use Rattle.realm_model.specs.Phases.{ActorId}
use Rattle.object_words.specs.declared.why.Why.TheVariants.{Absent}
use Rattle.object_words.specs.Keys.{shard_key}
use Rattle.realm_model.specs.declared.op.Op.{Op}
use Rattle.realm_model.specs.declared.op.Op.TheVariants.{BucketRead, BucketSwap, ShardMake, Prepare, Complete, HeadWrite, TailMake, Announce}
use Rattle.realm_model.specs.declared.event.Reply.{Reply}
use Rattle.realm_model.specs.declared.event.Reply.TheVariants.{Done, No, Row, Prepared, Changed as changed_reply, Position}
use Rattle.realm_model.specs.declared.event.Event.{Event}

-- an event of an actor of the first pass
abbrev pub by : ℕ → ℕ → Op → Reply → Event
by actor moment op reply = record { pass = 1; count = actor; op = op; moment = moment; reply = reply }

-- the first events of a history, and one more
abbrev pub then : ℕ → List Event → Event → List Event
then n es e = take n es ++ e ∷ []

-- one zone, with stripes of so many bytes, so many frames of so many bytes, and tags that live so long
abbrev pub set_to : ℕ → ℕ → ℕ → ℕ → SettingsView
set_to stripe frame frames life = record {
  zones = 1;
  stripe = stripe;
  frame = frame;
  frames = frames;
  shards = 1;
  tag_life = life;
  wait = 7200000000;
  largest = 5368709120;
  threshold = 100000;
}

-- the same with two zones
abbrev pub two_zones : ℕ → ℕ → ℕ → ℕ → SettingsView
two_zones stripe frame frames life = record (set_to stripe frame frames life) { zones = 2 }

-- what is set where no word says otherwise
abbrev pub usual : SettingsView
usual = set_to 4194304 4096 16384 120000000

-- stripes and frames of 16 bytes, and so many frames
abbrev pub small : ℕ → SettingsView
small frames = set_to 16 16 frames 120000000

-- the container's name
abbrev pub box : List ℕ
box = codes "box"

-- the object's name
abbrev pub k : List ℕ
k = codes "k"

-- the type of what is put without one
abbrev pub plain : List ℕ
plain = codes "application/octet-stream"

-- the bytes that a text in hex shows
abbrev pub hex : List ℕ → List ℕ
hex [] = []
hex (high ∷ []) = []
hex (high ∷ low ∷ rest) = (16 * unwrap_or (hex_digit_value high) 0 + unwrap_or (hex_digit_value low) 0) ∷ hex rest

-- the row of a container whose instance is its own number
abbrev pub bucket : ℕ → ℕ → ℕ → Bucket
bucket id version shards = record {
  id = id;
  owner = codes "acme";
  version = version;
  shared = version;
  number = 0;
  busy = None;
  instance = id;
  shards = shards;
  meta = [];
  readers = [];
  writers = [];
}

-- the guard of a tag with this number and deadline
abbrev pub guard : ℕ → ℕ → Guard
guard tag deadline = record { tag = tag; deadline = deadline }

-- the tag with this number and deadline
abbrev pub tag : ℕ → ℕ → Tag
tag number deadline = record { tag = number; deadline = deadline }

-- the stamp of a moment in zone 1
abbrev pub stamp : ℕ → Stamp
stamp micros = record { micros = micros; zone = 1 }

-- the row of an object of this size, stamped in zone 1
abbrev pub stamped_row : ℕ → ℕ → List ℕ → RowView
stamped_row size micros etag = record { exists = true; size = size; stamp = stamp micros; etag = etag; kind = plain }

-- where the bytes of an object are
abbrev pub manifest : ℕ → ℕ → ℕ → ManifestView
manifest write stripe size = record { write = write; stripe = stripe; size = size }

-- what a head gets: where the bytes are, the first of them, and the digest
abbrev pub content : ℕ → ℕ → ℕ → List ℕ → List ℕ → NewHead
content write stripe size first etag = record {
  manifest = manifest write stripe size;
  first = first;
  kind = plain;
  meta = [];
  etag = etag;
}

-- what a change in zone 1 is told to have left
abbrev pub change : ℕ → ℕ → RowView → Option ManifestView → Changed
change version micros row old = record { version = version; stamp = stamp micros; row = row; old = old }

-- the header of a shard that is free
abbrev pub stats : ℕ → ℕ → ℕ → ShardStats
stats objects bytes tags = record { objects = objects; bytes = bytes; tags = tags; hold = Free; fence = 0 }

-- no condition
abbrev pub no_conditions : Conditions
no_conditions = record { matches = None; none = None; modified = None; unmodified = None }

-- so many letters x
abbrev pub letters : ℕ → List ℕ
letters n = replicate n 120

-- an actor makes the container box in zone 1, with so many shards
abbrev pub made : ℕ → ℕ → ℕ → List Event
made actor moment shards =
    by actor moment (BucketRead 1 box) (No Absent)
    ∷ map (λ shard. by actor moment (ShardMake 1 (shard_key 1 1 shard)) Done) (range_with_len 0 shards)
    ++ by actor moment (BucketSwap 1 box 0 (Some (bucket 1 0 shards))) Done ∷ []

-- an actor reads the row of box, as it was made with so many shards
abbrev pub reads : ℕ → ℕ → ℕ → Event
reads actor moment shards = by actor moment (BucketRead 1 box) (Row (bucket 1 (shards + 2) shards))

-- the only shard of box
abbrev pub shard : Key
shard = shard_key 1 1 0

-- what is put as "hello", as nothing, and as the letters a to z in stripes of 16 bytes
abbrev pub hello : ℕ → NewHead
hello write = content write 4194304 5 (codes "hello") (hex (codes "5d41402abc4b2a76b9719d911017c592"))

abbrev pub hello_row : ℕ → RowView
hello_row micros = stamped_row 5 micros (hex (codes "5d41402abc4b2a76b9719d911017c592"))

abbrev pub empty : ℕ → NewHead
empty write = content write 4194304 0 [] (hex (codes "d41d8cd98f00b204e9800998ecf8427e"))

abbrev pub empty_row : ℕ → RowView
empty_row micros = stamped_row 0 micros (hex (codes "d41d8cd98f00b204e9800998ecf8427e"))

abbrev pub alphabet : ℕ → NewHead
alphabet write = content write 16 26 (codes "abcdefghijklmnop") (hex (codes "c3fcd3d76192e4007dfb496cca67e13b"))

abbrev pub alphabet_row : ℕ → RowView
alphabet_row micros = stamped_row 26 micros (hex (codes "c3fcd3d76192e4007dfb496cca67e13b"))

-- a page that shows one entry, and that nothing follows
abbrev pub one_entry : List ℕ → ℕ → ℕ → RowView → List Tag → ℕ → EntryPage
one_entry name version revision shown tags clock = record {
  rows = (name, record { version = version; revision = revision; row = shown; tags = tags }) ∷ [];
  end = true;
  clock = clock;
}

-- a head that shows an object of zone 1
abbrev pub shows : ℕ → NewHead → ℕ → HeadSeen
shows version new micros = record { version = version; slot = Live new (stamp micros) }

-- a head that shows nothing, by the number of the read
abbrev pub shows_nothing : ℕ → HeadSeen
shows_nothing number = record { version = number; slot = Nothing }

-- so many letters x, put in stripes of so many bytes. Its ETag stands for the digest, which no event looks at
abbrev pub xs : ℕ → ℕ → ℕ → NewHead
xs write stripe size = content write stripe size (letters (min stripe size)) (replicate 16 120)

abbrev pub xs_row : ℕ → ℕ → RowView
xs_row size micros = stamped_row size micros (replicate 16 120)

-- a page that shows no entry
abbrev pub no_entries : ℕ → EntryPage
no_entries clock = record { rows = []; end = true; clock = clock }

-- a writer puts "hello" under k into a container that was made before, and comes to the change of the head
abbrev pub hello_at_head : ℕ → List Event
hello_at_head moment =
    made 1 0 1
    ++ reads 2 moment 1
    ∷ by 2 moment (Prepare 1 shard k) (Prepared (guard 5 (moment + 120000000)))
    ∷ by 2 moment (Announce 1 1 1 0 box) (Position 1)
    ∷ by 2 moment (HeadWrite 1 1 k (guard 5 (moment + 120000000)) (hello 4) no_conditions)
    (changed_reply (change 7 moment (hello_row moment) None))
    ∷ []

-- a writer puts the letters a to z under k into a container that was made before
abbrev pub alphabet_put : List Event
alphabet_put =
    made 1 0 1
    ++ reads 2 0 1
    ∷ by 2 0 (TailMake 1 4 1 (codes "qrstuvwxyz")) Done
    ∷ by 2 0 (Prepare 1 shard k) (Prepared (guard 6 120000000))
    ∷ by 2 0 (Announce 1 1 1 0 box) (Position 1)
    ∷ by 2 0 (HeadWrite 1 1 k (guard 6 120000000) (alphabet 4) no_conditions) (changed_reply (change 8 0 (alphabet_row 0) None))
    ∷ by 2 0 (Complete 1 shard k 6 8 (alphabet_row 0)) Done
    ∷ []

-- an actor of the first pass
abbrev pub actor : ℕ → ActorId
actor count = record { pass = 1; count = count }
