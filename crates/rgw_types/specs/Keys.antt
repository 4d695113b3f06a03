-- The order of the keys of a pool.
use Rattle.std.specs.Prelude.{ℕ}
use Rattle.std.specs.Ordering.{nat_cmp}
use Rattle.std.specs.declared.cmp.Ordering.{Ordering}
use Rattle.std.specs.declared.cmp.Ordering.TheVariants.{Less, Equal, Greater}
use Rattle.std.specs.Cmp.Lexicographic.{slice_cmp}
use Rattle.rgw_types.specs.declared.pool_key.Key.{Key}
use Rattle.rgw_types.specs.declared.pool_key.Key.TheVariants.{Root, Shard, Head, Tail, Queue, Changes, Sync}

-- the place of a key's kind among the kinds
abbrev pub kind_of : Key → ℕ
kind_of Root = 0
kind_of (Shard container instance shard) = 1
kind_of (Head container name) = 2
kind_of (Tail write part) = 3
kind_of Queue = 4
kind_of Changes = 5
kind_of (Sync peer) = 6

-- the first that tells decides
abbrev pub before_that : Ordering → Ordering → Ordering
before_that Less later = Less
before_that Equal later = later
before_that Greater later = Greater

-- the order of two keys of one kind, by their fields: numbers as numbers, names byte by byte
abbrev pub fields_order : Key → Key → Ordering
fields_order (Shard c i s) (Shard c' i' s') = before_that (nat_cmp c c') (before_that (nat_cmp i i') (nat_cmp s s'))
fields_order (Head c n) (Head c' n') = before_that (nat_cmp c c') (slice_cmp nat_cmp n n')
fields_order (Tail w p) (Tail w' p') = before_that (nat_cmp w w') (nat_cmp p p')
fields_order (Sync p) (Sync p') = nat_cmp p p'
fields_order a b = Equal

-- the order of keys: first by kind
abbrev pub key_order : Key → Key → Ordering
key_order a b = before_that (nat_cmp (kind_of a) (kind_of b)) (fields_order a b)
