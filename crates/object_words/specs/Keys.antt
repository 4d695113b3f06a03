-- The keys of a zone's pool, and functions of them.
use Rattle.std.specs.Prelude.{ℕ, Bool, true, false, ◌==◌, if◌then◌else◌, List}
use Rattle.std.specs.BTreeMap.{is_at}
use Rattle.rgw_types.specs.declared.pool_key.Key.{Key}
use Rattle.rgw_types.specs.declared.pool_key.Key.TheVariants.{Shard, Head, Tail}
use Rattle.rgw_types.specs.contracts.pool_key.KeyOrd.TheImpl as key_order

-- whether both are one key
abbrev pub is_key : Key → Key → Bool
is_key key = is_at ((key_order.ghosts).cmp key)

-- the key is that of a shard
abbrev pub is_shard_key : Key → Bool
is_shard_key (Shard container instance shard) = true
is_shard_key key = false

-- the container of a shard
abbrev pub container_of : Key → ℕ
container_of (Shard container instance shard) = container
container_of key = 0

-- the instance of a shard
abbrev pub instance_of : Key → ℕ
instance_of (Shard container instance shard) = instance
instance_of key = 0

-- the number of a shard among those of its instance
abbrev pub number_of : Key → ℕ
number_of (Shard container instance shard) = shard
number_of key = 0

-- the shard of this number of an instance of a container
abbrev pub shard_key : ℕ → ℕ → ℕ → Key
shard_key container instance shard = Shard container instance shard

-- the head of a name in a container
abbrev pub head_key : ℕ → List ℕ → Key
head_key container name = Head container name

-- the tail of this number of a write
abbrev pub tail_key : ℕ → ℕ → Key
tail_key write part = Tail write part

-- a function that has another value at one number
abbrev pub put : {A : Type 0} → (ℕ → A) → ℕ → A → ℕ → A
put f n x q = if n == q then x else f q

-- a function that has another value at one key
abbrev pub put_key : {A : Type 0} → (Key → A) → Key → A → Key → A
put_key f key x q = if is_key key q then x else f q
