-- The limits of names and of media types (OpenStack Object Storage API v1, containers and objects; the numbers are own).
use Rattle.std.specs.Prelude.{ℕ, ◌==◌, ◌&&◌, not, Bool, nat_lt, nat_le, List, length}
use Rattle.std.specs.List.{list_all}

-- 1 to so many bytes, none of which is 0
abbrev pub is_name : ℕ → List ℕ → Bool
is_name most name = nat_lt 0 (length name) && (nat_le (length name) most && list_all (λ b. not (b == 0)) name)

-- the most bytes of a media type
abbrev pub media_type_limit : ℕ
media_type_limit = 256

-- a container's index has at least one shard, and at most so many
abbrev pub shard_limit : ℕ
shard_limit = 1999
