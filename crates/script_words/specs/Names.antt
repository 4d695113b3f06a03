-- The names of the actors of a script.
use Rattle.std.specs.Prelude.{ℕ, ◌&&◌, Bool, nat_lt, nat_le, List, length}
use Rattle.std.specs.List.{list_all}
use Rattle.std.specs.Char.{is_ascii_alphanumeric}

-- 1 to 16 letters and digits
abbrev pub is_actor_name : List ℕ → Bool
is_actor_name name = nat_lt 0 (length name) && (nat_le (length name) 16 && list_all is_ascii_alphanumeric name)
