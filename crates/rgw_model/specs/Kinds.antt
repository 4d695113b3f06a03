-- The media type of an object (RFC 9110, section 8.3).
use Rattle.std.specs.Prelude.{ℕ, List, codes}

-- that of an object that was put without one
abbrev pub default_kind : List ℕ
default_kind = codes "application/octet-stream"
