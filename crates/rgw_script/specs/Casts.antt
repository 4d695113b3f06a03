-- The actors of a script, by name.
use Rattle.std.specs.Prelude.{ℕ, List, Option, None, Some}
use Rattle.std.specs.BTreeMap.{get}
use Rattle.std.specs.Cmp.Lexicographic.{slice_cmp}
use Rattle.std.specs.Ordering.{nat_cmp}
use Rattle.rgw_script.specs.declared.active.Active.{Active}
use Rattle.rgw_script.specs.declared.cast.Cast.{Cast}

-- who has each name: nobody had it; or its actor, as long as it plays
abbrev pub Table : Type 0
Table = List ℕ → Option (Option Active)

abbrev pub under : Cast → Table
under cast name = get (slice_cmp nat_cmp) cast.names name

-- the actor, as long as it plays
abbrev pub playing : Option (Option Active) → Option Active
playing None = None
playing (Some part) = part
