-- Finite maps by name that compute: a list in the order of its names. Their words are known by their answers, as those
-- of std's finite map are; a proof that needs their bodies unfolds them.
use Rattle.std.specs.Prelude.{ℕ, Bool, not, T, List, [], Option}
use Rattle.std.specs.Ordering.{nat_cmp, eq_by_cmp}
use Rattle.std.specs.declared.cmp.Ordering.{Ordering}
use Rattle.std.specs.Cmp.Lexicographic.{slice_cmp, nat_list_cmp_total}
use Rattle.std.specs.FinMap.Entries.{find, put, where_key, is_sorted, is_sorted-put, is_sorted-where_key}

-- the order of names, byte by byte
abbrev pub name_cmp : List ℕ → List ℕ → Ordering
name_cmp = slice_cmp nat_cmp

-- what is under each name, in the order of the names
pub record Named (X : Type 0) : Type 0 where
  pub list : List (List ℕ × X)
  pub sorted : T (is_sorted name_cmp list)

module _ {X : Type 0} where
  -- what is under each name, by rising name
  unfoldable pub entries : Named X → List (List ℕ × X)
  entries m = m.list

  -- nothing under any name
  unfoldable pub none : Named X
  none = record { list = []; sorted = tt }

  -- what is under a name
  unfoldable pub at : Named X → List ℕ → Option X
  at m name = find name_cmp name m.list

  -- this under the name, in place of what was there
  unfoldable pub with_name : Named X → List ℕ → X → Named X
  with_name m name x = record {
    list = put name_cmp name x m.list;
    sorted = is_sorted-put name_cmp nat_list_cmp_total name x m.list m.sorted;
  }

  -- nothing under the name
  unfoldable pub without_name : Named X → List ℕ → Named X
  without_name m name = record {
    list = where_key name_cmp (λ n. not (eq_by_cmp name_cmp name n)) m.list;
    sorted = is_sorted-where_key name_cmp (λ n. not (eq_by_cmp name_cmp name n)) m.list m.sorted;
  }

  -- what is under the names that pass a test
  unfoldable pub where_name : (List ℕ → Bool) → Named X → Named X
  where_name test m = record {
    list = where_key name_cmp test m.list;
    sorted = is_sorted-where_key name_cmp test m.list m.sorted;
  }
