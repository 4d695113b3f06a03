-- What is left of pages of several shards.
use Rattle.std.specs.Prelude.{ℕ, List, length}
use Rattle.std.specs.BinaryHeap.{heap_items}
use Rattle.std.specs.List.{sum_by}
use Rattle.task_list.specs.declared.cursor.Cursor.{Cursor}
use Rattle.task_list.specs.declared.merge.Merge.{Merge}
use Rattle.task_list.specs.Cursors.{left_of}

-- the pages
abbrev pub cursors_of : Merge → List Cursor
cursors_of m = heap_items m.cursors

-- how many entries are left in all
abbrev pub left_count : Merge → ℕ
left_count m = sum_by (λ c. length (left_of c)) (cursors_of m)
