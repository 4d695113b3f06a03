use Rattle.std.proofs.Common.{◌≡◌, ℕ, List, length, map}
use Rattle.std.specs.List.{AllByRecursion}
use Rattle.std.specs.Vec.Iter.{into_iter_items}
use Rattle.object_words.specs.Entries.{EntryView}
use Rattle.class_words.specs.Pages.{written}
use Rattle.cls_index.specs.Pages.{IsNamed}
use Rattle.cls_index.proofs.PageLemmas.{IsRead}
use Rattle.cls_index.proofs.paging.entries_in.Given as goal

abbrev pub invariant-rows : goal.invariant-rows
invariant-rows l = (es : List (List ℕ × EntryView)) → into_iter_items l.initial.rest ≡ map written es → AllByRecursion IsNamed es → IsRead es l.entries.items (into_iter_items l.rest)

abbrev pub decreases-rows : goal.decreases-rows
decreases-rows l = length (into_iter_items l.rest)
