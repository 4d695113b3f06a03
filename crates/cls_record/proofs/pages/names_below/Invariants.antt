use Rattle.std.proofs.Common.{◌≡◌, ◌++◌, ℕ, List, length, map}
use Rattle.std.specs.List.{AllByRecursion}
use Rattle.std.specs.Vec.Iter.{into_iter_items}
use Rattle.cls_record.specs.Pages.{keys_below}
use Rattle.cls_record.specs.RootObjects.{IsBucketName}
use Rattle.cls_record.proofs.PageLemmas.{IsRead}
use Rattle.cls_record.proofs.pages.names_below.Given as goal

abbrev pub invariant-rows : goal.invariant-rows
invariant-rows l = (front : List ℕ) (names : List (List ℕ)) → length front ≡ l.skip → AllByRecursion IsBucketName names
    → keys_below l.end (into_iter_items l.initial.rest) ≡ map (λ n. front ++ n) names → IsRead front l.end names l.names.items (into_iter_items l.rest)

abbrev pub decreases-rows : goal.decreases-rows
decreases-rows l = length (into_iter_items l.rest)
