use Rattle.std.proofs.Common.{◌+◌, ◌-◌, ◌<◌, [], rules, length, subst, ap, ◌∙◌, arith}
use Rattle.std.specs.FinMap.Entries.{is_sorted}
use Rattle.std.proofs.lemmas.Fn.{always_returns_same}
use Rattle.std.proofs.lemmas.List.{get_or_read}
use Rattle.omap_pages.specs.Leaves.{first_key_of}
use Rattle.omap_pages.specs.Places.{IsAt, IsGapFor}
use Rattle.omap_pages.specs.Rows.{key_cmp}
use Rattle.omap_pages.proofs.DirectoryLemmas.{sorted_leaf, comparisons_of_first_keys_rise, found_first, gap_before_all, found_within, gap_within}
use Rattle.omap_pages.proofs.lookup.search.Goals as goal

pub search-requires-clause-in_order : goal.search-requires-clause-in_order
search-requires-clause-in_order c =
    let leaves = c.args.leaves.now in
    let at = c.in-Err.above - 1 in
    let lt : at < length leaves = omega (arith, c.in-Err.ensures.bound, c.in-Err.above-test.1) in
    ap (is_sorted key_cmp) (get_or_read leaves at c.index-leaves-leaf.result lt c.index-leaves-leaf.is []) ∙ sorted_leaf leaves c.requires.in_order c.requires.leaves at lt

-- the closure compares a leaf's first key
pub returns-in-Ok-clause-found : goal.returns-in-Ok-clause-found
returns-in-Ok-clause-found c =
    let by_key = c.in-Ok.ensures.position (λ l. key_cmp (first_key_of l) c.args.key.now) (always_returns_same _ _ _ (λ a r f called. (search rules, search rules))) in
    found_first c.args.leaves.now c.requires.in_order c.requires.leaves c.args.key.now c.in-Ok.leaf c.in-Ok.ensures.bound by_key

pub returns-in-Err-eq0-clause-absent : goal.returns-in-Err-eq0-clause-absent
returns-in-Err-eq0-clause-absent c =
    let leaves = c.args.leaves.now in
    let by_key = c.in-Err-eq0.ensures.position (λ l. key_cmp (first_key_of l) c.args.key.now) (always_returns_same _ _ _ (λ a r f called. (search rules, search rules))) in
    let parted = by_key (comparisons_of_first_keys_rise leaves c.requires.in_order c.requires.leaves c.args.key.now) in
    gap_before_all leaves c.requires.in_order c.requires.leaves c.args.key.now (λ i e lt. parted.1 i e (omega (arith, c.in-Err-eq0.field-0-test)) lt)

pub returns-in-Ok-search-clause-found : goal.returns-in-Ok-search-clause-found
returns-in-Ok-search-clause-found c =
    let leaves = c.args.leaves.now in
    let at = c.in-Err.above - 1 in
    let lt : at < length leaves = omega (arith, c.in-Err.ensures.bound, c.in-Err.above-test.1) in
    let here = get_or_read leaves at c.index-leaves-leaf.result lt c.index-leaves-leaf.is [] in
    found_within leaves c.requires.in_order c.requires.leaves c.args.key.now at c.in-Ok-search.row lt (subst (λ l. IsAt l c.args.key.now c.in-Ok-search.row) here c.in-Ok-search.ensures.found)

pub returns-in-Err-search-clause-absent : goal.returns-in-Err-search-clause-absent
returns-in-Err-search-clause-absent c =
    let leaves = c.args.leaves.now in
    let at = c.in-Err.above - 1 in
    let lt : at < length leaves = omega (arith, c.in-Err.ensures.bound, c.in-Err.above-test.1) in
    let here = get_or_read leaves at c.index-leaves-leaf.result lt c.index-leaves-leaf.is [] in
    let by_key = c.in-Err.ensures.position (λ l. key_cmp (first_key_of l) c.args.key.now) (always_returns_same _ _ _ (λ a r f called. (search rules, search rules))) in
    let parted = by_key (comparisons_of_first_keys_rise leaves c.requires.in_order c.requires.leaves c.args.key.now) in
    gap_within leaves c.requires.in_order c.requires.leaves c.args.key.now at c.in-Err-search.row lt
    (λ e. parted.0 at e (omega arith) (omega (arith, c.in-Err.above-test.1)))
    (λ e more. parted.1 (at + 1) e (omega (arith, c.in-Err.above-test.1)) more)
    (subst (λ l. IsGapFor l c.args.key.now c.in-Err-search.row) here c.in-Err-search.ensures.absent)
