use Rattle.std.proofs.Common.{rules, ◌∙◌}
use Rattle.std.proofs.lemmas.Fn.{always_returns_same}
use Rattle.omap_pages.specs.Rows.{key_cmp}
use Rattle.omap_pages.proofs.Searched.{searched_in}
use Rattle.omap_pages.proofs.leaf.Leaf.search.Goals as goal

-- the closure compares a row's key
pub returns : goal.returns
returns c =
    let facts = c.binary_search_by.ensures in
    let by_key = facts.position (λ e. key_cmp e.0 c.args.key.now) (always_returns_same _ _ _ (λ a r f called. (search rules, search rules))) in
    searched_in c.as_slice.result.now c.args.self.now (c.as_slice.ensures.value ∙ c.self.view_is) c.requires.in_order c.args.key.now _ facts.bound by_key
