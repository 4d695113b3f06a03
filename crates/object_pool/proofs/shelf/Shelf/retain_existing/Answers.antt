use Rattle.std.proofs.Common.{◌≡◌, ap, rules, ◌∙◌}
use Rattle.std.specs.List.{filter}
use Rattle.std.proofs.lemmas.Map.Made.{filter_same_pairs}
use Rattle.object_pool.specs.Stored.{is_stored}
use Rattle.object_pool.specs.Shelves.{is_stored_at, entries_of}
use Rattle.object_pool.proofs.ShelfLemmas.{same_numbers, retained_shelf, retained_entries, entries_in_order}
use Rattle.object_pool.proofs.shelf.Shelf.retain_existing.Goals as goal

-- the numbers of the objects that exist
left : (c : goal.After-retain) → c.retain.new.self.entries ≡ filter (λ e. is_stored_at c.self.inside.kept e.1) c.self.inside.numbers.entries
left c =
    filter_same_pairs _ (λ e. is_stored_at c.forget_emptied.new.kept e.1) _ (λ k v b w f' t. (search rules, search rules, search rules)) _ _ c.retain.ensures.filtered
    ∙ same_numbers c.self.inside.kept c.forget_emptied.new.kept c.self.inside.numbers.entries c.forget_emptied.ensures

pub invariant_of-self : goal.invariant_of-self
invariant_of-self c = retained_shelf c.self.inside.kept c.forget_emptied.new.kept _ c.self.invariant c.forget_emptied.ensures c.retain.new.self.entries (left c) c.retain.ensures.ordered

pub returns-clause-entries : goal.returns-clause-entries
returns-clause-entries c =
    ap (entries_of c.forget_emptied.new.kept) (left c)
    ∙ retained_entries c.self.inside.kept c.forget_emptied.new.kept _ c.self.invariant c.forget_emptied.ensures
    ∙ ap (filter (λ e. is_stored e.1)) c.self.view_is

pub returns-clause-in_order : goal.returns-clause-in_order
returns-clause-in_order c = entries_in_order c.forget_emptied.new.kept c.retain.new.self.entries c.retain.ensures.ordered
