use Rattle.std.proofs.Common.{◌≡◌, Some, IsNone, cond, ap, subst, sym, ◌∙◌}
use Rattle.std.specs.Map.{lookup}
use Rattle.std.specs.BTreeMap.{insert_entry}
use Rattle.slab.specs.Slab.{Updates}
use Rattle.rgw_types.specs.declared.pool_key.Key.{Key}
use Rattle.object_pool.specs.Objects.{is_key, key_cmp}
use Rattle.object_pool.specs.Shelves.{IsShelf, entries_of}
use Rattle.object_pool.proofs.ShelfLemmas.{number_or_not, reserved_shelf, inserted_shelf, inserted_entries, inserted_found, entries_in_order}
use Rattle.object_pool.proofs.shelf.Shelf.insert.Goals as goal

pub invariant_of-self : goal.invariant_of-self
invariant_of-self c = reserved_shelf c.self.inside.kept c.reserve.new.self _ c.reserve.ensures.rest_kept c.self.invariant

pub returns-in_err-reserve-clause-in_order : goal.returns-in_err-reserve-clause-in_order
returns-in_err-reserve-clause-in_order c = entries_in_order c.reserve.new.self c.self.inside.numbers.entries c.self.invariant.in_order

pub invariant_of-self-in_err-own : goal.invariant_of-self-in_err-own
invariant_of-self-in_err-own c = reserved_shelf c.self.inside.kept c.reserve.new.self _ c.reserve.ensures.rest_kept c.self.invariant

pub returns-in_err-own-clause-in_order : goal.returns-in_err-own-clause-in_order
returns-in_err-own-clause-in_order c = entries_in_order c.reserve.new.self c.self.inside.numbers.entries c.self.invariant.in_order

pub invariant_of-self-in_err-clone : goal.invariant_of-self-in_err-clone
invariant_of-self-in_err-clone c = reserved_shelf c.self.inside.kept c.reserve.new.self _ c.reserve.ensures.rest_kept c.self.invariant

pub returns-in_err-clone-clause-in_order : goal.returns-in_err-clone-clause-in_order
returns-in_err-clone-clause-in_order c = entries_in_order c.reserve.new.self c.self.inside.numbers.entries c.self.invariant.in_order

pub invariant_of-self-in_err-insert : goal.invariant_of-self-in_err-insert
invariant_of-self-in_err-insert c =
    subst (IsShelf c.reserve.new.self) (sym c.in_err-insert.ensures.err) (reserved_shelf c.self.inside.kept c.reserve.new.self _ c.reserve.ensures.rest_kept c.self.invariant)

pub returns-in_err-insert-clause-in_order : goal.returns-in_err-insert-clause-in_order
returns-in_err-insert-clause-in_order c = entries_in_order c.reserve.new.self c.insert.new.self.entries c.in_err-insert.ensures.ordered

module _ (c : goal.After-insert_reserved) where
  shelf : IsShelf c.reserve.new.self c.self.inside.numbers.entries
  shelf = reserved_shelf c.self.inside.kept c.reserve.new.self _ c.reserve.ensures.rest_kept c.self.invariant

  none : IsNone (lookup (is_key c.args.key.now) c.self.inside.numbers.entries)
  none = number_or_not c.self.inside.kept c.self.inside.numbers.entries _ (is_key c.args.key.now) c.self.view_is ∙ c.requires

  updates : Updates c.reserve.new.self c.insert_reserved.new.self c.vacant_key-number.result (Some (record { key = c.args.key.now; object = c.args.object }))
  updates =
      let number : c.insert_reserved.result ≡ c.vacant_key-number.result = c.insert_reserved.ensures.key ∙ sym c.vacant_key-number.ensures.value in
      subst (λ k. Updates c.reserve.new.self c.insert_reserved.new.self c.vacant_key-number.result (Some (record { key = k; object = c.args.object }))) c.in_ok-own.ensures
      (subst (λ m. Updates c.reserve.new.self c.insert_reserved.new.self m (Some (record { key = c.in_ok-own.own; object = c.args.object }))) number c.insert_reserved.ensures.updates)

  entries : c.insert.new.self.entries ≡ insert_entry key_cmp c.self.inside.numbers.entries c.args.key.now c.vacant_key-number.result
  entries = c.in_ok-insert.ensures.entries ∙ ap (λ k. insert_entry key_cmp c.self.inside.numbers.entries k c.vacant_key-number.result) c.in_ok-clone.ensures.cases

  own : lookup (is_key c.args.key.now) c.insert.new.self.entries ≡ Some c.vacant_key-number.result
  own = subst (λ k. lookup (is_key k) c.insert.new.self.entries ≡ Some c.vacant_key-number.result) c.in_ok-clone.ensures.cases c.in_ok-insert.ensures.updates.1

  found : (q : Key) → lookup (is_key q) c.insert.new.self.entries ≡ cond (is_key c.args.key.now q) (Some c.vacant_key-number.result) (lookup (is_key q) c.self.inside.numbers.entries)
  found q = c.in_ok-insert.ensures.updates.0 q ∙ ap (λ k. cond (is_key k q) (Some c.vacant_key-number.result) (lookup (is_key q) c.self.inside.numbers.entries)) c.in_ok-clone.ensures.cases

  before : entries_of c.reserve.new.self c.self.inside.numbers.entries ≡ c.args.self.now
  before = ap (λ kept. entries_of kept c.self.inside.numbers.entries) c.reserve.ensures.rest_kept ∙ c.self.view_is

pub invariant_of-self-2 : goal.invariant_of-self-2
invariant_of-self-2 c =
    inserted_shelf c.reserve.new.self c.insert_reserved.new.self _ (shelf c) c.args.key.now c.args.object c.vacant_key-number.result (none c) c.vacant_key-number.ensures.vacant (updates c) c.insert.new.self.entries (entries c) c.in_ok-insert.ensures.ordered (own c) (found c)

pub returns-clause-entries : goal.returns-clause-entries
returns-clause-entries c =
    ap (entries_of c.insert_reserved.new.self) (entries c)
    ∙ inserted_entries c.reserve.new.self c.insert_reserved.new.self _ (shelf c) c.args.key.now c.args.object c.vacant_key-number.result (none c) c.vacant_key-number.ensures.vacant (updates c)
    ∙ ap (λ z. insert_entry key_cmp z c.args.key.now c.args.object) (before c)

pub returns-clause-found : goal.returns-clause-found
returns-clause-found c q =
    inserted_found c.reserve.new.self c.insert_reserved.new.self _ (shelf c) c.args.key.now c.args.object c.vacant_key-number.result (none c) c.vacant_key-number.ensures.vacant (updates c) c.insert.new.self.entries (found c) q
    ∙ ap (λ z. cond (is_key c.args.key.now q) (Some c.args.object) (lookup (is_key q) z)) (before c)

pub returns-clause-in_order : goal.returns-clause-in_order
returns-clause-in_order c = entries_in_order c.insert_reserved.new.self c.insert.new.self.entries c.in_ok-insert.ensures.ordered
