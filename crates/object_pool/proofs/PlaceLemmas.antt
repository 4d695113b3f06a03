-- What a place is where the object at it is changed.
use Rattle.std.proofs.Common.{◌≡◌, ℕ, List, Some, IsSome, Result, Ok, Err, IsErr, OnOk, OnErr, ◌↔◌, refl, sym, ◌∙◌, ap, ap₂, subst}
use Rattle.std.specs.Map.{lookup, set_value}
use Rattle.std.proofs.lemmas.Map.Steps.{set_value_same}
use Rattle.omap_pages.specs.Contents.{Contents}
use Rattle.omap_pages.specs.Contents as contents
use Rattle.object_pool.specs.declared.place.Place.{Place}
use Rattle.object_pool.specs.Parts.{Parts}
use Rattle.object_pool.specs.Lending.{with_parts}
use Rattle.object_pool.specs.Objects.{Object, PoolView, HasFrameSum, is_key, nothing, settled, slot_at, with_object}
use Rattle.object_pool.specs.Places.{Becomes, Changes, ChangesRows, Readies, Stays, borrow_of, key_of, object_of, pool_of, rows_of}
use Rattle.object_pool.proofs.EntryLemmas.{found_there}
use Rattle.object_pool.proofs.Touches.{at_key, elsewhere, same_sum, still_there}

pub becomes : (old new : Place) (is : Object) (free : ℕ) → pool_of new ≡ with_object (pool_of old) (key_of old) is free → key_of new ≡ key_of old → borrow_of new ≡ borrow_of old → HasFrameSum (pool_of new) → IsSome (lookup (is_key (key_of old)) (pool_of old).slots) → Becomes old new is free
becomes old new is free after key borrow sum there = record {
  same_borrow = borrow;
  key = key;
  object = ap₂ (λ p k. slot_at p.slots k) after key ∙ at_key (pool_of old).slots (key_of old) there is;
  others = λ q differs. ap settled (ap (λ p. slot_at p.slots q) after ∙ elsewhere (pool_of old).slots (key_of old) there is q differs);
  after = after;
  sum = sum;
}

module _ (old : Place) (w : Parts) where
  abbrev changed : Object
  changed = record (object_of old) { attrs = w.attrs; rows = w.rows }

  pub parts_there : IsSome (lookup (is_key (key_of old)) (with_parts (pool_of old) (key_of old) w).slots)
  parts_there = still_there (pool_of old).slots (key_of old) old.there changed

  pub parts_sum : HasFrameSum (with_parts (pool_of old) (key_of old) w)
  parts_sum = same_sum (pool_of old) (key_of old) changed old.there refl old.sum

  pub parts_change : (new : Place) → pool_of new ≡ with_parts (pool_of old) (key_of old) w → key_of new ≡ key_of old → borrow_of new ≡ borrow_of old → Changes old new changed
  parts_change new after key borrow = becomes old new changed (pool_of old).free after key borrow (subst HasFrameSum (sym after) parts_sum) old.there

-- the same parts change nothing
pub parts_same : (old : Place) (w : Parts) → w.attrs ≡ (object_of old).attrs → w.rows ≡ (object_of old).rows → with_parts (pool_of old) (key_of old) w ≡ pool_of old
parts_same old w attrs rows =
    let slots = (pool_of old).slots in
    let key = key_of old in
    let o = object_of old in
    let object : Object = record o { attrs = w.attrs; rows = w.rows } in
    let is : object ≡ o = λ i. record { bytes = o.bytes; attrs = attrs i; rows = rows i } in
    let back = set_value_same (is_key key) slots object (found_there (is_key key) slots nothing old.there ∙ ap (λ z. Some z) (sym is)) in
    ap (λ z. let p : PoolView = record (pool_of old) { slots = z } in p) back

pub rows_now : (old : Place) (o : Object) → slot_at (set_value (is_key (key_of old)) (pool_of old).slots o) (key_of old) ≡ o
rows_now old o = at_key (pool_of old).slots (key_of old) old.there o

-- where only the rows of the object are written
pub rows_change : (old new : Place) (w : Parts) → pool_of new ≡ with_parts (pool_of old) (key_of old) w → key_of new ≡ key_of old → borrow_of new ≡ borrow_of old → w.attrs ≡ (object_of old).attrs → ChangesRows old new
rows_change old new w after key borrow attrs =
    let change = parts_change old w new after key borrow in
    let o = object_of old in
    let is : changed old w ≡ record o { rows = rows_of new } = λ i. record { bytes = o.bytes; attrs = attrs i; rows = (sym change.object i).rows } in
    subst (λ z. Becomes old new z (pool_of old).free) is change

-- where rows, and rooms and spare rows that are no lower, are written
pub readied : (old new : Place) (before after : Contents) → ChangesRows old new → rows_of new ≡ after → before ≡ rows_of old → contents.Readies before after → Readies old new
readied old new before after change now was is = record {
  change = change;
  kept = subst (λ c. contents.Readies c (rows_of new)) was (subst (λ c. contents.Readies before c) (sym now) is);
}

-- after an error nothing has changed
pub stays_on_err : {E : Type 0} (result : Result (Unit {0}) E) (old new : Place) (rows : Contents) (attrs : List ℕ) → pool_of new ≡ with_parts (pool_of old) (key_of old) (record { attrs = attrs; rows = rows }) → key_of new ≡ key_of old → borrow_of new ≡ borrow_of old → attrs ≡ (object_of old).attrs → OnErr result (rows ≡ rows_of old) → OnErr result (Stays old new)
stays_on_err (Ok _) old new rows attrs after key borrow same on_err = on_err
stays_on_err (Err e) old new rows attrs after key borrow same on_err = record {
  same_borrow = borrow;
  key = key;
  pool = after ∙ parts_same old (record { attrs = attrs; rows = rows }) same on_err;
}

-- where only the attributes are written
pub attrs_change : (old new : Place) (w : Parts) (attrs : List ℕ) → pool_of new ≡ with_parts (pool_of old) (key_of old) w → key_of new ≡ key_of old → borrow_of new ≡ borrow_of old → w.attrs ≡ attrs → w.rows ≡ rows_of old → Changes old new (record (object_of old) { attrs = attrs })
attrs_change old new w attrs after key borrow attrs_are rows_are =
    let change = parts_change old w new after key borrow in
    let o = object_of old in
    let is : changed old w ≡ record o { attrs = attrs } = λ i. record { bytes = o.bytes; attrs = attrs_are i; rows = rows_are i } in
    subst (λ z. Becomes old new z (pool_of old).free) is change

-- where a call that may fail did not
pub becomes_on_ok : {E : Type 0} (result : Result (Unit {0}) E) (old new : Place) (is : Object) (free : ℕ) → OnOk result (pool_of new ≡ with_object (pool_of old) (key_of old) is free) → key_of new ≡ key_of old → borrow_of new ≡ borrow_of old → OnOk result (Becomes old new is free)
becomes_on_ok (Ok _) old new is free after key borrow = becomes old new is free after key borrow new.sum old.there
becomes_on_ok (Err e) old new is free after key borrow = after

-- a later pool that is the same is what that call left
pub on_ok_same : {T E : Type 0} (result : Result T E) (left now is : PoolView) → OnOk result (left ≡ is) → now ≡ left → OnOk result (now ≡ is)
on_ok_same (Ok _) left now is done same = same ∙ done
on_ok_same (Err e) left now is done same = done

-- a call that is not refused was done
pub done : {E : Type 0} {P : Type 0} (result : Result (Unit {0}) E) (refused : Type 0) → (refused → ⊥) → (IsErr result ↔ refused) → OnOk result P → P
done (Ok _) refused never only p = p
done (Err e) refused never only p = absurd (never (only.0 refl))
