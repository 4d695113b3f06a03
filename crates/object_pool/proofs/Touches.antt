-- What a pool is where what is kept under one key is changed.
use Rattle.std.proofs.Common.{◌≡◌, ◌≢◌, ℕ, ◌+◌, ◌==◌, Bool, true, false, cond, List, [], ◌∷◌, length, sum_by, Some, IsSome, is_some, unwrap_or, if◌then◌else◌, refl, sym, ◌∙◌, ap, subst, arith}
use Rattle.std.specs.List.{filter}
use Rattle.std.specs.Map.{lookup, set_value}
use Rattle.std.proofs.lemmas.Bool.{eqb-true}
use Rattle.rgw_types.specs.declared.pool_key.Key.{Key}
use Rattle.object_pool.specs.Objects.{Object, Slots, PoolView, exists, frames_of, is_key, nothing, settled, slot_at, HasFrameSum, with_object}
use Rattle.object_pool.proofs.EntryLemmas.{found_there, lookup_set, lookup_set_other, sum_set}
use Rattle.object_pool.proofs.FrameSums.{first_of_both, sum_existing}
use Rattle.object_pool.proofs.Keys.{keys_apart, keys_apart_by, same_key}

module _ (slots : Slots) (key : Key) (there : IsSome (lookup (is_key key) slots)) (new : Object) where
  pub still_there : IsSome (lookup (is_key key) (set_value (is_key key) slots new))
  still_there = ap is_some (lookup_set (is_key key) slots new there)

  pub at_key : slot_at (set_value (is_key key) slots new) key ≡ new
  at_key = ap (λ o. unwrap_or o nothing) (lookup_set (is_key key) slots new there)

  pub elsewhere : (q : Key) → q ≢ key → slot_at (set_value (is_key key) slots new) q ≡ slot_at slots q
  elsewhere q differs = ap (λ o. unwrap_or o nothing) (lookup_set_other (is_key key) (is_key q) (keys_apart key q differs) slots new)

  -- the sum of the frames changes by what the object's change
  pub frames_now : (frame : ℕ) → sum_by (λ e. frames_of frame e.1) (filter (λ e. exists e.1) (set_value (is_key key) slots new)) + frames_of frame (slot_at slots key) ≡ sum_by (λ e. frames_of frame e.1) (filter (λ e. exists e.1) slots) + frames_of frame new
  frames_now frame =
      let more = sum_set (is_key key) (frames_of frame) slots (slot_at slots key) new (found_there (is_key key) slots nothing there) in
      omega (arith, sum_existing frame slots, sum_existing frame (set_value (is_key key) slots new), more)

-- with the same bytes, all frames are accounted for as before
pub same_sum : (pool : PoolView) (key : Key) (new : Object) → IsSome (lookup (is_key key) pool.slots) → new.bytes ≡ (slot_at pool.slots key).bytes → HasFrameSum pool → HasFrameSum (with_object pool key new pool.free)
same_sum pool key new there same sum =
    let frames : frames_of pool.frame new ≡ frames_of pool.frame (slot_at pool.slots key) = ap (λ b. frames_of pool.frame (record new { bytes = b })) same in
    omega (arith, frames, frames_now pool.slots key there new pool.frame, sum)

-- what does not exist has nothing to be seen
pub no_bytes : (o : Object) → exists o ≡ false → o.bytes ≡ []
no_bytes o gone = empty o.bytes (eqb-true (length o.bytes) 0 (first_of_both (length o.bytes == 0) _ gone))
  where
    empty : (xs : List ℕ) → length xs ≡ 0 → xs ≡ []
    empty [] h = refl
    empty (x ∷ xs) h = absurd (omega (arith, h))

settled_gone : (o : Object) → exists o ≡ false → settled o ≡ nothing
settled_gone o gone = ap (λ b. if b then o else nothing) gone

objects_set : (test : Key → Bool) (slots : Slots) (o : Object) → lookup test slots ≡ Some o → exists o ≡ false → filter (λ e. exists e.1) (set_value test slots nothing) ≡ filter (λ e. exists e.1) slots
objects_set test [] o found gone = refl
objects_set test (e ∷ es) o found gone =
    let E : Key × Object → Bool = λ e. exists e.1 in
    elim (test e.0) as (λ b. cond b (Some e.1) (lookup test es) ≡ Some o → filter E (cond b ((e.0, nothing) ∷ es) (e ∷ set_value test es nothing)) ≡ filter E (e ∷ es)) [
      | true ↦ λ here.
          let same : e.1 ≡ o = cc in
          let out : exists e.1 ≡ false = ap exists same ∙ gone in
          sym (ap (λ b. cond b (e ∷ filter E es) (filter E es)) out)
      | false ↦ λ later. ap (λ z. cond (exists e.1) (e ∷ z) z) (objects_set test es o later gone)
    ] found

-- nothing in the place of what does not exist
module _ (slots : Slots) (key : Key) (there : IsSome (lookup (is_key key) slots)) (gone : exists (slot_at slots key) ≡ false) where
  pub no_object_changes : (q : Key) → settled (slot_at (set_value (is_key key) slots nothing) q) ≡ settled (slot_at slots q)
  no_object_changes q =
      elim (is_key key q) as (λ b. is_key key q ≡ b → settled (slot_at (set_value (is_key key) slots nothing) q) ≡ settled (slot_at slots q)) [
        | true ↦ λ here.
            let P : Key → Type 0 = λ k. settled (slot_at (set_value (is_key key) slots nothing) k) ≡ settled (slot_at slots k) in
            subst P (same_key key q here) (ap settled (at_key slots key there nothing) ∙ sym (settled_gone (slot_at slots key) gone))
        | false ↦ λ other. ap (λ o. settled (unwrap_or o nothing)) (lookup_set_other (is_key key) (is_key q) (keys_apart_by key q other) slots nothing)
      ] refl

  pub same_objects : filter (λ e. exists e.1) (set_value (is_key key) slots nothing) ≡ filter (λ e. exists e.1) slots
  same_objects = objects_set (is_key key) slots (slot_at slots key) (found_there (is_key key) slots nothing there) gone
