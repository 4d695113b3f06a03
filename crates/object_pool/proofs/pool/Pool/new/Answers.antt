use Rattle.std.proofs.Common.{◌≡◌, ◌+◌, [], sum_by, ap, subst, arith, sym}
use Rattle.std.specs.List.Sorted.{IsStrictlySortedBy}
use Rattle.std.specs.Map.{keys_of}
use Rattle.object_pool.specs.declared.object.Stored.{Stored}
use Rattle.object_pool.specs.Objects.{key_cmp}
use Rattle.object_pool.specs.Stored.{AllHeld, AllApart}
use Rattle.object_pool.proofs.pool.Pool.new.Goals as goal

no_entries_apart : AllApart []
unfolding AllApart
no_entries_apart = tt

none_in_order : IsStrictlySortedBy key_cmp (keys_of {X = Stored} [])
unfolding IsStrictlySortedBy
none_in_order = tt

pub invariant_of-result : goal.invariant_of-result
invariant_of-result c =
    let region = c.in_ok-new.field-0 in
    let is = c.in_ok-new.ensures in
    let frame : region.frame ≡ c.args.frame = ap (λ r. r.frame) is in
    let frames : region.frames ≡ c.args.frames = ap (λ r. r.frames) is in
    let free : region.free ≡ c.args.frames = ap (λ r. r.free) is in
    let none : c.new-2.result ≡ [] = c.new-2.ensures in
    record {
      frame_is = frame;
      not_too_small = c.requires.not_too_small;
      not_too_large = c.requires.not_too_large;
      not_too_many = omega (arith, frames, c.requires.not_too_many);
      held = subst (λ es. AllHeld region es) (sym none) tt;
      apart = subst (λ es. AllApart es) (sym none) no_entries_apart;
      in_order = subst (λ es. IsStrictlySortedBy key_cmp (keys_of es)) (sym none) none_in_order;
      sum = subst (λ es. region.free + sum_by (λ e. e.1.run.count) es ≡ region.frames) (sym none) (omega (arith, frames, free));
    }
