use Rattle.std.proofs.Common.{◌≡◌, true, false, Some, None, is_some, ap, subst, sym, ◌∙◌}
use Rattle.std.specs.Map.{lookup}
use Rattle.std.specs.Option.{option_copied}
use Rattle.object_pool.specs.Objects.{HasFrameSum, is_key, exists}
use Rattle.object_pool.proofs.FrameSums.{exists_is, frame_sum}
use Rattle.object_pool.proofs.SlotLemmas.{kept_or_not, slot_there, slot_absent, held_of}
use Rattle.object_pool.proofs.pool.Pool.has_object.Goals as goal

pub returns-in-Some : goal.returns-in-Some
returns-in-Some c =
    let region = c.self.inside.region in
    let key = c.args.key.now in
    let o = c.in-Some.object.now in
    let found : lookup (is_key key) c.self.inside.objects ≡ Some o = sym c.get.ensures ∙ ap option_copied c.in-Some.is in
    record {
      value = c.exists.ensures ∙ (exists_is region o (held_of region _ _ (is_key key) o c.self.invariant found) ∙ ap exists (sym (slot_there region _ _ key o (ap (λ p. p.slots) c.self.view_is) found)));
      there = λ _. sym (kept_or_not region _ _ (is_key key) (ap (λ p. p.slots) c.self.view_is)) ∙ ap is_some found;
      sum = subst HasFrameSum c.self.view_is (frame_sum _ c.self.inside.frame _ c.self.invariant);
    }

pub returns-in-None : goal.returns-in-None
returns-in-None c =
    let none : lookup (is_key c.args.key.now) c.self.inside.objects ≡ None = sym c.get.ensures ∙ ap option_copied c.in-None.is in
    record {
      value = ap exists (sym (slot_absent c.self.inside.region _ _ c.args.key.now (ap (λ p. p.slots) c.self.view_is) none));
      there = λ bad. absurd (let no : false ≡ true = bad in cc);
      sum = subst HasFrameSum c.self.view_is (frame_sum _ c.self.inside.frame _ c.self.invariant);
    }
