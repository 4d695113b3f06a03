use Rattle.std.proofs.Common.{◌≡◌, ◌+◌, sum_by, refl, ap, ap₂, ◌∙◌}
use Rattle.std.specs.List.{filter}
use Rattle.std.specs.Map.{set_value}
use Rattle.object_pool.specs.Parts.{Parts}
use Rattle.object_pool.specs.Objects.{Object, frames_of, is_key, nothing, exists, settled, slot_at}
use Rattle.object_pool.proofs.Touches.{still_there, at_key, no_bytes, no_object_changes, same_objects}
use Rattle.object_pool.proofs.pool.Pool.make_empty.Goals as goal

-- what is put there is nothing
written : (c : goal.After-drop-parts_mut-4) → set_value (is_key c.args.key.now) c.args.self.now.slots (record (slot_at c.args.self.now.slots c.args.key.now) { attrs = c.in_ok-self.field-0.attrs; rows = c.in_ok-self.field-0.rows }) ≡ set_value (is_key c.args.key.now) c.args.self.now.slots nothing
written c =
    let none = no_bytes (slot_at c.args.self.now.slots c.args.key.now) c.requires.gone in
    let object : Parts → _ → Object = λ p b. record { bytes = b; attrs = p.attrs; rows = p.rows } in
    ap₂ (λ p b. set_value (is_key c.args.key.now) c.args.self.now.slots (object p b)) c.in_ok-self.ensures none

pub returns-clause-there : goal.returns-clause-there
returns-clause-there c = still_there c.args.self.now.slots c.args.key.now c.requires.there _

pub returns-clause-nothing : goal.returns-clause-nothing
returns-clause-nothing c =
    let old = c.args.self.now in
    let slots = old.slots in
    let same = ap (λ z. filter (λ e. exists e.1) z) (written c) ∙ same_objects slots c.args.key.now c.requires.there c.requires.gone in
    record {
      put = ap (λ z. slot_at z c.args.key.now) (written c) ∙ at_key slots c.args.key.now c.requires.there nothing;
      objects = same;
      all = λ q. ap (λ z. settled (slot_at z q)) (written c) ∙ no_object_changes slots c.args.key.now c.requires.there c.requires.gone q;
      counts = record { frame = refl; frames = refl; free = refl };
      sum = λ sum. ap (λ z. old.free + sum_by (λ e. frames_of old.frame e.1) z) same ∙ sum;
    }
