use Rattle.std.proofs.Common.{◌≡◌, Some, IsNone, is_some, cond, ap, sym, refl, subst, ◌∙◌}
use Rattle.std.specs.List.{filter}
use Rattle.std.specs.List.Sorted.{IsStrictlySortedBy}
use Rattle.std.specs.Map.{lookup, keys_of}
use Rattle.std.specs.BTreeMap.{insert_entry}
use Rattle.rgw_types.specs.declared.pool_key.Key.{Key}
use Rattle.object_pool.specs.declared.object.Stored.{Stored}
use Rattle.object_pool.specs.Parts.{Parts, no_parts}
use Rattle.object_pool.specs.Objects.{exists, is_key, key_cmp, settled, slot_at}
use Rattle.object_pool.specs.Stored.{Entries, IsSound, slots_in}
use Rattle.object_pool.proofs.EntryLemmas.{cond-true}
use Rattle.object_pool.proofs.Insertions.{Adds, adds_from, added_view, inserted_sound, inserted_view, inserted_same, objects_insert}
use Rattle.object_pool.proofs.Keys.{itself}
use Rattle.object_pool.proofs.SlotLemmas.{kept_or_not, slot_there}
use Rattle.object_pool.proofs.pool.Pool.insert.Goals as goal

pub insert-requires : goal.insert-requires
insert-requires c = kept_or_not c.self.inside.region c.self.inside.objects _ (is_key c.args.key.now) (ap (λ p. p.slots) c.self.view_is) ∙ c.requires

-- after an error the region has a run without frames more, which no entry has
unchanged : (c : goal.After-from_residual-in_err-number) → slots_in c.take.new.self c.insert.new.self ≡ c.args.self.now.slots
unchanged c =
    let adds = adds_from c.self.inside.region c.take.new.self c.take.result c.unwrap-run.result c.unwrap-run.ensures c.take.ensures.count c.take.ensures.owned c.take.ensures.others c.take.ensures.free c.take.ensures.frame c.take.ensures.frames in
    ap (slots_in c.take.new.self) c.in_err-number.ensures.err ∙ (added_view c.self.inside.region c.take.new.self _ _ c.self.invariant c.unwrap-run.result adds ∙ ap (λ p. p.slots) c.self.view_is)

pub returns-in_err-number-clause-objects : goal.returns-in_err-number-clause-objects
returns-in_err-number-clause-objects c = ap (λ z. filter (λ e. exists e.1) z) (unchanged c)

pub returns-in_err-number-clause-all : goal.returns-in_err-number-clause-all
returns-in_err-number-clause-all c q = ap (λ z. settled (slot_at z q)) (unchanged c)

adds : (c : goal.In_ok-number) → Adds c.self.inside.region c.take.new.self c.unwrap-run.result
adds c = adds_from c.self.inside.region c.take.new.self c.take.result c.unwrap-run.result c.unwrap-run.ensures c.take.ensures.count c.take.ensures.owned c.take.ensures.others c.take.ensures.free c.take.ensures.frame c.take.ensures.frames

none : (c : goal.In_ok-number) → IsNone (lookup (is_key c.args.key.now) c.self.inside.objects)
none c = kept_or_not c.self.inside.region c.self.inside.objects _ (is_key c.args.key.now) (ap (λ p. p.slots) c.self.view_is) ∙ c.requires

abbrev new_object : (c : goal.In_ok-number) → Stored
new_object c = record { run = c.unwrap-run.result; size = 0; parts = no_parts }

entries : (c : goal.In_ok-number) → c.insert.new.self ≡ insert_entry key_cmp c.self.inside.objects c.args.key.now (new_object c)
entries c =
    let with_parts : Parts → Stored = λ p. record { run = c.unwrap-run.result; size = 0; parts = p } in
    c.in_ok-number.ensures.entries ∙ ap (λ p. insert_entry key_cmp c.self.inside.objects c.args.key.now (with_parts p)) c.in_ok-parts.ensures

pub invariant_of-self-2 : goal.invariant_of-self-2
invariant_of-self-2 c =
    let P : Entries → Type 0 = λ es. IsSound c.take.new.self c.self.inside.frame es in
    let sorted = subst (λ es. IsStrictlySortedBy key_cmp (keys_of es)) (entries c) c.in_ok-number.ensures.in_order in
    subst P (sym (entries c)) (inserted_sound c.self.inside.region c.take.new.self _ _ c.self.invariant c.unwrap-run.result (adds c) c.args.key.now (none c) sorted)

found : (c : goal.In_ok-number) → lookup (is_key c.args.key.now) c.insert.new.self ≡ Some (new_object c)
found c =
    let with_parts : Parts → Stored = λ p. record { run = c.unwrap-run.result; size = 0; parts = p } in
    let at : lookup (is_key c.args.key.now) c.insert.new.self ≡ Some (with_parts c.in_ok-parts.parts) =
    c.in_ok-number.ensures.found c.args.key.now ∙ cond-true _ _ (itself c.args.key.now) in
    at ∙ ap (λ p. Some (with_parts p)) c.in_ok-parts.ensures

pub returns-clause-there : goal.returns-clause-there
returns-clause-there c = sym (kept_or_not c.take.new.self c.insert.new.self _ (is_key c.args.key.now) refl) ∙ ap is_some (found c)

pub returns-clause-ok : goal.returns-clause-ok
returns-clause-ok c = slot_there c.take.new.self c.insert.new.self _ c.args.key.now (new_object c) refl (found c)

pub returns-clause-objects : goal.returns-clause-objects
returns-clause-objects c =
    let slots = ap (λ p. p.slots) c.self.view_is in
    ap (λ z. filter (λ e. exists e.1) z) (ap (slots_in c.take.new.self) (entries c) ∙ inserted_view c.self.inside.region c.take.new.self _ _ c.self.invariant c.unwrap-run.result (adds c) c.args.key.now)
    ∙ (objects_insert c.args.key.now (slots_in c.self.inside.region c.self.inside.objects) (ap (λ z. is_some (lookup (is_key c.args.key.now) z)) slots ∙ c.requires) ∙ ap (λ z. filter (λ e. exists e.1) z) slots)

pub returns-clause-all : goal.returns-clause-all
returns-clause-all c q =
    let key = c.args.key.now in
    let with_parts : Parts → Stored = λ p. record { run = c.unwrap-run.result; size = 0; parts = p } in
    let at : (x : Key) → lookup (is_key x) c.insert.new.self ≡ cond (is_key key x) (Some (new_object c)) (lookup (is_key x) c.self.inside.objects) =
    λ x. c.in_ok-number.ensures.found x ∙ ap (λ p. cond (is_key key x) (Some (with_parts p)) (lookup (is_key x) c.self.inside.objects)) c.in_ok-parts.ensures in
    inserted_same c.self.inside.region c.take.new.self c.self.inside.objects c.insert.new.self key (new_object c) refl at (none c)
    (added_view c.self.inside.region c.take.new.self _ _ c.self.invariant c.unwrap-run.result (adds c)) q
    ∙ ap (λ z. settled (slot_at z q)) (ap (λ p. p.slots) c.self.view_is)
