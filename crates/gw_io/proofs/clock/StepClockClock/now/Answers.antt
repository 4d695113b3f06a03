use Rattle.std.proofs.Common.{◌≡◌, ◌+◌, ◌++◌, [], ◌∷◌, length, ap, length-append, sym, ◌∙◌}
use Rattle.gw_io.specs.Memory.{moment_at, moments_of}
use Rattle.gw_io.proofs.Moments.{moment_at-add-one, first_moments-add-one, first_moments-as_planned}
use Rattle.gw_io.proofs.clock.StepClockClock.now.Goals as goal

pub invariant_of-self : goal.invariant_of-self
invariant_of-self c =
    let now = c.self.inside in
    let told : length c.with_moments-self-inside.result.numbers ≡ length now.told.numbers + 1 =
    ap length c.with_moments-self-inside.ensures ∙ length-append now.told.numbers _ in
    c.saturating_add-self-inside.ensures ∙ moment_at-add-one now.first now.step (length now.told.numbers) now.next c.self.invariant
    ∙ ap (moment_at now.first now.step) (sym told)

pub returns-clause-told : goal.returns-clause-told
returns-clause-told c =
    let now = c.self.inside in
    let told : length c.with_moments-self-inside.result.numbers ≡ length now.told.numbers + 1 =
    ap length c.with_moments-self-inside.ensures ∙ length-append now.told.numbers _ in
    first_moments-add-one (moment_at now.first now.step) (length now.told.numbers) _ told
    ∙ ap (λ m. moments_of (record { first = now.first; step = now.step; calls = length now.told.numbers }) ++ m ∷ []) (sym c.self.invariant)
    ∙ ap (λ clock. moments_of clock ++ now.next ∷ []) c.self.view_is

pub returns-clause-as_planned : goal.returns-clause-as_planned
returns-clause-as_planned c = first_moments-as_planned (moment_at c.self.inside.first c.self.inside.step) _
