-- A door of a pass that has seen no event is ready.
use Rattle.std.proofs.Common.{◌≡◌, ℕ, false, [], List, refl, sym, subst, arith}
use Rattle.gateway.specs.Calls.{MayBegin}
use Rattle.realm_model.specs.Settings.{SettingsView}
use Rattle.realm_model.specs.declared.event.Event.{Event}

at_first : (settings : SettingsView) (pass : ℕ) → MayBegin settings (record { pass = pass; count = 0; used = false; seen = [] })
at_first settings pass = record {
  legal = tt;
  counted = record { few = omega arith; room = omega arith };
  unused = λ count later. refl;
}

pub ready : (settings : SettingsView) (pass : ℕ) (seen : List Event) → seen ≡ []
    → MayBegin settings (record { pass = pass; count = 0; used = false; seen = seen })
ready settings pass seen none =
    subst (λ (s : List Event). MayBegin settings (record { pass = pass; count = 0; used = false; seen = s })) (sym none) (at_first settings pass)
