use Rattle.std.proofs.Common.{◌∙◌, arith, ℕ, length-drop, length-take}
use Rattle.gw_io.proofs.Pieces.{Appends-take-add}
use Rattle.gw_io.proofs.writing.write_all.Goals as goal

pub loop-done-preserved : goal.loop-done-preserved
loop-done-preserved g c =
    let ensures = c.in_ok-done.ensures in
    record {
      within = omega (arith, c.loop-done.invariant.within, ensures.bound, length-take {A = ℕ}, length-drop {A = ℕ});
      taken = Appends-take-add _ _ _ _ _ _ c.loop-done.invariant.taken ensures.bytes;
      good = ensures.cause.good ∙ c.loop-done.invariant.good;
    }
