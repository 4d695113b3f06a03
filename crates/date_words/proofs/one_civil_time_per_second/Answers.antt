use Rattle.std.proofs.Common.{sym, subst}
use Rattle.date_words.specs.Civil.{IsCivilOf}
use Rattle.date_words.proofs.CivilLemmas.{civil_of_is, is_before_end, one_civil}
use Rattle.date_words.proofs.one_civil_time_per_second.Goals as goal

pub returns : goal.returns
returns c seconds time = (
  λ is.
      let h = is_before_end seconds time is in
      (h, one_civil seconds time _ is (civil_of_is seconds h)),
  λ is. subst (IsCivilOf seconds) (sym is.1) (civil_of_is seconds is.0),
)
