use Rattle.std.proofs.Common.{false, sym, codes}
use Rattle.rgw_words.proofs.Apart.{exact_behind, exact_serve}
use Rattle.rgw_words.proofs.laws.words_without_users_are_judged_exactly.Goals as goal

pub returns : goal.returns
returns c = record {
  once = λ words none. sym (exact_behind (codes "once") false words none);
  script = λ words none. sym (exact_behind (codes "script") false words none);
  serve = λ words none. sym (exact_serve words none);
}
