use Rattle.std.proofs.Common.{Err, ap}
use Rattle.rgw_words.proofs.Listing.{are_listed, none_listed}
use Rattle.rgw_words.proofs.named_users.listed_users.Goals as goal

pub returns-in-Ok-clause-ok : goal.returns-in-Ok-clause-ok
returns-in-Ok-clause-ok c = are_listed c.args.text.now _ c.in-Ok.ensures.ok

pub returns-in-Err-BadUsers-clause-refused : goal.returns-in-Err-BadUsers-clause-refused
returns-in-Err-BadUsers-clause-refused c = λ _. none_listed c.args.text.now (c.in-Err-BadUsers.ensures.bad (ap Err c.in-Err-BadUsers.field-0-is))
