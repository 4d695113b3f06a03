use Rattle.std.proofs.Common.{lit<}
use Rattle.std.proofs.lemmas.Str.Pattern.{split_once_first}
use Rattle.swift_auth.proofs.NoColon.{no_user_without_colon}
use Rattle.swift_auth.proofs.user.User.new.Goals as goal

pub returns-in_default : goal.returns-in_default
returns-in_default c =
    let first = split_once_first 58 c.args.full_name.now c.split_once.result c.split_once.ensures.cases (lit< tt) in
    let none = rw c.in_default.is at first in
    no_user_without_colon (record { full_name = c.args.full_name.now; key = c.args.key.now; token = c.args.token.now }) none
