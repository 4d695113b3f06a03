use Rattle.std.proofs.Common.{◌≡◌, ◌&&◌, bytes_eq, sym, ◌∙◌, rules, tests}
use Rattle.std.proofs.lemmas.Iterator.{YieldsList-from_slice}
use Rattle.std.proofs.lemmas.Iterator.Search.{find_from_yields_List}
use Rattle.swift_auth.proofs.Finding.{the_one, both_decide}
use Rattle.swift_auth.proofs.users.Users.login.Goals as goal

pub returns-clause-only : goal.returns-clause-only
returns-clause-only c =
    the_one (λ u. u.full_name) c.args.self.now (rw c.self.view_is at c.self.invariant).names_differ (λ u. bytes_eq u.full_name c.args.user.now && bytes_eq u.key c.args.key.now)
    (λ u. (u.full_name ≡ c.args.user.now) × (u.key ≡ c.args.key.now))
    (λ u. both_decide u.full_name c.args.user.now u.key c.args.key.now) (λ u v a b. a.0 ∙ sym b.0) _
    (find_from_yields_List (λ u. bytes_eq u.full_name c.args.user.now && bytes_eq u.key c.args.key.now) _ _ c.find.result c.find.ensures.ran (YieldsList-from_slice c.args.self.now (cc)) (λ x b q k. search (rules, tests)))
