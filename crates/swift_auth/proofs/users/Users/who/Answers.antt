use Rattle.std.proofs.Common.{◌≡◌, bytes_eq, sym, ◌∙◌, rules, tests}
use Rattle.std.proofs.lemmas.Iterator.{YieldsList-from_slice}
use Rattle.std.proofs.lemmas.Iterator.Search.{find_from_yields_List}
use Rattle.std.proofs.lemmas.Slice.Eq.{bytes_eq-Decides}
use Rattle.swift_auth.proofs.Finding.{the_one}
use Rattle.swift_auth.proofs.users.Users.who.Goals as goal

pub returns-clause-only : goal.returns-clause-only
returns-clause-only c =
    the_one (λ u. u.token) c.args.self.now (rw c.self.view_is at c.self.invariant).tokens_differ (λ u. bytes_eq u.token c.args.token.now) (λ u. u.token ≡ c.args.token.now)
    (λ u. bytes_eq-Decides u.token c.args.token.now) (λ u v a b. a ∙ sym b) _
    (find_from_yields_List (λ u. bytes_eq u.token c.args.token.now) _ _ c.find.result c.find.ensures.ran (YieldsList-from_slice c.args.self.now (cc)) (λ x b q k. search (rules, tests)))
