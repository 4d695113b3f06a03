use Rattle.std.proofs.Common.{◌≡◌, ◌↔◌, IsTrue, bytes_eq, map, ap, ◌∙◌, subst, rules}
use Rattle.std.specs.List.{IsDistinct}
use Rattle.std.proofs.lemmas.Iterator.{YieldsList-from_slice, YieldsList-from_map_by}
use Rattle.std.proofs.lemmas.Iterator.Consumers.{map_from_collect}
use Rattle.std.proofs.lemmas.Result.{IfOk-at_ok, IfOk-weaker}
use Rattle.swift_auth.proofs.Differing.{texts_at}
use Rattle.swift_auth.proofs.users.tokens_differ.Goals as goal

pub returns : goal.returns
returns c =
    let collected : texts_at c.in_ok-tokens.tokens.items ≡ map (λ u. u.token) c.args.users.now =
    IfOk-at_ok _ c.in_ok-tokens.was (map_from_collect _ c.collect.ensures.ran
    (YieldsList-from_map_by _ _ _ (YieldsList-from_slice c.args.users.now (cc)) c.map.ensures.closure (λ x r q k. search rules))) in
    let all = ap texts_at c.deref.ensures.value ∙ collected in
    IfOk-weaker c.all_differ.result _ _ (λ b h. subst (λ texts. IsTrue b ↔ IsDistinct bytes_eq texts) all h) c.all_differ.ensures
