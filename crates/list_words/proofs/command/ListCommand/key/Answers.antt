use Rattle.std.proofs.Common.{◌≡◌, ℕ, List, true, false, Option, Some, None, IfNone, sym, ◌∙◌, ap, subst}
use Rattle.std.specs.Str.Pattern.{FindsTextPrefix, LacksTextAt, StripsPrefix}
use Rattle.list_words.specs.declared.command.ListCommand.{ListCommand}
use Rattle.list_words.specs.Listings.{in_scope, subdir_of, IsKey, is_before, is_before_end}
use Rattle.list_words.proofs.Commands.{stripped, not_begun, out_of_scope, keyed, is_in_scope}
use Rattle.list_words.proofs.command.ListCommand.key.Goals as goal

pub returns-in_err-rest-clause-none : goal.returns-in_err-rest-clause-none
returns-in_err-rest-clause-none c =
    let k = c.args.self.now in
    let name = c.as_str-name.ensures ∙ c.as_text.ensures.text in
    let lacks = subst (λ p. LacksTextAt p c.as_str-name.result.now 0) c.as_str.ensures c.in_err-rest.ensures.cases in
    let out = subst (λ n. in_scope k n ≡ false) name (out_of_scope k c.as_str-name.result.now (not_begun k.prefix c.as_str-name.result.now lacks)) in
    rw c.from_residual.ensures out

pub returns-then-is_before_end-clause-some : goal.returns-then-is_before_end-clause-some
returns-then-is_before_end-clause-some c =
    let k = c.args.self.now in
    let n = c.as_str-name.result.now in
    let name = c.as_str-name.ensures ∙ c.as_text.ensures.text in
    let strips = subst (λ p. StripsPrefix (FindsTextPrefix p) n c.in_ok-rest.rest.now) c.as_str.ensures c.in_ok-rest.ensures.cases in
    let split = stripped k.prefix n c.in_ok-rest.rest.now strips in
    let text = c.text-text.ensures ∙ keyed k n c.folded-key.result c.folded-key.ensures in
    let above = ap (λ m. is_before m c.text-text.result.now) (sym c.as_str-2.ensures) ∙ (sym c.is_before.ensures ∙ c.if-is_before.true) in
    let scope = is_in_scope k n c.in_ok-rest.rest.now c.text-text.result.now split text above (sym c.is_before_end.ensures ∙ c.if-is_before_end.true) in
    subst (λ m. (in_scope k m ≡ true) × IsKey (subdir_of k m) c.folded-key.result) name (scope, c.folded-key.ensures)
