use Rattle.std.proofs.Common.{◌≡◌, ℕ, List, true, false, not, sym, ◌∙◌, ap, subst}
use Rattle.std.specs.Str.Pattern.{FindsTextPrefix, LacksTextAt, StripsPrefix}
use Rattle.list_words.specs.Listings.{is_before, is_before_end, is_past}
use Rattle.list_words.proofs.Texts.{begins_by}
use Rattle.list_words.proofs.Commands.{stripped, not_begun, keyed, past_begun, past_other}
use Rattle.list_words.proofs.command.ListCommand.is_past.Goals as goal

pub returns-in-Some : goal.returns-in-Some
returns-in-Some c =
    let k = c.args.self.now in
    let n = c.as_str-name.result.now in
    let name = c.as_str-name.ensures ∙ c.as_text.ensures.text in
    let strips = subst (λ p. StripsPrefix (FindsTextPrefix p) n c.in-Some.rest.now) c.as_str.ensures c.in-Some.ensures.cases in
    let split = stripped k.prefix n c.in-Some.rest.now strips in
    let text = c.text.ensures ∙ keyed k n c.folded-key.result c.folded-key.ensures in
    ap not (c.is_before_end.ensures ∙ ap (is_before_end k) text) ∙ sym (past_begun k n (begins_by n k.prefix c.in-Some.rest.now split)) ∙ ap (is_past k) name

pub returns-in-None : goal.returns-in-None
returns-in-None c =
    let k = c.args.self.now in
    let n = c.as_str-name.result.now in
    let name = c.as_str-name.ensures ∙ c.as_text.ensures.text in
    let lacks = subst (λ p. LacksTextAt p n 0) c.as_str.ensures c.in-None.ensures.cases in
    c.is_before.ensures ∙ ap (λ p. is_before p n) c.as_str-in-None.ensures ∙ sym (past_other k n (not_begun k.prefix n lacks)) ∙ ap (is_past k) name
