use Rattle.std.proofs.Common.{◌≡◌, ◌==◌, List, ℕ, false, length, ap, sym, ◌∙◌, subst, None}
use Rattle.std.specs.Str.Pattern.{FindsText, SplitsAroundMatch}
use Rattle.list_words.proofs.Commands.{folded_none, name_is, folded_some}
use Rattle.list_words.proofs.command.ListCommand.folded.Goals as goal

pub unreachable-requires : goal.unreachable-requires
unreachable-requires c =
    let k = c.args.self.now in
    let around = subst (λ d. SplitsAroundMatch (FindsText d) c.args.rest.now c.in-Some.field-0-0.now c.in-Some.behind.now) c.as_str.ensures c.in-Some.ensures.cases in
    c.in-None-strip_suffix.ensures.cases _ (name_is k c.args.name.now c.args.rest.now c.requires c.in-Some.field-0-0.now c.in-Some.behind.now (sym c.is_empty.ensures ∙ c.if-is_empty.false) around)

pub returns-in-Some-strip_suffix : goal.returns-in-Some-strip_suffix
returns-in-Some-strip_suffix c =
    let k = c.args.self.now in
    let around = subst (λ d. SplitsAroundMatch (FindsText d) c.args.rest.now c.in-Some.field-0-0.now c.in-Some.behind.now) c.as_str.ensures c.in-Some.ensures.cases in
    folded_some k c.args.name.now c.args.rest.now c.requires c.in-Some.field-0-0.now c.in-Some.behind.now (sym c.is_empty.ensures ∙ c.if-is_empty.false) around c.in-Some-strip_suffix.subdir.now c.in-Some-strip_suffix.ensures.cases

pub returns-in-None : goal.returns-in-None
returns-in-None c =
    folded_none c.args.self.now c.args.name.now c.args.rest.now c.requires (sym c.is_empty.ensures ∙ c.if-is_empty.false)
    (subst (λ d. FindsText d c.args.rest.now None) c.as_str.ensures c.in-None.ensures.cases)
