use Rattle.std.proofs.Common.{◌≡◌, ◌≤◌, ◌∙◌, length, Some, None, ap, sym, arith, rules}
use Rattle.swift_words.specs.Targets.{account_of, is_auth}
use Rattle.swift_words.proofs.PathLemmas.{named_auth, named_unknown, named_account, named_container, named_thing, account_words}
use Rattle.swift_words.proofs.path.named_by.Goals as goal
use Rattle.swift_words.proofs.path.named_by.Goals.{then-is_auth, else-is_auth}

pub returns-in_default : goal.returns-in_default
returns-in_default c =
    let words = c.args.words.items in
    let none : account_of words ≡ None = search rules in
    let tested = c.is_auth.ensures ∙ ap is_auth c.deref-in_default.ensures.value in
    elim c.if-is_auth.branch [
      | then-is_auth w ↦ w.result-is ∙ sym (named_auth words none (sym tested ∙ w.if-is_auth.true))
      | else-is_auth w ↦ w.result-is ∙ sym (named_unknown words none (sym tested ∙ w.if-is_auth.false))
    ]

pub returns-in-3 : goal.returns-in-3
returns-in-3 c =
    let is : account_of c.args.words.items ≡ Some c.in_ok-account.account = search rules in
    sym (named_account c.args.words.items c.in_ok-account.account is (omega (arith, c.args.words.ok.0, c.len.ensures, c.in-3.is)))

pub returns-in-4 : goal.returns-in-4
returns-in-4 c =
    let is : account_of c.args.words.items ≡ Some c.in_ok-account.account = search rules in
    sym (named_container c.args.words.items c.in_ok-account.account c.remove.result is (omega (arith, c.args.words.ok.0, c.len.ensures, c.in-4.is)) c.remove.ensures.value)

pub returns : goal.returns
returns c =
    let is : account_of c.args.words.items ≡ Some c.in_ok-account.account = search rules in
    let some = account_words c.args.words.items c.in_ok-account.account is in
    let five : 5 ≤ length c.args.words.items = omega (arith, c.args.words.ok.0, c.len.ensures) in
    sym (named_thing c.args.words.items c.in_ok-account.account c.remove-in_default-len.result c.remove-object.result is five
    (rw c.remove-object.ensures.items at c.remove-in_default-len.ensures.value) c.remove-object.ensures.value)
