use Rattle.std.proofs.Common.{◌≡◌, List, [], ◌∷◌, ◌++◌, take, ap, ap₂, ◌∙◌, length, arith}
use Rattle.std.proofs.lemmas.List.{take_all}
use Rattle.json.specs.Token as json
use Rattle.json.specs.Token.{Token}
use Rattle.json.specs.Print.{print}
use Rattle.list_words.specs.declared.row.AccountRow.{AccountRow}
use Rattle.swift_reply.specs.Listings.{account_row_data}
use Rattle.swift_reply.proofs.Tokens.{tokens_of, rows_print}
use Rattle.swift_reply.proofs.account.json_accounts.Goals as goal

pub returns : goal.returns
returns c =
    let rows = c.args.rows.now in
    let all : take c.loop-row.row-index rows ≡ rows = take_all c.loop-row.row-index rows (omega (arith, c.loop-row-test.false, ap length c.as_slice-row-items.ensures)) in
    let ended = c.in_ok-end_array.ensures.ok ∙ ap (λ (ts : List Token). ts ++ json.end_array ∷ []) (c.loop-row.invariant.1 ∙ ap (λ (rs : List AccountRow). json.begin_array ∷ tokens_of account_row_data rs) all) in
    c.from_vec.ensures ∙ c.into_inner.ensures.items ∙ ap₂ (λ b ts. b ++ print ts) (c.in_ok-end_array.ensures.room.0 ∙ c.loop-row.invariant.0) ended ∙ rows_print account_row_data rows
