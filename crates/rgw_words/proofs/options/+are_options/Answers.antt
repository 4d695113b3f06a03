use Rattle.std.proofs.Common.{true, false, sym, ◌∙◌, map, string_bytes}
use Rattle.rgw_words.specs.Options.{Said}
use Rattle.rgw_words.proofs.Turns.{are_said}
use Rattle.rgw_words.proofs.options.+are_options.Goals as goal

pub returns-then-begins_option : goal.returns-then-begins_option
returns-then-begins_option t c =
    let said : Said = record { name = c.in-Some.said.name.now; value = c.in-Some.said.value.now; rest = map string_bytes c.in-Some.said.rest.now } in
    c.are_options.ensures
    ∙ are_said c.args.serving (map string_bytes c.args.words.now) said true c.in-Some.ensures.first (sym c.begins_option.ensures ∙ c.if-begins_option.true)

pub returns-else-begins_option : goal.returns-else-begins_option
returns-else-begins_option t c =
    let said : Said = record { name = c.in-Some.said.name.now; value = c.in-Some.said.value.now; rest = map string_bytes c.in-Some.said.rest.now } in
    are_said c.args.serving (map string_bytes c.args.words.now) said false c.in-Some.ensures.first (sym c.begins_option.ensures ∙ c.if-begins_option.false)
