use Rattle.std.proofs.Common.{Some, sym, ap, ◌∙◌, rules, tests, bytes_eq}
use Rattle.std.specs.List.{list_any}
use Rattle.std.proofs.lemmas.Iterator.{YieldsList-from_slice}
use Rattle.std.proofs.lemmas.Iterator.Search.{any_from_yields_List}
use Rattle.object_words.specs.Conditions.{meets}
use Rattle.object_words.specs.declared.head.EtagRule.TheVariants.{OneOf}
use Rattle.object_words.proofs.etag.meets.Goals as goal

pub returns-in-OneOf : goal.returns-in-OneOf
returns-in-OneOf c etag here =
    any_from_yields_List (bytes_eq c.args.digits.now) _ _ _ c.any.ensures.ran (YieldsList-from_slice c.as_slice.result.now c.iter.ensures.rest) (λ x b q k. search (rules, tests))
    ∙ ap (λ digits. list_any (bytes_eq digits) c.as_slice.result.now) here
    ∙ ap (λ etags. meets (OneOf etags) (Some etag)) c.as_slice.ensures ∙ ap (λ r. meets r (Some etag)) (sym c.in-OneOf.is)
