use Rattle.std.proofs.Common.{◌≡◌, ◌⊎◌, inl, inr, true, false, sym, ap, ◌∙◌, subst}
use Rattle.std.specs.declared.cmp.Ordering.{Ordering}
use Rattle.std.specs.declared.cmp.Ordering.TheVariants.{Equal, Greater}
use Rattle.std.specs.Ordering.{is_lt}
use Rattle.omap_pages.specs.Rows.{key_cmp}
use Rattle.class_words.specs.Pages.{StartsAt, top}
use Rattle.class_words.proofs.PageLemmas.{starts_above_log, starts_itself}
use Rattle.class_words.proofs.paging.later_of.Goals as goal

pub returns-in-Less : goal.returns-in-Less
returns-in-Less c =
    let after = c.args.after.now in
    let low : is_lt (key_cmp after top) ≡ true = ap (λ k. is_lt (key_cmp after k)) (sym c.requires) ∙ ap is_lt (sym c.cmp.ensures ∙ c.in-Less.is) in
    subst (StartsAt after) (sym c.requires) (starts_above_log after low)

not_below : (o : Ordering) → (o ≡ Equal) ⊎ (o ≡ Greater) → is_lt o ≡ false
not_below o is = elim is [ inl e ↦ ap is_lt e | inr e ↦ ap is_lt e ]

pub returns-in-Equal : goal.returns-in-Equal
returns-in-Equal c =
    let after = c.args.after.now in
    starts_itself after (ap (λ k. is_lt (key_cmp after k)) (sym c.requires) ∙ ap is_lt (sym c.cmp.ensures) ∙ not_below c.cmp.result c.in-Equal.is)
