-- Lines in a row.
use Rattle.std.proofs.Common.{◌≡◌, ◌≢◌, ℕ, not, false, List, [], ◌∷◌, ◌++◌, All, refl, ap, ◌∙◌, ◌<◌, length, arith}
use Rattle.std.specs.List.{slice_split}
use Rattle.std.proofs.lemmas.List.Splits.{length-slice_split, slice_split_at, slice_split_none}
use Rattle.std.proofs.lemmas.List.Sums.{AllPass-from_list_all}
use Rattle.std.proofs.lemmas.Bool.{not-true}
use Rattle.script_lines.specs.Lines.{is_break, IsUnbroken, without_empty_last, lines_of}

none_breaks : (bytes : List ℕ) → IsUnbroken bytes → All (λ b. is_break b ≡ false) bytes
none_breaks bytes one k d below = not-true _ (AllPass-from_list_all (λ b. not (is_break b)) bytes one k d below)

behind : (part : List ℕ) (parts : List (List ℕ)) → 0 < length parts → without_empty_last (part ∷ parts) ≡ part ∷ without_empty_last parts
behind part [] some = absurd (omega (arith, some))
behind part (next ∷ parts) some = refl

some_parts : (part bytes : List ℕ) → without_empty_last (part ∷ slice_split is_break bytes) ≡ part ∷ lines_of bytes
some_parts part bytes = behind part (slice_split is_break bytes) (omega (arith, length-slice_split is_break bytes))

pub goes_first : (line rest : List ℕ) → IsUnbroken line → lines_of (line ++ 10 ∷ rest) ≡ line ∷ lines_of rest
goes_first line rest one =
    ap without_empty_last (slice_split_at is_break line 10 rest (none_breaks line one) refl) ∙ some_parts line rest

pub is_last : (line : List ℕ) → IsUnbroken line → line ≢ [] → lines_of line ≡ line ∷ []
is_last [] one some = absurd (some refl)
is_last (b ∷ line) one some = ap without_empty_last (slice_split_none is_break (b ∷ line) (none_breaks (b ∷ line) one))
