-- The actors of a script by name, where one of them is taken out or put in.
use Rattle.std.proofs.Common.{◌≡◌, ℕ, true, false, Bool, cond, List, Option, None, Some, refl, sym, ap, ◌∙◌, IfSome, IfNone}
use Rattle.std.specs.Prelude.{if◌then◌else◌}
use Rattle.std.specs.Cmp.Lexicographic.{slice_cmp}
use Rattle.std.specs.Ordering.{is_eq, nat_cmp}
use Rattle.std.specs.Str.{bytes_eq}
use Rattle.std.proofs.lemmas.Map.Text.{is_eq-slice_cmp}
use Rattle.std.proofs.lemmas.Slice.Eq.{bytes_eq-Decides}
use Rattle.rgw_script.specs.Casts.{Table}
use Rattle.rgw_script.specs.declared.active.Active.{Active}

-- the table has this at the name now, as the map's order tells names apart
abbrev pub Sets : List ℕ → Table → Table → Option Active → Type 0
Sets name old new part = (q : List ℕ) → new q ≡ cond (is_eq (slice_cmp nat_cmp name q)) (Some part) (old q)

-- and as their bytes do
pub sets_at : (name : List ℕ) (old new : Table) (part : Option Active) → Sets name old new part → (q : List ℕ) → new q ≡ (if bytes_eq name q then Some part else old q)
sets_at name old new part by q = by q ∙ ap (λ b. cond b (Some part) (old q)) (is_eq-slice_cmp name q)

-- whoever was taken out
pub gone_everywhere : (r : Option Active) (name : List ℕ) (old new : Table) (left : Option Active) → left ≡ None → Sets name old new left
    → IfSome r (λ x. (q : List ℕ) → new q ≡ (if bytes_eq name q then Some None else old q))
gone_everywhere None name old new left none by = tt
gone_everywhere (Some x) name old new left none by = λ q. sets_at name old new left by q ∙ ap (λ (l : Option Active). if bytes_eq name q then Some l else old q) none

same_there : (name q : List ℕ) (old : Table) (b : Bool) → bytes_eq name q ≡ b → old name ≡ Some None → cond b (Some None) (old q) ≡ old q
same_there name q old true is had = sym had ∙ ap old ((bytes_eq-Decides name q).0 is)
same_there name q old false is had = refl

-- nobody was taken out
pub kept_everywhere : (r : Option Active) (name : List ℕ) (old new : Table) (left : Option Active) → left ≡ None → Sets name old new left
    → old name ≡ Some r → IfNone r ((q : List ℕ) → new q ≡ old q)
kept_everywhere None name old new left none by had = λ q.
    sets_at name old new left by q ∙ ap (λ (l : Option Active). if bytes_eq name q then Some l else old q) none ∙ same_there name q old (bytes_eq name q) refl had
kept_everywhere (Some x) name old new left none by had = tt
