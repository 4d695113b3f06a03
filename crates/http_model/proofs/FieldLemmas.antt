-- What one more field adds to the values of a name.
use Rattle.std.proofs.Common.{◌≡◌, ℕ, ◌+◌, ◌<◌, true, false, cond, List, [], ◌∷◌, ◌++◌, map, length, take, get_or, Some, refl, ap, ◌∙◌}
use Rattle.std.specs.List.{flat_map}
use Rattle.std.proofs.lemmas.List.{append-nil, map_more}
use Rattle.std.proofs.lemmas.List.Concat.{flat_map-append}
use Rattle.http1.specs.Text.{eq_ignore_case}
use Rattle.http_model.specs.declared.field.Field.{Field}
use Rattle.http_model.specs.Framings.{pair_of, values_of, last_of, value_of}

-- what the field adds
abbrev pub added : List ℕ → Field → List (List ℕ)
added name field = cond (eq_ignore_case field.name name) (field.value ∷ []) []

pub values_more : (name : List ℕ) (fields : List Field) (i : ℕ) (d : Field) → i < length fields
    → values_of name (take (i + 1) fields) ≡ values_of name (take i fields) ++ added name (get_or fields i d)
values_more name fields i d h =
    let step : List ℕ × List ℕ → List (List ℕ) = λ p. cond (eq_ignore_case p.0 name) (p.1 ∷ []) [] in
    ap (flat_map step) (map_more pair_of fields i d h)
    ∙ flat_map-append step (map pair_of (take i fields)) (pair_of (get_or fields i d) ∷ [])
    ∙ ap (λ x. values_of name (take i fields) ++ x) (append-nil (added name (get_or fields i d)))

last_of-push : (values : List (List ℕ)) (value : List ℕ) → last_of (values ++ value ∷ []) ≡ Some value
last_of-push [] value = refl
last_of-push (v ∷ []) value = refl
last_of-push (v ∷ w ∷ values) value = last_of-push (w ∷ values) value

pub value_of-named : (name : List ℕ) (fields : List Field) (i : ℕ) (d : Field) → i < length fields
    → eq_ignore_case (get_or fields i d).name name ≡ true
    → value_of name (take (i + 1) fields) ≡ Some (get_or fields i d).value
value_of-named name fields i d h named =
    ap last_of (values_more name fields i d h ∙ ap (λ b. values_of name (take i fields) ++ cond b ((get_or fields i d).value ∷ []) []) named)
    ∙ last_of-push (values_of name (take i fields)) _

pub values_of-other : (name : List ℕ) (fields : List Field) (i : ℕ) (d : Field) → i < length fields
    → eq_ignore_case (get_or fields i d).name name ≡ false
    → values_of name (take (i + 1) fields) ≡ values_of name (take i fields)
values_of-other name fields i d h other =
    values_more name fields i d h
    ∙ ap (λ b. values_of name (take i fields) ++ cond b ((get_or fields i d).value ∷ []) []) other
    ∙ append-nil (values_of name (take i fields))

pub ruleset value_steps = (value_of-named, values_of-other)
