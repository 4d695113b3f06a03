-- What the tests of a field say of a whole head.
use Rattle.std.proofs.Common.{◌≡◌, ℕ, nat_eq, Bool, true, false, ◌&&◌, ◌||◌, cond, List, [], ◌∷◌, ◌++◌, map, length, take, min, refl, ap, sym, ◌∙◌, codes}
use Rattle.std.specs.Prelude.{bytes_eq}
use Rattle.std.specs.List.{list_any, starts_with}
use Rattle.std.specs.Char.{to_ascii_lowercase}
use Rattle.std.proofs.lemmas.List.{append-nil, take-map, take_min}
use Rattle.http1.specs.Text.{eq_ignore_case}
use Rattle.http1.specs.Fields.{elements, has_option, known_fields}
use Rattle.http_model.specs.declared.field.Field.{Field}
use Rattle.http_model.specs.Framings.{values_of}

-- the front of a name, in lower case
pub front_in_lower_case : (name : List ℕ)
    → eq_ignore_case (codes "x-object-meta-") (take (min 14 (length name)) name)
    ≡ starts_with nat_eq (map to_ascii_lowercase name) (codes "x-object-meta-")
unfolding eq_ignore_case
front_in_lower_case name =
    ap (λ front. bytes_eq (codes "x-object-meta-") (map to_ascii_lowercase front)) (take_min 14 name)
    ∙ ap (bytes_eq (codes "x-object-meta-")) (sym (take-map to_ascii_lowercase 14 name))

-- of one field Connection the list is that of its value
pub close_of_one : (value : List ℕ)
    → (known_fields ((codes "connection", value) ∷ [])).close ≡ has_option (codes "close") (elements value)
unfolding known_fields eq_ignore_case
close_of_one value = ap (has_option (codes "close")) (append-nil (elements value))

-- some field of the name has such a value
named_more : (named here any : Bool) (p : List ℕ → Bool) (value : List ℕ) (values : List (List ℕ)) → p value ≡ here
    → any ≡ list_any p values → ((named && here) || any) ≡ list_any p (cond named (value ∷ []) [] ++ values)
named_more true true any p value values is rest = rw is refl
named_more true false any p value values is rest = rw is rest
named_more false here any p value values is rest = rest

pub any_of_named : (name : List ℕ) (p : List ℕ → Bool) (fields : List Field)
    → list_any (λ field. eq_ignore_case field.name name && p field.value) fields ≡ list_any p (values_of name fields)
any_of_named name p [] = refl
any_of_named name p (field ∷ fields) =
    named_more (eq_ignore_case field.name name) (p field.value) (list_any (λ field. eq_ignore_case field.name name && p field.value) fields)
    p field.value (values_of name fields) refl (any_of_named name p fields)
