-- The tokens of a listing.
use Rattle.std.proofs.Common.{◌≡◌, List, [], ◌∷◌, ◌++◌, map, flat_map, Result, OnOk, refl, ap, ◌∙◌, append_assoc}
use Rattle.std.proofs.lemmas.Result.{on_ok_weaker}
use Rattle.json.specs.Token as json
use Rattle.json.specs.Token.{Token}
use Rattle.json.specs.Print.{print}
use Rattle.json.specs.Tree.{json_tokens, items_tokens}
use Rattle.serde_json.specs.Data.{Data, array}
use Rattle.serde_json.specs.View.{items_of}
use Rattle.serde_json.specs.Written.{compact_text, outline, items_outline}
use Rattle.serde_json.proofs.Texts.{print-outline}

-- the tokens of the values of these rows, one row after the other
abbrev pub tokens_of : {A : Type 0} → (A → Data) → List A → List Token
tokens_of value rows = flat_map (λ row. json_tokens (outline (value row))) rows

items_are : {A : Type 0} (value : A → Data) (rows : List A)
    → tokens_of value rows ++ json.end_array ∷ [] ≡ items_tokens (items_outline (items_of (map value rows)))
items_are value [] = refl
items_are value (row ∷ rows) =
    let first = json_tokens (outline (value row)) in
    append_assoc first (tokens_of value rows) (json.end_array ∷ []) ∙ ap (λ ts. first ++ ts) (items_are value rows)

-- between brackets they print as the array of the values
pub rows_print : {A : Type 0} (value : A → Data) (rows : List A)
    → print ((json.begin_array ∷ tokens_of value rows) ++ json.end_array ∷ []) ≡ compact_text (array (items_of (map value rows)))
rows_print value rows =
    ap (λ ts. print (json.begin_array ∷ ts)) (items_are value rows) ∙ print-outline (array (items_of (map value rows)))

-- an object of five members, each of which adds its tokens, three of them by another name
five : (t0 t1 t2 t3 t4 t5 t6 t7 : List Token) (b k1 v1 k2 v2 k3 v3 k4 v4 k5 v5 e w2 w3 w4 : Token)
    → t1 ≡ t0 ++ b ∷ [] → t2 ≡ t1 ++ k1 ∷ v1 ∷ [] → t3 ≡ t2 ++ k2 ∷ v2 ∷ [] → t4 ≡ t3 ++ k3 ∷ v3 ∷ [] → t5 ≡ t4 ++ k4 ∷ v4 ∷ [] → t6 ≡ t5 ++ k5 ∷ v5 ∷ [] → t7 ≡ t6 ++ e ∷ []
    → v2 ≡ w2 → v3 ≡ w3 → v4 ≡ w4
    → t7 ≡ t0 ++ b ∷ k1 ∷ v1 ∷ k2 ∷ w2 ∷ k3 ∷ w3 ∷ k4 ∷ w4 ∷ k5 ∷ v5 ∷ e ∷ []
five t0 t1 t2 t3 t4 t5 t6 t7 b k1 v1 k2 v2 k3 v3 k4 v4 k5 v5 e w2 w3 w4 e1 e2 e3 e4 e5 e6 e7 same2 same3 same4 =
    rw (e7, e6, e5, e4, e3, e2, e1, same2, same3, same4) (simp append_assoc)

-- the same, where the last step's answer is handed on
pub five_ok : {T E : Type 0} (r : Result T E) (t0 t1 t2 t3 t4 t5 t6 t7 : List Token) (b k1 v1 k2 v2 k3 v3 k4 v4 k5 v5 e w2 w3 w4 : Token)
    → t1 ≡ t0 ++ b ∷ [] → t2 ≡ t1 ++ k1 ∷ v1 ∷ [] → t3 ≡ t2 ++ k2 ∷ v2 ∷ [] → t4 ≡ t3 ++ k3 ∷ v3 ∷ [] → t5 ≡ t4 ++ k4 ∷ v4 ∷ [] → t6 ≡ t5 ++ k5 ∷ v5 ∷ [] → OnOk r (t7 ≡ t6 ++ e ∷ [])
    → v2 ≡ w2 → v3 ≡ w3 → v4 ≡ w4
    → OnOk r (t7 ≡ t0 ++ b ∷ k1 ∷ v1 ∷ k2 ∷ w2 ∷ k3 ∷ w3 ∷ k4 ∷ w4 ∷ k5 ∷ v5 ∷ e ∷ [])
five_ok r t0 t1 t2 t3 t4 t5 t6 t7 b k1 v1 k2 v2 k3 v3 k4 v4 k5 v5 e w2 w3 w4 e1 e2 e3 e4 e5 e6 last same2 same3 same4 =
    on_ok_weaker r (λ e7. five t0 t1 t2 t3 t4 t5 t6 t7 b k1 v1 k2 v2 k3 v3 k4 v4 k5 v5 e w2 w3 w4 e1 e2 e3 e4 e5 e6 e7 same2 same3 same4) last

-- an object of three members
three : (t0 t1 t2 t3 t4 t5 : List Token) (b k1 v1 k2 v2 k3 v3 e : Token)
    → t1 ≡ t0 ++ b ∷ [] → t2 ≡ t1 ++ k1 ∷ v1 ∷ [] → t3 ≡ t2 ++ k2 ∷ v2 ∷ [] → t4 ≡ t3 ++ k3 ∷ v3 ∷ [] → t5 ≡ t4 ++ e ∷ []
    → t5 ≡ t0 ++ b ∷ k1 ∷ v1 ∷ k2 ∷ v2 ∷ k3 ∷ v3 ∷ e ∷ []
three t0 t1 t2 t3 t4 t5 b k1 v1 k2 v2 k3 v3 e e1 e2 e3 e4 e5 = rw (e5, e4, e3, e2, e1) (simp append_assoc)

pub three_ok : {T E : Type 0} (r : Result T E) (t0 t1 t2 t3 t4 t5 : List Token) (b k1 v1 k2 v2 k3 v3 e : Token)
    → t1 ≡ t0 ++ b ∷ [] → t2 ≡ t1 ++ k1 ∷ v1 ∷ [] → t3 ≡ t2 ++ k2 ∷ v2 ∷ [] → t4 ≡ t3 ++ k3 ∷ v3 ∷ [] → OnOk r (t5 ≡ t4 ++ e ∷ [])
    → OnOk r (t5 ≡ t0 ++ b ∷ k1 ∷ v1 ∷ k2 ∷ v2 ∷ k3 ∷ v3 ∷ e ∷ [])
three_ok r t0 t1 t2 t3 t4 t5 b k1 v1 k2 v2 k3 v3 e e1 e2 e3 e4 last =
    on_ok_weaker r (λ e5. three t0 t1 t2 t3 t4 t5 b k1 v1 k2 v2 k3 v3 e e1 e2 e3 e4 e5) last
