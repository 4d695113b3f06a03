-- The keys of names.
use Rattle.std.proofs.Common.{◌≡◌, ◌≢◌, ℕ, ◌+◌, ◌-◌, ◌<◌, ◌≤◌, ◌==◌, ◌&&◌, ◌||◌, not, Bool, true, false, cond, List, [], ◌∷◌, ◌++◌, take, drop, length, Option, Some, None, option_map, unwrap_or, suc, zero, refl, sym, ◌∙◌, ap, subst, arith}
use Rattle.std.proofs.lemmas.Bool.{cases_Bool, and_parts, and_from, both_ways, not-true, and_left, and_right, or_parts, or_from, false_from_ne_true}
use Rattle.std.proofs.lemmas.Bool.Decides.{nat_tests}
use Rattle.std.proofs.lemmas.List.{append_assoc, drop_at, take_at}
use Rattle.std.specs.Str.Pattern.{LacksTextAt}
use Rattle.list_words.specs.declared.command.ListCommand.{ListCommand}
use Rattle.list_words.specs.Listings.{is_before, begins_with, up_to, subdir_of, key_of, is_before_end, in_scope, is_past}
use Rattle.list_words.proofs.Texts.{before_itself, before_trans, upto_before, before_upto, upto_upto, not_after, begins_append, begins_itself, rest_behind, begins_by, begun_upto, begins_between, begins_short}

-- ---- up to the first delimiter

pub up_to_itself : (delimiter rest : List ℕ) → 0 < length delimiter → up_to delimiter (delimiter ++ rest) ≡ Some delimiter
up_to_itself [] rest some = absurd (omega arith)
up_to_itself (d ∷ delimiter) rest some =
    ap (λ b. cond b (Some (d ∷ delimiter)) (option_map (λ front. d ∷ front) (up_to (d ∷ delimiter) (delimiter ++ rest)))) (begins_append (d ∷ delimiter) rest)

-- what is found is a front of the text, and has the delimiter in it
pub record IsFound (delimiter text found : List ℕ) : Type 0 where
  pub is_front : begins_with text found ≡ true
  pub long : length delimiter ≤ length found
  pub elsewhere : (rest : List ℕ) → up_to delimiter (found ++ rest) ≡ Some found

pub found : (delimiter text front : List ℕ) → 0 < length delimiter → up_to delimiter text ≡ Some front → IsFound delimiter text front
found delimiter [] front some is = cc
found delimiter (x ∷ text) front some is =
    elim (begins_with (x ∷ text) delimiter) as (λ b. begins_with (x ∷ text) delimiter ≡ b → cond b (Some delimiter) (option_map (λ rest. x ∷ rest) (up_to delimiter text)) ≡ Some front → IsFound delimiter (x ∷ text) front) [
      | true ↦ λ begins at. let same : delimiter ≡ front = cc at in
          subst (IsFound delimiter (x ∷ text)) same (record { is_front = begins; long = omega arith; elsewhere = λ rest. up_to_itself delimiter rest some })
      | false ↦ λ begins at.
          elim (up_to delimiter text) as (λ o. up_to delimiter text ≡ o → option_map (λ rest. x ∷ rest) o ≡ Some front → IsFound delimiter (x ∷ text) front) [
            | None ↦ λ none no. cc
            | Some later ↦ λ there so.
                let same : x ∷ later ≡ front = cc so in
                subst (IsFound delimiter (x ∷ text)) same (one_more x text later begins (found delimiter text later some there))
          ] refl at
    ] refl is
  where
    one_more : (x : ℕ) (text later : List ℕ) → begins_with (x ∷ text) delimiter ≡ false → IsFound delimiter text later → IsFound delimiter (x ∷ text) (x ∷ later)
    one_more x text later begins f =
        let rest = drop (length later) text in
        let whole : x ∷ text ≡ (x ∷ later) ++ rest = ap (λ t. x ∷ t) (rest_behind text later f.is_front) in
        let longer : length delimiter ≤ length {A = ℕ} (x ∷ later) = (let enough = f.long in omega (arith, enough)) in
        record {
          is_front = begins_by (x ∷ text) (x ∷ later) rest whole;
          long = longer;
          elsewhere = λ other.
              let none : begins_with ((x ∷ later) ++ other) delimiter ≡ false = begins_short (x ∷ later) other rest delimiter longer ∙ sym (ap (λ t. begins_with t delimiter) whole) ∙ begins in
              ap (λ b. cond b (Some delimiter) (option_map (λ front. x ∷ front) (up_to delimiter (later ++ other)))) none ∙ ap (option_map (λ front. x ∷ front)) (f.elsewhere other);
        }

-- a text in which the delimiter does not stand
pub up_to_none : (delimiter text : List ℕ) → ((i : ℕ) → i ≤ length text → LacksTextAt delimiter text i) → up_to delimiter text ≡ None
up_to_none delimiter [] lacks = refl
up_to_none delimiter (x ∷ text) lacks =
    let none : begins_with (x ∷ text) delimiter ≡ false = false_from_ne_true _ (λ begins. lacks 0 (omega arith) _ (rest_behind (x ∷ text) delimiter begins)) in
    ap (λ b. cond b (Some delimiter) (option_map (λ front. x ∷ front) (up_to delimiter text))) none
    ∙ ap (option_map (λ front. x ∷ front)) (up_to_none delimiter text (λ i within. lacks (suc i) (omega arith)))

-- a text in which it first stands behind so many bytes
pub up_to_some : (delimiter text rest : List ℕ) (i : ℕ) → 0 < length delimiter → ((k : ℕ) → k < i → LacksTextAt delimiter text k) → drop i text ≡ delimiter ++ rest → up_to delimiter text ≡ Some (take i text ++ delimiter)
up_to_some [] text rest i some lacks at = absurd (omega arith)
up_to_some (d ∷ delimiter) [] rest zero some lacks at = cc
up_to_some (d ∷ delimiter) [] rest (suc i) some lacks at = cc
up_to_some (d ∷ delimiter) (x ∷ text) rest zero some lacks at =
    ap (λ b. cond b (Some (d ∷ delimiter)) (option_map (λ front. x ∷ front) (up_to (d ∷ delimiter) text))) (begins_by (x ∷ text) (d ∷ delimiter) rest at)
up_to_some (d ∷ delimiter) (x ∷ text) rest (suc i) some lacks at =
    let none : begins_with (x ∷ text) (d ∷ delimiter) ≡ false = false_from_ne_true _ (λ begins. lacks 0 (omega arith) _ (rest_behind (x ∷ text) (d ∷ delimiter) begins)) in
    ap (λ b. cond b (Some (d ∷ delimiter)) (option_map (λ front. x ∷ front) (up_to (d ∷ delimiter) text))) none
    ∙ ap (option_map (λ front. x ∷ front)) (up_to_some (d ∷ delimiter) text rest i some (λ k below. lacks (suc k) (omega arith)) at)

-- ---- subdirs

-- a name's subdir is a front of it, and the subdir of each name that begins with it
pub record IsSubdir (c : ListCommand) (name subdir : List ℕ) : Type 0 where
  pub is_front : begins_with name subdir ≡ true
  pub others : (other : List ℕ) → begins_with other subdir ≡ true → subdir_of c other ≡ Some subdir
  pub below_prefix : begins_with subdir c.prefix ≡ true

pub is_subdir : (c : ListCommand) (name subdir : List ℕ) → begins_with name c.prefix ≡ true → subdir_of c name ≡ Some subdir → IsSubdir c name subdir
is_subdir c name subdir begins is =
    elim (length c.delimiter == 0) as (λ b. (length c.delimiter == 0) ≡ b → cond b None (option_map (λ front. c.prefix ++ front) (up_to c.delimiter (drop (length c.prefix) name))) ≡ Some subdir → IsSubdir c name subdir) [
      | true ↦ λ empty no. cc
      | false ↦ λ full so.
          elim (up_to c.delimiter (drop (length c.prefix) name)) as (λ o. up_to c.delimiter (drop (length c.prefix) name) ≡ o → option_map (λ front. c.prefix ++ front) o ≡ Some subdir → IsSubdir c name subdir) [
            | None ↦ λ none no. cc
            | Some front ↦ λ there at.
                let same : c.prefix ++ front ≡ subdir = cc at in
                let some : 0 < length c.delimiter = grind (arith, nat_tests, full) in
                subst (IsSubdir c name) same (folded front full some there)
          ] refl so
    ] refl is
  where
    folded : (front : List ℕ) → (length c.delimiter == 0) ≡ false → 0 < length c.delimiter → up_to c.delimiter (drop (length c.prefix) name) ≡ Some front → IsSubdir c name (c.prefix ++ front)
    folded front full some there =
        let f = found c.delimiter (drop (length c.prefix) name) front some there in
        let rest = drop (length front) (drop (length c.prefix) name) in
        record {
          is_front = begins_by name (c.prefix ++ front) rest (rest_behind name c.prefix begins ∙ ap (λ t. c.prefix ++ t) (rest_behind _ front f.is_front) ∙ sym (append_assoc c.prefix front rest));
          others = λ other other_begins.
              let more = drop (length (c.prefix ++ front)) other in
              let whole : other ≡ c.prefix ++ (front ++ more) = rest_behind other (c.prefix ++ front) other_begins ∙ append_assoc c.prefix front more in
              let behind : drop (length c.prefix) other ≡ front ++ more = ap (drop (length c.prefix)) whole ∙ drop_at c.prefix (front ++ more) (length c.prefix) refl in
              ap (λ b. cond b None (option_map (λ t. c.prefix ++ t) (up_to c.delimiter (drop (length c.prefix) other)))) full
              ∙ ap (λ t. option_map (λ u. c.prefix ++ u) (up_to c.delimiter t)) behind
              ∙ ap (option_map (λ t. c.prefix ++ t)) (f.elsewhere more);
          below_prefix = begins_append c.prefix front;
        }

-- ---- keys

-- a key is not above its name
pub key_upto : (c : ListCommand) (name : List ℕ) → begins_with name c.prefix ≡ true → is_before name (key_of c name) ≡ false
key_upto c name begins =
    elim (subdir_of c name) as (λ o. subdir_of c name ≡ o → is_before name (unwrap_or o name) ≡ false) [
      | None ↦ λ is. before_itself name
      | Some subdir ↦ λ is. begun_upto name subdir (is_subdir c name subdir begins is).is_front
    ] refl

key_is : (c : ListCommand) (name subdir : List ℕ) → subdir_of c name ≡ Some subdir → key_of c name ≡ subdir
key_is c name subdir is = ap (λ o. unwrap_or o name) is

pub keys_rise : (c : ListCommand) (m n : List ℕ) → begins_with m c.prefix ≡ true → begins_with n c.prefix ≡ true → is_before n m ≡ false → is_before (key_of c n) (key_of c m) ≡ false
keys_rise c m n begins_m begins_n upto =
    false_from_ne_true _ (λ falls.
    let to_m : is_before (key_of c n) m ≡ true = before_upto (key_of c n) (key_of c m) m falls (key_upto c m begins_m) in
    elim (subdir_of c n) as (λ o. subdir_of c n ≡ o → is_before (unwrap_or o n) m ≡ true → is_before (unwrap_or o n) (key_of c m) ≡ true → ⊥) [
      | None ↦ λ is below same. both_ways _ upto below
      | Some subdir ↦ λ is below same.
          let s = is_subdir c n subdir begins_n is in
          let begins = begins_between subdir n m s.is_front (not_after subdir m below) upto in
          let key : key_of c m ≡ subdir = key_is c m subdir (s.others m begins) in
          both_ways _ (before_itself subdir) (subst (λ k. is_before subdir k ≡ true) key same)
    ] refl to_m falls)

-- the names of a subdir follow one another
pub together : (c : ListCommand) (m p n subdir : List ℕ) → begins_with m c.prefix ≡ true → begins_with n c.prefix ≡ true → subdir_of c m ≡ Some subdir → subdir_of c n ≡ Some subdir → is_before p m ≡ false → is_before n p ≡ false → subdir_of c p ≡ Some subdir
together c m p n subdir begins_m begins_n is_m is_n low high =
    let of_m = is_subdir c m subdir begins_m is_m in
    let of_n = is_subdir c n subdir begins_n is_n in
    of_m.others p (begins_between subdir n p of_n.is_front (upto_upto subdir m p (begun_upto m subdir of_m.is_front) low) high)

-- no name is listed as itself that is a subdir of others
pub apart : (c : ListCommand) (m n subdir : List ℕ) → begins_with m c.prefix ≡ true → subdir_of c m ≡ Some subdir → subdir_of c n ≡ None → subdir ≢ n
apart c m n subdir begins is none same =
    let s = is_subdir c m subdir begins is in
    let there = s.others n (subst (λ t. begins_with t subdir ≡ true) same (begins_itself subdir)) in cc

-- ---- the scope

-- what being in scope says
pub record IsInScope (c : ListCommand) (name : List ℕ) : Type 0 where
  pub begins : begins_with name c.prefix ≡ true
  pub above : is_before c.marker (key_of c name) ≡ true
  pub below : is_before_end c (key_of c name) ≡ true

pub scope_parts : (c : ListCommand) (name : List ℕ) → in_scope c name ≡ true → IsInScope c name
scope_parts c name is =
    let one = and_parts (begins_with name c.prefix) (is_before c.marker (key_of c name) && is_before_end c (key_of c name)) is in
    let two = and_parts (is_before c.marker (key_of c name)) (is_before_end c (key_of c name)) one.1 in
    record { begins = one.0; above = two.0; below = two.1 }

pub scope_from : (c : ListCommand) (name : List ℕ) → IsInScope c name → in_scope c name ≡ true
scope_from c name s = and_from _ _ s.begins (and_from _ _ s.above s.below)

-- a name in scope is above the marker
pub above_marker : (c : ListCommand) (name : List ℕ) → in_scope c name ≡ true → is_before c.marker name ≡ true
above_marker c name is = let s = scope_parts c name is in before_upto c.marker (key_of c name) name s.above (key_upto c name s.begins)

-- and above each text below the prefix
pub above_low : (c : ListCommand) (low name : List ℕ) → is_before low c.prefix ≡ true → in_scope c name ≡ true → is_before low name ≡ true
above_low c low name below is = let s = scope_parts c name is in before_upto low c.prefix name below (begun_upto name c.prefix s.begins)

ends : (c : ListCommand) (one other : List ℕ) → is_before_end c one ≡ false → is_before other one ≡ false → is_before_end c other ≡ false
ends c one other ended upto =
    let parts = or_parts (length c.end_marker == 0) (is_before one c.end_marker) ended in
    or_from _ _ parts.0 (false_from_ne_true _ (λ before. both_ways _ parts.1 (upto_before one other c.end_marker upto before)))

-- nothing is in scope above a name past the scope
pub past : (c : ListCommand) (m n : List ℕ) → is_past c m ≡ true → is_before n m ≡ false → in_scope c n ≡ false
past c m n is upto =
    false_from_ne_true _ (λ within.
    let s = scope_parts c n within in
    elim (begins_with m c.prefix) as (λ b. begins_with m c.prefix ≡ b → cond b (not (is_before_end c (key_of c m))) (is_before c.prefix m) ≡ true → ⊥) [
      | true ↦ λ begins ended.
          both_ways _ (ends c (key_of c m) (key_of c n) (not-true _ ended) (keys_rise c m n begins s.begins upto)) s.below
      | false ↦ λ other above.
          both_ways _ other (begins_between c.prefix n m s.begins (not_after c.prefix m above) upto)
    ] refl is)
