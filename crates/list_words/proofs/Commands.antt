-- What the methods of a command find.
use Rattle.std.proofs.Common.{◌≡◌, ◌≢◌, ℕ, ◌-◌, ◌<◌, ◌≤◌, ◌==◌, ◌&&◌, not, true, false, cond, List, [], ◌∷◌, ◌++◌, take, drop, length, Option, Some, None, option_map, unwrap_or, Result, Ok, Err, IfOk, MatchResult, refl, sym, ◌∙◌, ap, subst, arith}
use Rattle.std.proofs.lemmas.Bool.{both_ways, false_from_ne_true, and_left, and_right}
use Rattle.std.proofs.lemmas.Bool.Decides.{nat_tests}
use Rattle.std.proofs.lemmas.List.{append_assoc, append_cancel_right, drop_at, take-append-drop}
use Rattle.std.specs.Str.Pattern.{LacksTextAt, FindsText, FindsTextPrefix, FindsTextSuffix, SplitsAroundMatch, StripsPrefix, StripsSuffix}
use Rattle.list_words.specs.declared.command.ListCommand.{ListCommand}
use Rattle.list_words.specs.declared.key.Key.{Key}
use Rattle.list_words.specs.declared.key.Key.TheVariants.{Whole, Subdir}
use Rattle.list_words.specs.Listings.{is_before, begins_with, up_to, subdir_of, key_of, is_before_end, in_scope, is_past, IsKey, text_under}
use Rattle.list_words.proofs.Texts.{rest_behind, begins_by}
use Rattle.list_words.proofs.Keys.{up_to_none, up_to_some, scope_from, above_marker}

module _ (c : ListCommand) (name rest : List ℕ) (split : name ≡ c.prefix ++ rest) where
  subdir_by_rest : (length c.delimiter == 0) ≡ false → subdir_of c name ≡ option_map (λ front. c.prefix ++ front) (up_to c.delimiter rest)
  subdir_by_rest full =
      ap (λ b. cond b None (option_map (λ front. c.prefix ++ front) (up_to c.delimiter (drop (length c.prefix) name)))) full
      ∙ ap (λ t. option_map (λ front. c.prefix ++ front) (up_to c.delimiter t)) (ap (drop (length c.prefix)) split ∙ drop_at c.prefix rest (length c.prefix) refl)

  pub folded_none : (length c.delimiter == 0) ≡ false → FindsText c.delimiter rest None → subdir_of c name ≡ None
  folded_none full lacks = subdir_by_rest full ∙ ap (option_map (λ front. c.prefix ++ front)) (up_to_none c.delimiter rest lacks)

  module _ (front behind : List ℕ) (full : (length c.delimiter == 0) ≡ false) (around : SplitsAroundMatch (FindsText c.delimiter) rest front behind) where
    abbrev through : List ℕ
    through = take around.0 rest ++ c.delimiter

    there : drop around.0 rest ≡ c.delimiter ++ behind
    there = around.2.1.split ∙ ap (λ t. c.delimiter ++ t) (sym around.4)

    pub name_is : name ≡ (c.prefix ++ through) ++ behind
    name_is =
        split ∙ ap (λ t. c.prefix ++ t) (sym (take-append-drop around.0 rest) ∙ ap (λ t. take around.0 rest ++ t) there ∙ sym (append_assoc (take around.0 rest) c.delimiter behind))
        ∙ sym (append_assoc c.prefix through behind)

    pub folded_some : (subdir : List ℕ) → StripsSuffix (FindsTextSuffix behind) name subdir → subdir_of c name ≡ Some subdir
    folded_some subdir strips =
        let some : 0 < length c.delimiter = grind (arith, nat_tests, full) in
        let cut : name ≡ subdir ++ behind = strips.1.1 ∙ ap (λ t. t ++ behind) (sym strips.2) in
        let same : c.prefix ++ through ≡ subdir = append_cancel_right (c.prefix ++ through) subdir behind (sym name_is ∙ cut) in
        subdir_by_rest full ∙ ap (option_map (λ t. c.prefix ++ t)) (up_to_some c.delimiter rest behind around.0 some around.2.0 there) ∙ ap (λ t. Some t) same

-- a prefix that was taken off, or does not stand there
pub stripped : (prefix name rest : List ℕ) → StripsPrefix (FindsTextPrefix prefix) name rest → name ≡ prefix ++ rest
stripped prefix name rest strips = strips.1.1 ∙ ap (λ t. prefix ++ t) (sym strips.2)

pub not_begun : (prefix name : List ℕ) → LacksTextAt prefix name 0 → begins_with name prefix ≡ false
not_begun prefix name lacks = false_from_ne_true _ (λ begins. lacks _ (rest_behind name prefix begins))

-- the text of a key
pub keyed : (c : ListCommand) (name : List ℕ) (key : Key) → IsKey (subdir_of c name) key → text_under key name ≡ key_of c name
keyed c name Whole is = sym (ap (λ o. unwrap_or o name) is)
keyed c name (Subdir text) is = sym (ap (λ o. unwrap_or o name) is)

pub is_in_scope : (c : ListCommand) (name rest text : List ℕ) → name ≡ c.prefix ++ rest → text ≡ key_of c name → is_before c.marker text ≡ true → is_before_end c text ≡ true → in_scope c name ≡ true
is_in_scope c name rest text split key above below =
    scope_from c name (record { begins = begins_by name c.prefix rest split; above = subst (λ t. is_before c.marker t ≡ true) key above; below = subst (λ t. is_before_end c t ≡ true) key below })

pub out_of_scope : (c : ListCommand) (name : List ℕ) → begins_with name c.prefix ≡ false → in_scope c name ≡ false
out_of_scope c name other = and_left _ _ other

pub past_begun : (c : ListCommand) (name : List ℕ) → begins_with name c.prefix ≡ true → is_past c name ≡ not (is_before_end c (key_of c name))
past_begun c name begins = ap (λ b. cond b (not (is_before_end c (key_of c name))) (is_before c.prefix name)) begins

pub past_other : (c : ListCommand) (name : List ℕ) → begins_with name c.prefix ≡ false → is_past c name ≡ is_before c.prefix name
past_other c name other = ap (λ b. cond b (not (is_before_end c (key_of c name))) (is_before c.prefix name)) other

-- a text below each name in scope
abbrev pub IsStart : ListCommand → List ℕ → Type 0
IsStart c start = (name : List ℕ) → in_scope c name ≡ true → is_before start name ≡ true

pub marker_copy : {E : Type 0} (c : ListCommand) (copy : Result (List ℕ) E) → MatchResult copy (λ text. text ≡ c.marker) (λ e. ¬ ⊥) → IfOk copy (IsStart c)
marker_copy c (Ok text) is = λ name scope. subst (λ t. is_before t name ≡ true) (sym is) (above_marker c name scope)
marker_copy c (Err e) is = tt
