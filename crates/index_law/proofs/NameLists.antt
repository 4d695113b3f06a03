-- Finite maps by name as lists.
use Rattle.std.proofs.Common.{◌≡◌, ℕ, zero, suc, Bool, true, false, cond, List, [], ◌∷◌, take, Option, Some, None, refl, sym, subst, ap, ◌∙◌}
use Rattle.std.specs.declared.cmp.Ordering.TheVariants.{Less, Equal, Greater}
use Rattle.std.specs.Ordering.{is_eq}
use Rattle.std.specs.List.{AllByRecursion}
use Rattle.std.specs.FinMap.Entries.{by_order, find, put, where_key, find-where_key}
use Rattle.object_words.specs.Names.{name_cmp, Named, at, with_name, where_name, entries}
use Rattle.object_words.proofs.KeyLemmas.{same_text}

module _ {X : Type 0} where
  all_put : (P : List ℕ × X → Type 0) (name : List ℕ) (x : X) (es : List (List ℕ × X)) → P (name, x) → AllByRecursion P es → AllByRecursion P (put name_cmp name x es)
  all_put P name x [] here all = (here, tt)
  all_put P name x (e ∷ es) here all =
      elim (name_cmp name e.0) as (λ o. name_cmp name e.0 ≡ o → AllByRecursion P (by_order o ((name, x) ∷ e ∷ es) ((e.0, x) ∷ es) (e ∷ put name_cmp name x es))) [
        | Less ↦ λ is. (here, all)
        | Equal ↦ λ is. (subst (λ n. P (n, x)) (same_text name e.0 (ap is_eq is)) here, all.1)
        | Greater ↦ λ is. (all.0, all_put P name x es here all.1)
      ] refl

  -- what holds of each pair, and of the new one
  pub all_with_name : (P : List ℕ × X → Type 0) (m : Named X) (name : List ℕ) (x : X) → P (name, x) → AllByRecursion P (entries m) → AllByRecursion P (entries (with_name m name x))
  unfolding entries with_name
  all_with_name P m name x here all = all_put P name x m.list here all

  all_found : (P : List ℕ × X → Type 0) (name : List ℕ) (x : X) (es : List (List ℕ × X)) → AllByRecursion P es → find name_cmp name es ≡ Some x → P (name, x)
  all_found P name x [] all is = cc
  all_found P name x (e ∷ es) all is =
      elim (is_eq (name_cmp name e.0)) as (λ b. is_eq (name_cmp name e.0) ≡ b → cond b (Some e.1) (find name_cmp name es) ≡ Some x → P (name, x)) [
        | true ↦ λ same here. let value : e.1 ≡ x = cc in subst (λ n. P (n, x)) (sym (same_text name e.0 same)) (subst (λ y. P (e.0, y)) value all.0)
        | false ↦ λ other here. all_found P name x es all.1 here
      ] refl is

  -- what is under a name is one of the pairs
  pub all_at : (P : List ℕ × X → Type 0) (m : Named X) (name : List ℕ) (x : X) → AllByRecursion P (entries m) → at m name ≡ Some x → P (name, x)
  unfolding entries at
  all_at P m name x all is = all_found P name x m.list all is

  find_first : (name : List ℕ) (k : ℕ) (x : X) (es : List (List ℕ × X)) → find name_cmp name (take k es) ≡ Some x → find name_cmp name es ≡ Some x
  find_first name zero x es is = cc
  find_first name (suc k) x [] is = is
  find_first name (suc k) x (e ∷ es) is =
      elim (is_eq (name_cmp name e.0)) as (λ b. cond b (Some e.1) (find name_cmp name (take k es)) ≡ Some x → cond b (Some e.1) (find name_cmp name es) ≡ Some x) [
        | true ↦ λ here. here
        | false ↦ λ there. find_first name k x es there
      ] is

  where_found : (test : Bool) (found : Option X) (x : X) → cond test found None ≡ Some x → found ≡ Some x
  where_found true found x is = is
  where_found false found x is = cc

  -- what a page shows of a name is there
  pub page_shows : (test : List ℕ → Bool) (m : Named X) (name : List ℕ) (k : ℕ) (x : X) → find name_cmp name (take k (entries (where_name test m))) ≡ Some x → at m name ≡ Some x
  unfolding entries at where_name
  page_shows test m name k x is =
      let kept = find-where_key name_cmp test name (λ n alike. ap test (sym (same_text name n (ap is_eq alike)))) m.list in
      where_found (test name) (find name_cmp name m.list) x (sym kept ∙ find_first name k x (where_key name_cmp test m.list) is)
