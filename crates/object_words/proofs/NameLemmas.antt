-- A finite map by name is known by its answers.
use Rattle.std.proofs.Common.{◌≡◌, ℕ, T, Bool, true, false, cond, not, List, Some, None, refl, sym, ap, ◌∙◌}
use mathlib.Core.HLevel.{Σ_prop_path}
use lib.Dec.{T_prop}
use Rattle.std.specs.Ordering.{eq_by_cmp, is_eq}
use Rattle.std.specs.Cmp.{alike_right, eq_by_cmp_equiv, tied_itself}
use Rattle.std.specs.Cmp.Lexicographic.{nat_list_cmp_total}
use Rattle.std.specs.FinMap.{from_sorted, get, get-from_sorted, nat_cmp-IsAntisymmetric, slice_cmp-IsAntisymmetric}
use Rattle.std.specs.FinMap.Entries.{find-put, find-where_key, is_sorted, same_entries}
use Rattle.object_words.specs.Names.{name_cmp, Named, none, at, with_name, without_name, entries}

-- both are one name
abbrev pub is_name_of : List ℕ → List ℕ → Bool
is_name_of q name = eq_by_cmp name_cmp q name

pub name_itself : (name : List ℕ) → is_name_of name name ≡ true
name_itself name = ap is_eq (tied_itself nat_list_cmp_total name)

opposite : {A : Type 0} (b : Bool) (x y : A) → cond (not b) x y ≡ cond b y x
opposite true x y = refl
opposite false x y = refl

module _ {X : Type 0} where
  pub at-none : (q : List ℕ) → at (none {X = X}) q ≡ None
  unfolding at none
  at-none q = refl

  pub at-with_name : (m : Named X) (name : List ℕ) (x : X) (q : List ℕ) → at (with_name m name x) q ≡ cond (is_name_of q name) (Some x) (at m q)
  unfolding at with_name
  at-with_name m name x q = find-put name_cmp nat_list_cmp_total q name x m.list

  pub at-without_name : (m : Named X) (name q : List ℕ) → at (without_name m name) q ≡ cond (is_name_of q name) None (at m q)
  unfolding at without_name
  at-without_name m name q =
      let kept =
      find-where_key name_cmp (λ n. not (is_name_of name n)) q
      (λ n alike. ap (λ r. not (is_eq r)) (sym (alike_right nat_list_cmp_total q n name alike))) m.list in
      let turned = ap (λ b. cond b None (at m q)) ((eq_by_cmp_equiv nat_list_cmp_total).symm name q) in
      kept ∙ opposite (is_name_of name q) _ _ ∙ turned

  pub same_list : (m n : Named X) → entries m ≡ entries n → m ≡ n
  unfolding entries
  same_list m n e =
      let both : ◌≡◌ {A = (es : List (List ℕ × X)) × T (is_sorted name_cmp es)} (m.list, m.sorted) (n.list, n.sorted) =
      Σ_prop_path (λ es. T_prop _) e in
      λ i. record { list = (both i).0; sorted = (both i).1 }

  -- two maps with the same answers are one
  pub same_map : (m n : Named X) → ((q : List ℕ) → at m q ≡ at n q) → m ≡ n
  unfolding at entries
  same_map m n answers =
      let antisymmetric = slice_cmp-IsAntisymmetric nat_cmp-IsAntisymmetric in
      same_list m n (same_entries name_cmp nat_list_cmp_total antisymmetric m.list n.list m.sorted n.sorted answers)

  -- std's finite map of the entries has the same answers
  pub get-entries : (m : Named X) (q : List ℕ) → get (from_sorted {R = name_cmp} (entries m)) q ≡ at m q
  unfolding at entries
  get-entries m q = get-from_sorted name_cmp m.list q m.sorted
