-- What holds of all actors that play, where one of them is taken out, goes on, or is put in.
use Rattle.std.proofs.Common.{◌≡◌, ◌≢◌, ◌⊎◌, inl, inr, ℕ, ◌+◌, ◌<◌, Bool, true, false, cond, List, Option, None, Some, refl, sym, ap, ◌∙◌, subst, arith}
use Rattle.std.specs.Prelude.{if◌then◌else◌}
use Rattle.std.specs.Str.{bytes_eq}
use Rattle.std.proofs.lemmas.Slice.Eq.{bytes_eq-Decides}
use Rattle.realm_model.specs.Settings.{SettingsView}
use Rattle.realm_model.specs.declared.event.Event.{Event}
use Rattle.rgw_script.specs.Casts.{Table, playing}
use Rattle.rgw_script.specs.Scenes.{Part, plays, gone, recast}
use Rattle.rgw_script.specs.Stages.{role_of, part_of, StandsIn, AreStanding}
use Rattle.rgw_script.specs.declared.active.Active.{Active}

-- ---- tables

-- the new table has this under the name
abbrev pub Puts : List ℕ → Option (Option Active) → Table → Table → Type 0
Puts name part old new = (q : List ℕ) → new q ≡ (if bytes_eq name q then part else old q)

pub at_playing : (part : Option (Option Active)) (a : Active) → playing part ≡ Some a → part ≡ Some (Some a)
at_playing None a is = absurd (cc)
at_playing (Some part) a is = ap Some is

-- who has a name in the new table
split : (name n : List ℕ) (part other : Option (Option Active)) (b : Active) → (if bytes_eq name n then part else other) ≡ Some (Some b)
    → ((name ≡ n) × (part ≡ Some (Some b))) ⊎ ((name ≢ n) × (other ≡ Some (Some b)))
split name n part other b =
    elim (bytes_eq name n) as (λ v. bytes_eq name n ≡ v → cond v part other ≡ Some (Some b) → ((name ≡ n) × (part ≡ Some (Some b))) ⊎ ((name ≢ n) × (other ≡ Some (Some b)))) [
      | true ↦ λ is e. inl ((bytes_eq-Decides name n).0 is, e)
      | false ↦ λ is e. inr (λ same. let there = (bytes_eq-Decides name n).1 same in absurd (cc), e)
    ] refl

found : (name n : List ℕ) (part : Option (Option Active)) (old new : Table) (b : Active) → Puts name part old new → new n ≡ Some (Some b)
    → ((name ≡ n) × (part ≡ Some (Some b))) ⊎ ((name ≢ n) × (old n ≡ Some (Some b)))
found name n part old new b by is = split name n part (old n) b (sym (by n) ∙ is)

same_one : (a b : Active) → Some (Some a) ≡ Some (Some b) → a ≡ b
same_one a b e = cc

-- where nobody new plays
kept_one : (name n : List ℕ) (old new : Table) (b : Active) → Puts name (Some None) old new → new n ≡ Some (Some b) → (name ≢ n) × (old n ≡ Some (Some b))
kept_one name n old new b by is =
    elim (found name n (Some None) old new b by is) [
      | inl same ↦ let e = same.1 in absurd (cc)
      | inr other ↦ other
    ]

module _ (settings : SettingsView) where
  pub same_standing : (history : List Event) (next : ℕ) (old new : Table) → ((q : List ℕ) → new q ≡ old q) → AreStanding settings history next old → AreStanding settings history next new
  same_standing history next old new same standing = record {
    each = λ n a is. standing.each n a (sym (same n) ∙ is);
    begun = λ n a is. standing.begun n a (sym (same n) ∙ is);
    apart = λ n m a b is other differ. standing.apart n m a b (sym (same n) ∙ is) (sym (same m) ∙ other) differ;
  }

  pub raised_standing : (history : List Event) (next : ℕ) (table : Table) → AreStanding settings history next table → AreStanding settings history (next + 1) table
  raised_standing history next table standing = record {
    each = standing.each;
    begun = λ n a is. let low = standing.begun n a is in omega (arith, low);
    apart = standing.apart;
  }

  -- one is taken out
  pub left_standing : (history : List Event) (next : ℕ) (name : List ℕ) (old new : Table) → Puts name (Some None) old new → AreStanding settings history next old → AreStanding settings history next new
  left_standing history next name old new by standing = record {
    each = λ n a is. standing.each n a (kept_one name n old new a by is).1;
    begun = λ n a is. standing.begun n a (kept_one name n old new a by is).1;
    apart = λ n m a b is other. standing.apart n m a b (kept_one name n old new a by is).1 (kept_one name m old new b by other).1;
  }

  pub left_apart : (history : List Event) (next : ℕ) (name : List ℕ) (old new : Table) (a : Active) → Puts name (Some None) old new → AreStanding settings history next old → old name ≡ Some (Some a)
      → (n : List ℕ) (b : Active) → new n ≡ Some (Some b) → b.pass ≢ a.pass
  left_apart history next name old new a by standing had n b is =
      let other = kept_one name n old new b by is in
      standing.apart n name b a other.1 had (λ same. other.0 (sym same))

  -- one went on, the others did not
  pub later_standing : (history later : List Event) (next pass : ℕ) (table : Table)
      → ((b : Active) → b.pass ≢ pass → StandsIn settings history b → StandsIn settings later b)
      → ((n : List ℕ) (b : Active) → table n ≡ Some (Some b) → b.pass ≢ pass)
      → AreStanding settings history next table → AreStanding settings later next table
  later_standing history later next pass table others differ standing = record {
    each = λ n a is. others a (differ n a is) (standing.each n a is);
    begun = standing.begun;
    apart = standing.apart;
  }

  -- one is put in
  pub put_standing : (history : List Event) (next : ℕ) (name : List ℕ) (old new : Table) (a : Active) → Puts name (Some (Some a)) old new
      → StandsIn settings history a → a.pass < next → ((n : List ℕ) (b : Active) → old n ≡ Some (Some b) → b.pass ≢ a.pass)
      → AreStanding settings history next old → AreStanding settings history next new
  put_standing history next name old new a by stands low differ standing = record {
    each = λ n b is.
        elim (found name n (Some (Some a)) old new b by is) [
          | inl own ↦ subst (StandsIn settings history) (same_one a b own.1) stands
          | inr other ↦ standing.each n b other.1
        ];
    begun = λ n b is.
        elim (found name n (Some (Some a)) old new b by is) [
          | inl own ↦ subst (λ (x : Active). x.pass < next) (same_one a b own.1) low
          | inr other ↦ standing.begun n b other.1
        ];
    apart = λ n m x y is there differs.
        elim (found name n (Some (Some a)) old new x by is) [
          | inl own ↦
              elim (found name m (Some (Some a)) old new y by there) [
                | inl same ↦ absurd (differs (sym own.0 ∙ same.0))
                | inr other ↦ λ e. differ m y other.1 (sym e ∙ sym (ap (λ (z : Active). z.pass) (same_one a x own.1)))
              ]
          | inr own ↦
              elim (found name m (Some (Some a)) old new y by there) [
                | inl same ↦ λ e. differ n x own.1 (e ∙ sym (ap (λ (z : Active). z.pass) (same_one a y same.1)))
                | inr other ↦ standing.apart n m x y own.1 other.1 differs
              ]
        ];
  }

-- ---- parts

part_if : (b : Bool) (x y : Option (Option Active)) → part_of (cond b x y) ≡ cond b (part_of x) (part_of y)
part_if true x y = refl
part_if false x y = refl

pub parts_put : (name : List ℕ) (part : Option (Option Active)) (old new : Table) → Puts name part old new
    → ◌≡◌ {A = List ℕ → Part} (λ q. part_of (new q)) (recast (λ q. part_of (old q)) name (part_of part))
parts_put name part old new by = λ i q. (ap part_of (by q) ∙ part_if (bytes_eq name q) part (old q)) i

pub parts_same : (old new : Table) → ((q : List ℕ) → new q ≡ old q) → ◌≡◌ {A = List ℕ → Part} (λ q. part_of (new q)) (λ q. part_of (old q))
parts_same old new same = λ i q. part_of (same q i)

-- one was taken out and put back
pub parts_back : (name : List ℕ) (a b : Active) (old left new : Table) → old name ≡ Some (Some a) → role_of b ≡ role_of a → Puts name (Some None) old left → Puts name (Some (Some b)) left new
    → ◌≡◌ {A = List ℕ → Part} (λ q. part_of (new q)) (λ q. part_of (old q))
parts_back name a b old left new had same by back = λ i q. (at q) i where
  at : (q : List ℕ) → part_of (new q) ≡ part_of (old q)
  at q =
      ap part_of (back q) ∙ part_if (bytes_eq name q) (Some (Some b)) (left q)
      ∙ ap (λ p. cond (bytes_eq name q) (plays (role_of b)) p) (ap part_of (by q) ∙ part_if (bytes_eq name q) (Some None) (old q))
      ∙ (elim (bytes_eq name q) as (λ v. bytes_eq name q ≡ v → cond v (plays (role_of b)) (cond v gone (part_of (old q))) ≡ part_of (old q)) [
        | true ↦ λ is. ap plays same ∙ sym (ap part_of had) ∙ ap (λ n. part_of (old n)) ((bytes_eq-Decides name q).0 is)
        | false ↦ λ is. refl
      ] refl)
