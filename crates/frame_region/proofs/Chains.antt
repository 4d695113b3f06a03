-- Chains of linked cells: two that begin at cells to which none is linked never meet.
use Rattle.std.proofs.Common.{◌≡◌, ◌≢◌, ℕ, zero, suc, ◌+◌, ◌-◌, ◌≤◌, ◌<◌, List, length, set, slice_index, arith, inl, inr, refl, sym, ◌∙◌, ap, length-set}
use Rattle.std.proofs.lemmas.List.{get_or-set_same, get_or-set_other}
use Rattle.std.proofs.lemmas.Bool.{cases_order, cases_lt}
use Rattle.frame_region.specs.Cells.{after, IsWalk, IsPath}
use Rattle.frame_region.specs.Links.{IsUnlinked, IsOneToOne, IsChain}

-- one place of two such chains is one place of one chain
pub same_place : (links : List ℕ) → IsOneToOne links → (a b n m : ℕ) → IsUnlinked links a → IsUnlinked links b → IsWalk links a n → IsWalk links b m → (i j : ℕ) → i < n → j < m → after links a i ≡ after links b j → (a ≡ b) × (i ≡ j)
same_place links one a b n m free_a free_b in_a in_b zero zero h k e = (e, refl)
same_place links one a b n m free_a free_b in_a in_b zero (suc j) h k e = absurd (free_a (after links b j) (in_b j (omega arith)) (sym e))
same_place links one a b n m free_a free_b in_a in_b (suc i) zero h k e = absurd (free_b (after links a i) (in_a i (omega arith)) e)
same_place links one a b n m free_a free_b in_a in_b (suc i) (suc j) h k e =
    let before = one (after links a i) (after links b j) (in_a i (omega arith)) (in_b j (omega arith)) e (in_a (suc i) h) in
    let here = same_place links one a b n m free_a free_b in_a in_b i j (omega arith) (omega arith) before in
    (here.0, ap suc here.1)

pub IsPath-from_chain : (links : List ℕ) → IsOneToOne links → (first count : ℕ) → IsUnlinked links first → IsWalk links first count → IsPath links first count
IsPath-from_chain links one first count free within = record {
  within = within;
  once = λ i j h k e. (same_place links one first first count count free free within within i j h k e).1;
}

-- a chain ends at one place
pub same_length : (links : List ℕ) (first n m : ℕ) → IsChain links first n → IsChain links first m → n ≡ m
same_length links first n m a b =
    elim (cases_order n m) [
      | inl same ↦ same
      | inr order ↦ elim order [
        | inl shorter ↦ absurd (omega (arith, b.within n shorter, a.ends))
        | inr longer ↦ absurd (omega (arith, a.within m longer, b.ends))
      ]
    ]

pub after-add : (links : List ℕ) (first n i : ℕ) → after links (after links first n) i ≡ after links first (n + i)
after-add links first n zero = ap (after links first) (omega arith)
after-add links first n (suc i) = ap (slice_index links) (after-add links first n i) ∙ (let next : suc (n + i) ≡ n + suc i = omega arith in ap (after links first) next)

-- a link that is not on the way changes nothing
pub after-set : (links : List ℕ) (cell next first count : ℕ) → ((i : ℕ) → i < count → after links first i ≢ cell) → (i : ℕ) → i ≤ count → after (set links cell next) first i ≡ after links first i
after-set links cell next first count off zero h = refl
after-set links cell next first count off (suc i) h =
    ap (slice_index (set links cell next)) (after-set links cell next first count off i (omega arith))
    ∙ get_or-set_other links cell (after links first i) next 0 (off i (omega arith))

pub IsChain-set : (links : List ℕ) (cell next first count : ℕ) → ((i : ℕ) → i < count → after links first i ≢ cell) → IsChain links first count → IsChain (set links cell next) first count
IsChain-set links cell next first count off chain = record {
  within = λ i h. rw (length-set, after-set links cell next first count off i (omega arith)) (chain.within i h);
  ends = rw (length-set, after-set links cell next first count off count (omega arith)) chain.ends;
}

-- the chain of the cells behind the first ones
pub IsChain-behind : (links : List ℕ) (first count n : ℕ) → n ≤ count → IsChain links first count → IsChain links (after links first n) (count - n)
IsChain-behind links first count n below chain = record {
  within = λ i h. rw (after-add links first n i) (chain.within (n + i) (omega arith));
  ends =
      let all : n + (count - n) ≡ count = omega arith in
      rw (after-add links first n (count - n), all) chain.ends;
}

-- the last cell of a path is linked anew
module _ (links : List ℕ) (first count next : ℕ) (some : 0 < count) (path : IsPath links first count) where
  pub after-relinked : (i : ℕ) → i < count → after (set links (after links first (count - 1)) next) first i ≡ after links first i
  after-relinked i below =
      after-set links (after links first (count - 1)) next first i (λ j h e. omega (arith, path.once j (count - 1) (omega arith) (omega arith) e)) i (omega arith)

  pub after-relinked_end : after (set links (after links first (count - 1)) next) first count ≡ next
  after-relinked_end =
      let last = after links first (count - 1) in
      let whole : count ≡ suc (count - 1) = omega arith in
      ap (after (set links last next) first) whole
      ∙ ap (slice_index (set links last next)) (after-relinked (count - 1) (omega arith))
      ∙ get_or-set_same links last next 0 (path.within (count - 1) (omega arith))

  pub IsChain-cut : length links ≤ next → IsChain (set links (after links first (count - 1)) next) first count
  IsChain-cut none = record {
    within = λ i h. rw (length-set, after-relinked i h) (path.within i h);
    ends = rw (length-set, after-relinked_end) none;
  }

-- cells whose last is linked to a chain are a chain with it
pub IsChain-joined : (links : List ℕ) (first count second more : ℕ) → IsWalk links first count → after links first count ≡ second → IsChain links second more → IsChain links first (count + more)
IsChain-joined links first count second more within linked chain = record {
  within = λ i h. elim (cases_lt i count) [
    | inl front ↦ within i front
    | inr behind ↦
        let place : count + (i - count) ≡ i = omega arith in
        rw (← place, ← after-add links first count (i - count), linked) (chain.within (i - count) (omega arith))
  ];
  ends = rw (← after-add links first count more, linked) chain.ends;
}
