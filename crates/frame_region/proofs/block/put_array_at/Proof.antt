-- `put_array_at` meets its contract: a walk of its MIR by hand. The place of the array is taken out of the row of `block` and put
-- back with the new bytes.
use Rattle.std.proofs.Common.{◌≡◌, ℕ, ◌+◌, ◌*◌, ◌^◌, ◌<◌, ◌≤◌, List, [], ◌∷◌, ◌++◌, length, take, drop, sym, refl, ap, subst, ◌∙◌, arith, rules, w8, w64, MutBor}
use Rattle.std.proofs.lemmas.List.{drop-drop, places}
use seplogic.Ra.Ura.{Ura}
use lib.Dec.{T}
use base.Fraction.{full_share}
use mir.Syntax.{Args, Body, Fn, named, a_number, ty_array, ty_int, opd_unit, seq, assign, place, rv_opd, return}
use mir.MapTy.{inst_fn}
use mir.Val.{Val, WT, has_ty, vint, vunit}
use base.Logic.{SProp, ent, wand, apply∗}
use base.Fml.{Lft, GName, Share, ftrue, fat, flft, fobs, fbor}
use prog.Memory.{Memory}
use prog.Routine.{Routine}
use prog.Wp.{Env, Calls, Loops, WpFn, Tables}
use types.Logic.{Logic, sem}
use types.SemTy.{cells}
use contract.BorrowLft.{◌⊑◌}
use contract.Lifetimes.{AllOutlive}
use contract.Monad.{Fun}
use contract.Running.{tables, tables_of}
use sound.WpLaws.{WpFn-mono}
use types.Kit.{‵, ◌⊛◌, ⋆, raw, some, given, at_ret, ◌$◌, ◌∵◌, !, qed, by, move, keep, use1, use2, drop as let_go, split, split3, join, learn, pick, fsplit, fsplit3, fjoin, feq_i, rewrite, suffices, frame, done}
use types.Part.{whole, sub}
use types.Run.{store, stop, fld, addr, hop, from, of_opd, unit_lit, bin, assigns_last, first, blocks, exec, returns, enter}
use types.ByLocal.{alloc_all, pass_all, free_all, look_at, look_in_at, get, through, sets, env}
use denote.Array.{Array, array_vals, Array-Tells, Array-Typed}
use denote.Builtin.{u8, usize}
use denote.Exit.{yes}
use denote.Index.{row, opens_slice, closes_slice, whole_in, whole_out}
use denote.Lend.{Held}
use denote.Memory.{mem, part_at}
use denote.Param.{number, layouts, param, ArrayAt}
use denote.Plain.{uint_vals, uint_Tells, uint_Lawful}
use denote.RattleType.{owns}
use denote.Shadow.{pure_i}
use denote.Signature.{plain, types_at}
use denote.Slice.{Room, slice_val, mut_slice_at, mut_slice_vals, mut_slice_Tells, coded_holeys, heres}
use denote.Steps.{nothing}
use denote.Triple.Clauses.{Clauses, Ended, closing}
use denote.Triple.Entry.{on_entry}
use denote.Triple.Spec.{Meets, triple_of}
use denote.Triple.Table.{entered}
use denote.Triple.Walked.{says, Stays, stay_dropped, stay_slice, walk_of, ends_at, walked, Goes-dropped, Goes-slice, walk_Meets}
use borrow.Table.Elements.{at_byte}
use borrow.Table.OneValue.{part_out, part_in}
use borrow.Rule.Simd.Focus.{between, focus_chunk}
use Rattle.frame_region.specs.Region.{overwritten}
use Rattle.frame_region.specs.contracts.block.put_array_at as f
use Rattle.frame_region.specs.contracts.block.put_array_at.Key.{name as #self}
use Rattle.frame_region.proofs.block.put_array_at.Statement as stated
use Rattle.frame_region.proofs.block.put_array_at.Code as code

between_is : (xs ys : List ℕ) (i n : ℕ) → length ys ≡ n → between i n xs ys ≡ overwritten xs i ys
between_is xs ys i n long =
    ap (λ (rest : List ℕ). take i xs ++ (ys ++ rest)) (drop-drop n i xs ∙ ap (λ (k : ℕ). drop (i + k) xs) (sym long))

length-between : (xs ys : List ℕ) (i n : ℕ) → length ys ≡ n → i + n ≤ length xs → length (overwritten xs i ys) ≡ length xs
length-between xs ys i n long inside = let within : i + length ys ≤ length xs = omega (arith, long) in search (rules, places)

module _ (n : ℕ) where
  abbrev args : Args
  args = layouts (a_number ∷ []) (number n, tt)

  abbrev fn' : Fn
  fn' = inst_fn args code.function

  abbrev ended : Ended
  ended = f.ended (number n)

  -- what the function still has of each parameter when it returns: the block, and nothing of the others
  abbrev stayed : Stays ended.signature.params ended.kept
  stayed = (stay_slice (0 ∷ []) tt (plain (λ _. u8)), (stay_dropped (plain (λ _. usize)) yes, (stay_dropped (plain (λ _. ArrayAt u8 (param 0 (number n)))) yes, tt)))

-- the MIR after the `unsafe` block
abbrev rest : Body
rest = seq (assign (place 0 []) (rv_opd opd_unit)) return

module _ (n : ℕ) {M : Type 1} {𝓤 : Ura M} (𝓛 : Logic 𝓤) (at_mem : Memory → SProp 𝓤) (run : Routine → Fun 𝓤) where
  open 𝓛 use {H}

  abbrev clauses : Clauses 𝓤 (ended n)
  clauses = f.clauses (number n) 𝓛 at_mem run

  -- the block is lent for κ, lies at (b, o), is named γ and holds xs; the array ys is the value v
  module _ (κ κN : Lft) (q qN : Share) (bounds : AllOutlive 2 (ended n).signature.outlives (κ, (κN, tt))) (b o : ℕ) (γ : GName) (xs : List ℕ) (at : ℕ) (ys : List ℕ) (v : Val) where
    abbrev block : List ℕ → MutBor (List ℕ)
    block zs = record { ref_ptr = (b, o); ghost_name = γ; now = zs }

    abbrev words : List Val × (List Val × (List Val × Unit {0}))
    words = (mut_slice_vals (block xs), (vint w64 at ∷ [], (v ∷ [], tt)))

    abbrev bound : (walk_of 𝓛 (ended n) (stayed n) clauses).Ghost
    bound = (((κ, (κN, tt)), (q, (qN, tt)), bounds, (block xs, (at, (ys, tt))), words), tt)

    abbrev Post : Val → SProp 𝓤
    Post = (walk_of 𝓛 (ended n) (stayed n) clauses).post bound

    abbrev zs : List ℕ
    zs = overwritten xs at ys

    -- the bytes that are written over
    abbrev old : List ℕ
    old = take n (drop at xs)

    -- the end: the `ensures`, the tokens and the block at zs
    exits : length zs ≡ length xs → Room u8 (length xs)
        → ent 𝓤 (⋆ 𝓛 (‵ (fobs γ ((coded_holeys u8).code (heres u8 zs))) ∷ ‵ (fbor κ (Held u8 (length zs) b o γ)) ∷ ‵ (flft κ q) ∷ ‵ (flft κN qN) ∷ [])) (Post vunit)
    exits same room =
        qed 𝓛 (‵ (fobs γ ((coded_holeys u8).code (heres u8 zs))) ∷ ‵ (fbor κ (Held u8 (length zs) b o γ)) ∷ ‵ (flft κ q) ∷ ‵ (flft κN qN) ∷ []) ∵
        suffices ! _ (ends_at 𝓛 (ended n) (stayed n) clauses bound vunit tt (zs, (tt, (tt, tt))) (same, (tt, (tt, tt)))) $ says ! refl $
        nothing ! $ move ! (4 ∷ 0 ∷ []) $ join ! $ move ! (3 ∷ 0 ∷ []) $ join ! $ frame ! $ fjoin ! $
        pure_i ! (mut_slice_at u8 (block zs) (mut_slice_vals (block xs))) (tt, (tt, tt)) (ap (λ (m : ℕ). slice_val (b, o) m ∷ []) (sym same), subst (Room u8) (sym same) room) $ fjoin ! $
        nothing ! $ nothing ! $ fjoin ! $ nothing ! $ fjoin ! $ move ! (1 ∷ 0 ∷ []) $ fjoin ! $
        feq_i ! (List Val) (vunit ∷ []) (vunit ∷ []) refl $ move ! (1 ∷ 0 ∷ []) $ done !

    walk : (C : Calls 𝓤 H) (Λ : Loops 𝓤 H) → Room u8 (length xs) → at < 2 ^ 64 → T (has_ty (ty_array (ty_int w8) n) v) × WT v → length ys ≡ n → at + n ≤ length xs
        → ent 𝓤 (on_entry 𝓛 (ended n).signature (κ, (κN, tt)) (q, (qN, tt)) (block xs, (at, (ys, tt))) words) (WpFn 𝓤 H C Λ (fn' n) (slice_val (b, o) (length xs) ∷ vint w64 at ∷ v ∷ []) Post)
    walk C Λ room fa good long inside =
        let fx : length xs < 2 ^ 64 = room.0 in
        let same : length zs ≡ length xs = length-between xs ys at n long inside in
        qed 𝓛 ((‵ (flft κ q) ⊛ ‵ (flft κN qN) ⊛ ‵ ftrue) ∷ ‵ (owns (types_at (ended n).signature.params (κ, (κN, tt))) (block xs, (at, (ys, tt))) words) ∷ []) ∵
        split3 ! $ move ! (3 ∷ []) $ fsplit3 ! $ move ! (2 ∷ []) $ fsplit ! $ move ! (2 ∷ []) $ fsplit ! $ move ! (1 ∷ []) $ fsplit ! $ keep ! (0 ∷ 1 ∷ 6 ∷ 3 ∷ 7 ∷ []) $
        -- [what γ is seen at; the borrow; the token of κ; the array; the other token]
        enter ! C Λ (fn' n) (slice_val (b, o) (length xs) ∷ vint w64 at ∷ v ∷ []) _ $
        alloc_all ! (λ l. pass_all ! refl ((tt, (tt, (record { fits = fx }, tt))), ((tt, record { fits = fa }), (good, tt))) $
        let En : Env 𝓤 H = env (fn' n).locals l in
        opens_slice ! tt u8 xs b o $ use1 𝓛 (‵ (cells (mem u8) xs b o)) (whole_in 𝓛 u8 xs b o) $
        use1 𝓛 (‵ (part_at (Array u8 n) full_share old b (at + o)) ⊛ raw (wand 𝓤 (sem 𝓛 (part_at (Array u8 n) full_share ys b (at + o))) (sem 𝓛 (cells (mem u8) (between at n xs ys) b o))))
        (focus_chunk 𝓛 u8 tt n full_share b o xs ys at (at + o) (at_byte o at) inside long) $ split ! $
        use1 𝓛 (some (λ (u : Val). ‵ (fat full_share (ty_array (ty_int w8) n) b (at + o) u) ⊛ ‵ ((Array u8 n).own_val old (u ∷ [])))) (part_out 𝓛 (Array u8 n) refl full_share old b (at + o)) $ pick ! (λ u. split ! $
        -- [the place of the array; its old value; the way back; the open borrow; what γ is seen at, twice; the array; the other token]
        -- let start = block.as_mut_ptr();
        sets ! (addr ! (from ! (fld ! refl (hop ! (look_in_at ! 1 (sub ! 0 refl (whole !))) (stop !))))) refl (tt, tt) $
        first ! $ blocks ! $
        -- *(start.add(at) as *mut [u8; N]) = array;
        sets ! (bin ! (get ! refl) (get ! refl) tt) refl (tt, tt) $
        sets ! (of_opd ! (get ! refl)) refl (tt, tt) $
        assigns_last ! (of_opd ! (get ! refl)) (through ! refl (stop !)) (store ! 0 refl good) $
        exec ! C Λ En rest (at_ret En Post) $
        -- the array is put into the row
        move ! (0 ∷ 6 ∷ []) $ use2 𝓛 (‵ (part_at (Array u8 n) full_share ys b (at + o))) (part_in 𝓛 (Array u8 n) refl full_share ys b (at + o) v) $
        move ! (0 ∷ 2 ∷ []) $ use2 𝓛 (‵ (cells (mem u8) (between at n xs ys) b o)) (apply∗ 𝓤 (sem 𝓛 (part_at (Array u8 n) full_share ys b (at + o))) (sem 𝓛 (cells (mem u8) (between at n xs ys) b o))) $
        rewrite ! 0 (λ (ws : List ℕ). ‵ (cells (mem u8) ws b o)) (between_is xs ys at n long) refl $ use1 𝓛 (‵ (row u8 full_share zs b o)) (whole_out 𝓛 u8 zs b o) $
        move ! (0 ∷ 2 ∷ 3 ∷ 4 ∷ []) $ closes_slice ! tt u8 xs zs same b o $
        sets ! (of_opd ! (unit_lit !)) refl (tt, tt) $
        returns ! (look_at ! 0 refl) $ free_all ! refl $ keep ! (0 ∷ 1 ∷ 2 ∷ 4 ∷ []) $ by ! (exits same room)))

  meets : (𝓣 : Tables 𝓤 H) → Meets 𝓛 (ended n).signature (WpFn 𝓤 H 𝓣.C 𝓣.Λ (fn' n)) (closing 𝓛 (ended n) clauses)
  meets 𝓣 =
      walk_Meets 𝓛 (ended n) (stayed n)
      (Goes-slice 𝓛 2 0 tt (plain (λ _. u8)), (Goes-dropped 𝓛 2 (plain (λ _. usize)) yes (λ κs x w. refl), (Goes-dropped 𝓛 2 (plain (λ _. ArrayAt u8 (param 0 (number n)))) yes (λ κs x w. refl), tt)))
      clauses (WpFn 𝓤 H 𝓣.C 𝓣.Λ (fn' n)) (WpFn-mono 𝓤 H 𝓛.laws 𝓣 (fn' n))
      (walked 𝓛 (ended n) (stayed n) clauses (WpFn 𝓤 H 𝓣.C 𝓣.Λ (fn' n))
      (λ κs. (mut_slice_vals, (uint_vals w64, (array_vals (uint_vals w8), tt)))) (λ κs. (mut_slice_Tells (named 0) κs.0 u8, (uint_Tells w64, (Array-Tells u8 (uint_vals w8) (uint_Tells w8) n, tt))))
      (λ κs qs bounds a g are.
      let On : SProp 𝓤 = on_entry 𝓛 (ended n).signature κs qs a (mut_slice_vals a.0, (vint w64 a.1.0 ∷ [], (array_vals (uint_vals w8) a.1.1.0, tt))) in
      qed 𝓛 (raw On ∷ (given (κs.1.0 ⊑ []) (‵ ftrue) ⊛ given (n * 1 < 2 ^ 63) (‵ ftrue) ⊛ given (a.1.0 + n ≤ length a.0.now) (‵ ftrue)) ∷ []) ∵
      move ! (1 ∷ []) $ split3 ! $ let_go ! $ let_go ! $ learn ! (λ inside. let_go ! $
      by ! (walk κs.0 κs.1.0 qs.0 qs.1.0 bounds a.0.ref_ptr.0 a.0.ref_ptr.1 a.0.ghost_name a.0.now a.1.0 a.1.1.0 _ 𝓣.C 𝓣.Λ are.0.0.1 are.1.0.1 (Array-Typed u8 (uint_Lawful 𝓛 w8).typed n a.1.1.0 _ are.1.1.0).0 are.1.1.0.1.0.1 inside))))

pub put_array_at_spec : {M : Type 1} → stated.statement M
unfolding tables_of
put_array_at_spec 𝓤 𝓛 𝓜 𝓡 wired n fn =
    let 𝓣 : Tables 𝓤 𝓛.H = tables_of 𝓤 𝓛.H 𝓜 (tables 𝓤 𝓛.H 𝓜 𝓡 𝓡.env) in
    entered 𝓤 𝓛.H (triple_of 𝓛 (ended n).signature (f.spec (number n) 𝓛 𝓜.mem 𝓡.returns)) 𝓣.C 𝓣.Λ (#self (args n)) (fn' n) (code.unfolded 𝓤 𝓛.H 𝓜 𝓡 wired (number n, tt))
    (meets n 𝓛 𝓜.mem 𝓡.returns 𝓣)
