-- `array_at` meets its contract: a walk of its MIR by hand. The array is taken out of the row of `block`, read whole and put back.
use Rattle.std.proofs.Common.{ℕ, ◌+◌, ◌*◌, ◌^◌, ◌<◌, ◌≤◌, List, [], ◌∷◌, length, take, drop, sym, refl, w8, w64}
use seplogic.Ra.Ura.{Ura}
use mir.Syntax.{Args, Body, Fn, named, a_number, ty_array, ty_int, seq, assign, place, rv_opd, copy, return}
use mir.MapTy.{inst_fn}
use mir.Val.{Val, vint}
use base.Logic.{SProp, ent, wand, apply∗}
use base.Fml.{Fml, Lft, Share, ftrue, fat, flft}
use prog.Memory.{Memory}
use prog.Routine.{Routine}
use prog.Wp.{Env, Calls, Loops, WpFn, Tables}
use types.Logic.{Logic, sem}
use types.SemTy.{cells}
use contract.BorrowLft.{◌⊑◌}
use contract.Lifetimes.{AllOutlive}
use contract.Monad.{Fun}
use contract.Running.{tables, tables_of}
use sound.WpLaws.{WpFn-mono}
use types.Kit.{‵, ◌⊛◌, ⋆, raw, some, given, at_ret, ◌$◌, ◌∵◌, !, qed, by, move, keep, use1, use2, drop as let_go, split, split3, join, learn, pick, fsplit, fjoin, rewrite, suffices, frame, done}
use types.Part.{whole, sub}
use types.Run.{look, stop, fld, load, addr, hop, from, of_opd, bin, first, blocks, exec, returns, enter, well_typed}
use types.ByLocal.{alloc_all, pass_all, free_all, look_at, look_in_at, get, through, sets, sets_last, env}
use denote.Array.{Array, array_copy}
use denote.Builtin.{u8, usize, SliceRefOf}
use denote.Copied.{uint_Copied}
use denote.Exit.{yes}
use denote.Index.{looks_slice, shuts_slice}
use denote.Memory.{part_at}
use denote.Param.{number, layouts}
use denote.Plain.{uint_copy, uint_vals, uint_Tells}
use denote.RattleType.{owns}
use denote.Ref.{Bor}
use denote.Signature.{plain, types_at}
use denote.Slice.{Room, slice_val, shr_slice_vals, shr_slice_Tells}
use denote.Steps.{nothing}
use denote.Triple.Clauses.{Clauses, Ended, closing}
use denote.Triple.Entry.{on_entry}
use denote.Triple.Spec.{Meets, triple_of}
use denote.Triple.Table.{entered}
use denote.Triple.Walked.{says, Stays, stay_dropped, walk_of, ends_at, walked, Goes-dropped, walk_Meets}
use borrow.Table.Elements.{at_byte}
use borrow.Table.OneValue.{part_out, part_in}
use borrow.Rule.Slice.Shared.{Sh, parts-cells}
use borrow.Rule.Simd.Focus.{glance_chunk}
use Rattle.frame_region.specs.contracts.block.array_at as f
use Rattle.frame_region.specs.contracts.block.array_at.Key.{name as #self}
use Rattle.frame_region.proofs.block.array_at.Statement as stated
use Rattle.frame_region.proofs.block.array_at.Code as code

module _ (n : ℕ) where
  abbrev args : Args
  args = layouts (a_number ∷ []) (number n, tt)

  abbrev fn' : Fn
  fn' = inst_fn args code.function

  abbrev ended : Ended
  ended = f.ended (number n)

  -- what the function still has of each parameter when it returns: nothing
  abbrev stayed : Stays ended.signature.params ended.kept
  stayed = (stay_dropped (SliceRefOf (0 ∷ []) tt (plain (λ _. u8)) (λ _. tt)) yes, (stay_dropped (plain (λ _. usize)) yes, tt))

-- the MIR after the `unsafe` block: its value goes to the result
abbrev rest : Body
rest = seq (assign (place 0 []) (rv_opd (copy (place 4 [])))) return

module _ (n : ℕ) {M : Type 1} {𝓤 : Ura M} (𝓛 : Logic 𝓤) (at_mem : Memory → SProp 𝓤) (run : Routine → Fun 𝓤) where
  open 𝓛 use {H}

  abbrev clauses : Clauses 𝓤 (ended n)
  clauses = f.clauses (number n) 𝓛 at_mem run

  -- the block is lent for κ, lies at (b, o) and holds xs
  module _ (κ κN : Lft) (q qN : Share) (bounds : AllOutlive 2 (ended n).signature.outlives (κ, (κN, tt))) (b o : ℕ) (xs : List ℕ) (at : ℕ) where
    abbrev block : Bor (List ℕ)
    block = record { ref_ptr = (b, o); now = xs }

    abbrev words : List Val × (List Val × Unit {0})
    words = (shr_slice_vals block, (vint w64 at ∷ [], tt))

    abbrev bound : (walk_of 𝓛 (ended n) (stayed n) clauses).Ghost
    bound = (((κ, (κN, tt)), (q, (qN, tt)), bounds, (block, (at, tt)), words), tt)

    abbrev Post : Val → SProp 𝓤
    Post = (walk_of 𝓛 (ended n) (stayed n) clauses).post bound

    -- the bytes that are read
    abbrev ys : List ℕ
    ys = take n (drop at xs)

    -- the end: the `ensures`, the tokens and the array
    exits : (v : Val) → ent 𝓤 (⋆ 𝓛 (‵ (flft κ q) ∷ ‵ (flft κN qN) ∷ ‵ ((Array u8 n).own_val ys (v ∷ [])) ∷ [])) (Post v)
    exits v =
        qed 𝓛 (‵ (flft κ q) ∷ ‵ (flft κN qN) ∷ ‵ ((Array u8 n).own_val ys (v ∷ [])) ∷ []) ∵
        suffices ! _ (ends_at 𝓛 (ended n) (stayed n) clauses bound v ys (tt, (tt, tt)) (tt, (tt, tt))) $ says ! refl $
        nothing ! $ move ! (2 ∷ 0 ∷ []) $ join ! $ move ! (1 ∷ 0 ∷ []) $ join ! $ frame ! $
        nothing ! $ nothing ! $ fjoin ! $ nothing ! $ fjoin ! $ done !

    walk : (C : Calls 𝓤 H) (Λ : Loops 𝓤 H) → Room u8 (length xs) → at < 2 ^ 64 → at + n ≤ length xs
        → ent 𝓤 (on_entry 𝓛 (ended n).signature (κ, (κN, tt)) (q, (qN, tt)) (block, (at, tt)) words) (WpFn 𝓤 H C Λ (fn' n) (slice_val (b, o) (length xs) ∷ vint w64 at ∷ []) Post)
    walk C Λ room fa inside =
        let fx : length xs < 2 ^ 64 = room.0 in
        qed 𝓛 ((‵ (flft κ q) ⊛ ‵ (flft κN qN) ⊛ ‵ ftrue) ∷ ‵ (owns (types_at (ended n).signature.params (κ, (κN, tt))) (block, (at, tt)) words) ∷ []) ∵
        split3 ! $ move ! (3 ∷ []) $ fsplit ! $ fsplit ! $ keep ! (1 ∷ 3 ∷ 4 ∷ []) $
        -- [the block; the tokens]
        enter ! C Λ (fn' n) (slice_val (b, o) (length xs) ∷ vint w64 at ∷ []) _ $
        alloc_all ! (λ l. pass_all ! refl ((tt, (tt, (record { fits = fx }, tt))), ((tt, record { fits = fa }), tt)) $
        let En : Env 𝓤 H = env (fn' n).locals l in
        looks_slice ! tt u8 (uint_Copied 𝓛 w8) xs b o (λ p.
        rewrite ! 0 (λ (F : Fml). ‵ F) (parts-cells u8 p xs b o) refl $
        use1 𝓛 (‵ (part_at (Array u8 n) p ys b (at + o)) ⊛ raw (wand 𝓤 (sem 𝓛 (part_at (Array u8 n) p ys b (at + o))) (sem 𝓛 (cells (Sh u8 p) xs b o))))
        (glance_chunk 𝓛 u8 tt n p b o xs at (at + o) (at_byte o at) inside) $ split ! $
        use1 𝓛 (some (λ (v : Val). ‵ (fat p (ty_array (ty_int w8) n) b (at + o) v) ⊛ ‵ ((Array u8 n).own_val ys (v ∷ [])))) (part_out 𝓛 (Array u8 n) refl p ys b (at + o)) $ pick ! (λ v. split ! $ well_typed ! (λ good.
        -- let start = block.as_ptr();
        sets ! (addr ! (from ! (fld ! refl (hop ! (look_in_at ! 1 (sub ! 0 refl (whole !))) (stop !))))) refl (tt, tt) $
        first ! $ blocks ! $
        -- *(start.add(at) as *const [u8; N])
        sets ! (bin ! (get ! refl) (get ! refl) tt) refl (tt, tt) $
        sets ! (of_opd ! (get ! refl)) refl (tt, tt) $
        sets_last ! (of_opd ! (load ! (through ! refl (stop !)) (look ! 0 refl))) refl good $
        exec ! C Λ En rest (at_ret En Post) $
        sets ! (of_opd ! (get ! refl)) refl good $
        -- the array is put back, and what it owns is had twice
        move ! (1 ∷ []) $ use1 𝓛 (‵ ((Array u8 n).own_val ys (v ∷ [])) ⊛ ‵ ((Array u8 n).own_val ys (v ∷ []))) ((array_copy 𝓛 u8 (uint_copy 𝓛 w8) n).twice ys (v ∷ [])) $ split ! $
        move ! (2 ∷ 0 ∷ []) $ use2 𝓛 (‵ (part_at (Array u8 n) p ys b (at + o))) (part_in 𝓛 (Array u8 n) refl p ys b (at + o) v) $
        move ! (0 ∷ 2 ∷ []) $ use2 𝓛 (‵ (cells (Sh u8 p) xs b o)) (apply∗ 𝓤 (sem 𝓛 (part_at (Array u8 n) p ys b (at + o))) (sem 𝓛 (cells (Sh u8 p) xs b o))) $
        rewrite ! 0 (λ (F : Fml). ‵ F) (sym (parts-cells u8 p xs b o)) refl $ move ! (0 ∷ 2 ∷ []) $ shuts_slice ! tt u8 p xs b o $
        returns ! (look_at ! 0 refl) $ free_all ! refl $ keep ! (0 ∷ 3 ∷ 1 ∷ []) $ by ! (exits v)))))

  meets : (𝓣 : Tables 𝓤 H) → Meets 𝓛 (ended n).signature (WpFn 𝓤 H 𝓣.C 𝓣.Λ (fn' n)) (closing 𝓛 (ended n) clauses)
  meets 𝓣 =
      walk_Meets 𝓛 (ended n) (stayed n)
      (Goes-dropped 𝓛 2 (SliceRefOf (0 ∷ []) tt (plain (λ _. u8)) (λ _. tt)) yes (λ κs x w. refl), (Goes-dropped 𝓛 2 (plain (λ _. usize)) yes (λ κs x w. refl), tt))
      clauses (WpFn 𝓤 H 𝓣.C 𝓣.Λ (fn' n)) (WpFn-mono 𝓤 H 𝓛.laws 𝓣 (fn' n))
      (walked 𝓛 (ended n) (stayed n) clauses (WpFn 𝓤 H 𝓣.C 𝓣.Λ (fn' n))
      (λ κs. (shr_slice_vals, (uint_vals w64, tt))) (λ κs. (shr_slice_Tells (named 0) κs.0 u8, (uint_Tells w64, tt)))
      (λ κs qs bounds a g are.
      let On : SProp 𝓤 = on_entry 𝓛 (ended n).signature κs qs a (shr_slice_vals a.0, (vint w64 a.1.0 ∷ [], tt)) in
      qed 𝓛 (raw On ∷ (given (κs.1.0 ⊑ []) (‵ ftrue) ⊛ given (n * 1 < 2 ^ 63) (‵ ftrue) ⊛ given (a.1.0 + n ≤ length a.0.now) (‵ ftrue)) ∷ []) ∵
      move ! (1 ∷ []) $ split3 ! $ let_go ! $ let_go ! $ learn ! (λ inside. let_go ! $
      by ! (walk κs.0 κs.1.0 qs.0 qs.1.0 bounds a.0.ref_ptr.0 a.0.ref_ptr.1 a.0.now a.1.0 𝓣.C 𝓣.Λ are.0.0.1 are.1.0.1 inside))))

pub array_at_spec : {M : Type 1} → stated.statement M
unfolding tables_of
array_at_spec 𝓤 𝓛 𝓜 𝓡 wired n fn =
    let 𝓣 : Tables 𝓤 𝓛.H = tables_of 𝓤 𝓛.H 𝓜 (tables 𝓤 𝓛.H 𝓜 𝓡 𝓡.env) in
    entered 𝓤 𝓛.H (triple_of 𝓛 (ended n).signature (f.spec (number n) 𝓛 𝓜.mem 𝓡.returns)) 𝓣.C 𝓣.Λ (#self (args n)) (fn' n) (code.unfolded 𝓤 𝓛.H 𝓜 𝓡 wired (number n, tt))
    (meets n 𝓛 𝓜.mem 𝓡.returns 𝓣)
