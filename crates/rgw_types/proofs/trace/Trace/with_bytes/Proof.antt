-- `with_bytes` makes a value of no bytes, with the numbers that its clause names.
use Rattle.std.proofs.Common.{List, [], ◌∷◌, ◌++◌, refl}
use Rattle.std.proofs.raw_atomic.Walks.{proved}
use mir.Syntax.{named}
use mir.Val.{Val, vstruct, vnil}
use types.Kit.{raw, ‵, ◌⊛◌, ◌$◌, ◌∵◌, !, qed, keep, move, split, suffices, done}
use types.Run.{no_more, returns, enter}
use types.Part.{agg}
use types.ByLocal.{alloc_all, pass_all, free_all, look_at, sets}
use base.Fml.{ftrue}
use denote.Builtin.{u8}
use denote.Exit.{yes}
use denote.RattleType.{owns}
use denote.Ref.{shr_vals, shr_Tells}
use denote.Shadow.{pure_i}
use denote.Signature.{plain, types_at}
use denote.Slice.{shr_slice_vals, shr_slice_Tells}
use denote.Triple.Entry.{alive}
use denote.Triple.Walked.{says, Stays, stay_none_ref, stay_none_slice, walk_of, Goes-none_ref, Goes-none_slice, ends_at}
use Rattle.rgw_types.specs.declared.trace.Trace.{Trace}
use Rattle.rgw_types.specs.contracts.trace.Trace as trace
use Rattle.rgw_types.specs.contracts.trace.Trace.with_bytes as f
use Rattle.rgw_types.proofs.trace.Trace.with_bytes.Statement.{statement}
use Rattle.rgw_types.proofs.trace.Trace.with_bytes.Code as code

abbrev stayed : Stays f.ended.signature.params f.ended.kept
stayed = (stay_none_ref (0 ∷ []) tt (plain (λ _. trace.the_row)) yes, (stay_none_slice (1 ∷ []) tt (plain (λ _. u8)) yes, tt))

pub with_bytes_spec : {M : Type 1} → statement M
with_bytes_spec 𝓤 𝓛 𝓜 𝓡 wired =
    let c = f.clauses 𝓛 𝓜.mem 𝓡.returns in let W = walk_of 𝓛 f.ended stayed c in
    let v : Val = vstruct vnil in
    proved 𝓛 f.ended stayed c 𝓜 𝓡
    (Goes-none_ref 𝓛 2 (0 ∷ []) tt (plain (λ _. trace.the_row)) yes, (Goes-none_slice 𝓛 2 (1 ∷ []) tt (plain (λ _. u8)) yes, tt))
    f.Key.name code.function (code.unfolded 𝓤 𝓛.H 𝓜 𝓡 wired)
    (λ κs. (shr_vals, (shr_slice_vals, tt))) (λ κs. (shr_Tells (named 0) κs.0 trace.the_row, (shr_slice_Tells (named 1) κs.1.0 u8, tt)))
    (λ κs qs bounds a _ are.
    let vs : List Val × (List Val × Unit {0}) = (shr_vals a.0, (shr_slice_vals a.1.0, tt)) in
    let y : W.Ghost = ((κs, qs, bounds, a, vs), tt) in
    let made : Trace = record { numbers = a.0.now.numbers ++ a.1.0.now } in
    qed 𝓛 ((raw (alive 𝓛 f.signature κs qs) ⊛ ‵ (owns (types_at f.signature.params κs) a vs)) ∷ ‵ ftrue ∷ []) ∵
    keep ! (0 ∷ []) $ split ! $
    enter ! _ _ _ _ _ $ alloc_all ! (λ l. pass_all ! refl ((tt, tt), ((tt, (tt, (record { fits = are.1.0.0.1.0 }, tt))), tt)) $
    sets ! (agg ! (no_more !)) refl (tt, tt) $
    returns ! (look_at ! 0 refl) $ free_all ! refl $
    suffices ! _ (ends_at 𝓛 f.ended stayed c y v made (tt, (tt, tt)) (tt, (tt, tt))) $ says ! refl $
    pure_i ! (trace.the_row.own_val made (v ∷ [])) ((λ vss. (tt, tt)), tt) ((tt, (refl, tt)), tt) $
    move ! (1 ∷ 2 ∷ 0 ∷ []) $ done !))
