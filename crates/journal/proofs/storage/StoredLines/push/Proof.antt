-- The record takes no bytes, so that only its lines change.
use Rattle.std.proofs.Common.{List, [], ◌∷◌, ◌++◌, refl}
use Rattle.std.proofs.raw_atomic.Walks.{proved}
use base.Logic.{id⊢}
use base.Fml.{ftrue, flft}
use contract.Lifetimes.{Lfts}
use mir.Syntax.{named}
use mir.Val.{Val, vunit}
use types.Kit.{‵, raw, ◌⊛◌, ◌$◌, ◌∵◌, !, qed, move, keep, use1, split, join, fsplit, fsplit3, fjoin, fjoin3, feq_i, suffices, frame, done}
use types.Run.{enter, returns, of_opd, unit_lit}
use types.ByLocal.{alloc_all, pass_all, free_all, look_at, sets}
use denote.Exit.{yes}
use denote.RattleType.{RattleType, owns}
use denote.Ref.{mut_vals, mut_Tells, shr_vals, shr_Tells}
use denote.Signature.{plain, named_lft, types_at}
use denote.Steps.{opens, closes}
use denote.Triple.Walked.{says, Stays, walk_of, stay_ref, Goes-ref, stay_none_ref, Goes-none_ref, ends_at}
use Rattle.journal.specs.contracts.storage.Appended as Appended
use Rattle.journal.specs.contracts.storage.StoredLines as Stored
use Rattle.journal.specs.contracts.storage.StoredLines.push as f
use Rattle.journal.proofs.storage.StoredLines.push.Statement.{statement}
use Rattle.journal.proofs.storage.StoredLines.push.Code as code

abbrev appended_at : Lfts 3 → RattleType
appended_at κs = Appended.the_row (named_lft 3 2 tt κs)

abbrev stayed : Stays f.ended.signature.params f.ended.kept
stayed = (stay_ref (0 ∷ []) tt (plain (λ _. Stored.the_row)), (stay_none_ref (1 ∷ []) tt (plain appended_at) yes, tt))

pub push_spec : {M : Type 1} → statement M
push_spec 𝓤 𝓛 𝓜 𝓡 wired =
    let c = f.clauses 𝓛 𝓜.mem 𝓡.returns in
    proved 𝓛 f.ended stayed c 𝓜 𝓡 (Goes-ref 𝓛 3 0 tt (plain (λ _. Stored.the_row)), (Goes-none_ref 𝓛 3 (1 ∷ []) tt (plain appended_at) yes, tt))
    f.Key.name code.function (code.unfolded 𝓤 𝓛.H 𝓜 𝓡 wired)
    (λ κs. (mut_vals, (shr_vals, tt))) (λ κs. (mut_Tells (named 0) κs.0 Stored.the_row, (shr_Tells (named 1) κs.1.0 (appended_at κs), tt)))
    (λ κs qs bounds a g are.
    let b = a.0.ref_ptr.0 in let o = a.0.ref_ptr.1 in let vs = mut_vals a.0 in
    let h : Stored.the_row.Denot = record { lines = a.0.now.lines ++ a.1.0.now.lines.now } in
    let y : (walk_of 𝓛 f.ended stayed c).Ghost = ((κs, qs, bounds, a, (vs, (shr_vals a.1.0, tt))), g) in
    qed 𝓛 (((‵ (flft κs.0 qs.0) ⊛ (‵ (flft κs.1.0 qs.1.0) ⊛ (‵ (flft κs.1.1.0 qs.1.1.0) ⊛ ‵ ftrue))) ⊛ ‵ (owns (types_at f.signature.params κs) a y.0.4)) ∷ raw ((c κs a).requires g) ∷ []) ∵
    split ! $ split ! $ move ! (2 ∷ []) $ fsplit ! $ fsplit3 ! $ keep ! (1 ∷ 2 ∷ 4 ∷ 3 ∷ 5 ∷ []) $
    -- [what is seen at the loan's end; the borrow; its token; the lines; the other tokens]
    enter ! _ _ _ _ _ $ alloc_all ! (λ l. pass_all ! refl ((tt, tt), ((tt, tt), tt)) $
    move ! (0 ∷ 1 ∷ 2 ∷ []) $ opens ! tt Stored.the_row {h = a.0.now} b o (λ us.
    sets ! (of_opd ! (unit_lit !)) refl (tt, tt) $
    move ! (1 ∷ []) $ use1 𝓛 (‵ (Stored.the_row.own_val h us)) (id⊢ 𝓤 _) $ move ! (1 ∷ 0 ∷ []) $ closes ! tt Stored.the_row h us b o $
    returns ! (look_at ! 0 refl) $ free_all ! refl $ keep ! (0 ∷ 1 ∷ 2 ∷ 3 ∷ 4 ∷ []) $
    suffices ! _ (ends_at 𝓛 f.ended stayed c y vunit tt (h, (tt, tt)) (tt, (tt, tt))) $ says ! refl $
    move ! (2 ∷ 4 ∷ []) $ join ! $ frame ! $ feq_i ! (List Val) vs vs refl $ fjoin3 ! $ fjoin ! $
    feq_i ! (List Val) (vunit ∷ []) (vunit ∷ []) refl $ move ! (1 ∷ 0 ∷ []) $ done !)))
