-- `of` lets a box go behind its pointer, and keeps what the box owned.
use Rattle.std.proofs.Common.{List, [], ◌∷◌, ◌++◌, refl, sym, ap, ◌∙◌, subst}
use Rattle.std.specs.Prelude.{Some}
use mir.Syntax.{Args, a_type, dcons, dnil}
use mir.Raw.{raw as bare}
use mir.Val.{Val}
use mir.MapTy.{inst_fn}
use base.Share.{left, right}
use base.Logic.{SProp, ent, emp, never, id⊢, fst∗}
use base.Fml.{ftrue, flft}
use prog.Wp.{WpFn}
use types.Logic.{sem}
use types.Kit.{‵, raw, ◌⊛◌, some, later, ◌$◌, ◌∵◌, !, qed, done, move, drop, split, join, fsplit, fjoin, pick, suffices, use0, use1, use2, await, feq_l}
use types.Run.{of_opd, no_more, and_then, returns, enter}
use types.ByLocal.{alloc_all, pass_all, free_all, look_at, get, sets, lands_as}
use types.Part.{agg}
use contract.Lifetimes.{Lfts, Shares}
use contract.BorrowLft.{◌⊑◌, ⊑_static}
use contract.Monad.{fact, fact_i}
use contract.Running.{tables}
use denote.Exit.{no}
use denote.RattleType.{RattleType, owns}
use denote.Signature.{types_at, plain}
use denote.Builtin.{RawPtr}
use denote.RawPtr.{Ptr, block_ptr, null_ptr, ptr_val, in_a_block}
use denote.Steps.{nothing, only, heard}
use denote.Param.{param, layout, bounded}
use denote.Param.NoDrop.{glues}
use denote.Triple.Clauses.{Lasts, lasts}
use denote.Triple.Spec.{triple_of}
use denote.Triple.Call.{calls_at}
use denote.Triple.Table.{framed}
use denote.Triple.Walked.{Stays, stay_dropped, walk_of, says, ends_at}
use Rattle.ripsawbean.proofs.Common.{Goes-blank, box_in, box_out, box_owns, dict, ghosts, passed, proved_at}
use Rattle.std.proofs.BoxSteps.Form as form
use Rattle.std.specs.contracts.boxed.Box.into_raw as callee
use Rattle.std.proofs.boxed.Box.into_raw.Met.{met}
use Rattle.ripsawbean.proofs.Destruct++none.drop.Code as drops
use Rattle.ripsawbean.specs.Handles.{token}
use Rattle.ripsawbean.proofs.Heap.{Z, LZ, lets_go, boxed, Boxed}
use Rattle.ripsawbean.proofs.LooseValues.{pointer, loose_in}
use Rattle.ripsawbean.specs.contracts.loose.Loose.of.{ended, clauses}
use Rattle.ripsawbean.specs.contracts.loose.Loose.of.Key.{name}
use Rattle.ripsawbean.proofs.loose.Loose.of.Statement.{statement}
use Rattle.ripsawbean.proofs.loose.Loose.of.Code as code

pub of_spec : {M : Type 1} → statement M
unfolding drops.code
of_spec {M} 𝓤 𝓛 𝓜 𝓡 wired T L dx glue =
    let 𝓣 = tables 𝓤 𝓛.H 𝓜 𝓡 𝓡.env in let R : RattleType = param 0 T in let E = boxed T L in let End = ended T dx in let c = clauses T dx 𝓛 𝓜.mem 𝓡.returns in
    let inst : Args = bounded (a_type ∷ []) (T, tt) (dcons dx dnil) in let fn = inst_fn inst code.function in
    let stayed : Stays End.signature.params End.kept = (stay_dropped (plain (λ _. Boxed R)) no, tt) in
    let allocates = passed 𝓡.env (code.calls-std_heap::GlobalAllocator::allocate 𝓡.env wired) (code.calls-std_heap::GlobalAllocator::deallocate 𝓡.env wired) (code.calls-std_heap::GlobalAllocator::grow 𝓡.env wired) (code.calls-std_heap::GlobalAllocator::shrink 𝓡.env wired) M 𝓤 𝓛 𝓜 𝓡 in
    let goes = glues "ripsawbean::Destruct++none::drop" 𝓡.env (code.calls-ripsawbean::Destruct++none::drop 𝓡.env wired) Z LZ M 𝓤 𝓛 𝓜 𝓡 in
    let k = triple_of 𝓛 (callee.signature T Z ghosts dict lets_go dx) (callee.spec T Z ghosts dict lets_go dx 𝓛 𝓜.mem 𝓡.returns) in
    let known = met 𝓤 𝓛 𝓜 𝓡 (code.calls-std_alloc::boxed::Box::into_raw 𝓡.env wired) T Z L LZ ghosts dict lets_go dx allocates goes glue in
    proved_at 𝓛 End stayed c 𝓜 𝓡 (Goes-blank 𝓛 1 (plain (λ _. Boxed R)) no (λ κs x f. tt), tt) (name inst) fn (code.unfolded 𝓤 𝓛.H 𝓜 𝓡 wired (T, tt) dx) (λ z are.
    let κ = z.0.0.0 in let q = z.0.1.0 in let v = z.0.3.0 in let Post : Val → SProp 𝓤 = (walk_of 𝓛 End stayed c).post z in let Run : List Val → SProp 𝓤 = λ us. WpFn 𝓤 𝓛.H 𝓣.C 𝓣.Λ fn us Post in
    let κs : Lfts 2 = (κ, (κ, tt)) in let qs : Shares 2 = (left q, (right q, tt)) in let halves = ‵ (flft κ (left q)) ⊛ ‵ (flft κ (right q)) ⊛ ‵ ftrue in
    qed 𝓛 (((‵ (flft κ q) ⊛ ‵ ftrue) ⊛ ‵ (owns (types_at End.signature.params z.0.0) z.0.3 z.0.4)) ∷ raw ((c z.0.0 z.0.3).requires z.1) ∷ []) ∵
    split ! $ move ! (2 ∷ []) $ use1 𝓛 (raw (fact 𝓤 (κ ⊑ T.lives)) ⊛ ‵ ftrue) (id⊢ 𝓤 _) $ split ! $ heard ! (κ ⊑ T.lives) (λ lives. drop ! $
    -- [the token; nothing; the box]
    split ! $ use1 𝓛 (‵ (flft κ (left q)) ⊛ ‵ (flft κ (right q))) (𝓛.lfts.lft_split κ q) $ split ! $ move ! (3 ∷ []) $ fsplit ! $
    box_out E ! v z.0.4.0 (λ b o h e ws fits. box_in E ! v b o v.value e refl $
    let w : Val = form.word E h b o in let typed = form.box_typed E h b o fits in let y : k.Ghost = ((κs, qs, tt, (v, tt), (w ∷ [], tt)), tt) in
    fjoin ! $ move ! (2 ∷ 3 ∷ []) $ join ! $ move ! (2 ∷ 0 ∷ []) $ join ! $ join ! $
    nothing ! $ use0 𝓛 (raw (fact 𝓤 (κ ⊑ Z.lives))) (fact_i 𝓤 (κ ⊑ Z.lives) (emp 𝓤) (⊑_static κ)) $ join ! $ use0 𝓛 (raw (fact 𝓤 (κ ⊑ T.lives))) (fact_i 𝓤 (κ ⊑ T.lives) (emp 𝓤) lives) $ join ! $ move ! (1 ∷ 0 ∷ []) $ join ! $
    use1 𝓛 (raw (k.pre y)) (id⊢ 𝓤 _) $
    suffices ! (Run (w ∷ [])) (subst (λ (us : List Val). ent 𝓤 (Run (w ∷ [])) (Run us)) (sym (λ i. ws i ++ [])) (id⊢ 𝓤 (Run (w ∷ [])))) $
    enter ! 𝓣.C 𝓣.Λ fn (w ∷ []) Post $ alloc_all ! (λ l. pass_all ! refl (typed, tt) $
    sets ! (of_opd ! (get ! refl)) refl typed $
    calls_at ! (framed 𝓤 𝓛.H 𝓜 𝓣) k known y (and_then ! (get ! refl) (no_more !)) (λ u.
    use1 𝓛 (later (some (λ (p : Ptr). (halves ⊛ ‵ (RawPtr.own_val p (u ∷ []))) ⊛ some (λ (ls : Lasts (callee.ended T Z ghosts dict lets_go dx) κs (v, tt)). ‵ (lasts (callee.ended T Z ghosts dict lets_go dx) κs (v, tt) ls) ⊛ ‵ (box_owns token R p v.value))))) (id⊢ 𝓤 _) $
    await ! tt $ pick ! (λ p. split ! $ move ! (1 ∷ []) $ pick ! (λ _. split ! $ drop ! $
    in_a_block ! p (λ at. box_owns token R at v.value) (fst∗ 𝓤 (never 𝓤) (sem 𝓛 (token (bare (layout T)) null_ptr))) (λ b' o' e'.
    -- [what the box owned; the halves with the pointer; the locals]
    move ! (1 ∷ []) $ split ! $ move ! (1 ∷ []) $ feq_l ! (λ eu.
    lands_as ! (ap only (eu ∙ ap (λ (at : Ptr). ptr_val at ∷ []) e')) refl (tt, tt) $
    sets ! (agg ! (and_then ! (get ! refl) (no_more !))) refl (tt, (tt, tt)) $
    returns ! (look_at ! 0 refl) $ free_all ! refl $
    split ! $ move ! (1 ∷ []) $ split ! $ move ! (2 ∷ 0 ∷ []) $ use2 𝓛 (‵ (flft κ q)) (𝓛.lfts.lft_join κ q) $ join ! $
    -- [the token; what the box owned]
    suffices ! _ (ends_at 𝓛 End stayed c z (pointer (block_ptr b' o')) (record { at = block_ptr b' o'; value = Some v.value }) (tt, tt) (tt, tt)) $ says ! refl $
    move ! (1 ∷ []) $ loose_in R ! (block_ptr b' o') (Some v.value) $ nothing ! $ nothing ! $ fjoin ! $ move ! (2 ∷ 0 ∷ []) $ done !)))))))))
