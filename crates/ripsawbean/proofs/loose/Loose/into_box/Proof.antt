-- `into_box` makes the box again, from its pointer and what it owned.
use Rattle.std.proofs.Common.{◌≡◌, List, [], ◌∷◌, ◌++◌, refl, sym, ap, ◌∙◌, subst}
use Rattle.std.specs.Prelude.{Some, is_some, true}
use lib.Dec.{T}
use mir.Syntax.{Args, Body, seq, a_type, dcons, dnil}
use mir.Raw.{raw as bare}
use mir.Val.{Val, vptr, has_ty, WT}
use mir.MapTy.{inst_fn}
use base.Share.{left, right}
use base.Logic.{SProp, ent, emp, never, id⊢, fst∗}
use base.Fml.{ftrue, flft}
use prog.Wp.{WpFn}
use types.Logic.{sem}
use types.Kit.{‵, raw, ◌⊛◌, some, later, at_ret, ◌$◌, ◌∵◌, !, qed, done, move, drop, split, join, fsplit, fjoin, pick, suffices, use0, use1, use2, await, rewrite, feq_i}
use types.Run.{stop, fld, of_opd, no_more, and_then, first, blocks, exec, returns, enter}
use types.ByLocal.{alloc_all, pass_all, free_all, look_at, get, get_in, sets, lands_last, env}
use types.Part.{sub, whole}
use contract.Lifetimes.{Lfts, Shares}
use contract.BorrowLft.{◌⊑◌, ⊑_static}
use contract.Monad.{fact, fact_i}
use contract.Running.{tables}
use denote.Exit.{yes, no}
use denote.RattleType.{RattleType, owns}
use denote.Signature.{types_at, plain}
use denote.RawPtr.{Ptr, block_ptr, null_ptr, in_a_block}
use denote.Steps.{nothing, only, heard}
use denote.Param.{param, layout, bounded}
use denote.Param.Laws.{param_laws}
use denote.Param.NoDrop.{glues}
use denote.Triple.Clauses.{Lasts, lasts}
use denote.Triple.Spec.{triple_of}
use denote.Triple.Call.{calls_at_last}
use denote.Triple.Table.{framed}
use denote.Triple.Walked.{Stays, stay_dropped, Goes-dropped, walk_of, says, ends_at}
use Rattle.ripsawbean.proofs.Common.{Goes-blank, box_in, box_out, box_owns, dict, ghosts, handle_tells, passed, proved_at}
use Rattle.std.proofs.BoxSteps.Form as form
use Rattle.std.specs.contracts.alloc.Global as global
use Rattle.std.specs.contracts.boxed.Box.from_raw as callee
use Rattle.std.proofs.boxed.Box.from_raw.Met.{met}
use Rattle.ripsawbean.proofs.Destruct++none.drop.Code as drops
use Rattle.ripsawbean.specs.Handles.{token}
use Rattle.ripsawbean.proofs.Heap.{Z, LZ, lets_go, heap, boxed}
use Rattle.ripsawbean.proofs.LooseValues.{pointer, kept, loose_out}
use Rattle.ripsawbean.specs.contracts.loose.Loose as loose
use Rattle.ripsawbean.specs.contracts.loose.Loose.into_box.{ended, clauses}
use Rattle.ripsawbean.specs.contracts.loose.Loose.into_box.Key.{name}
use Rattle.ripsawbean.proofs.loose.Loose.into_box.Statement.{statement}
use Rattle.ripsawbean.proofs.loose.Loose.into_box.Code as code

-- what follows a statement
abbrev rest : Body → Body
rest (seq s t) = t
rest s = s

pub into_box_spec : {M : Type 1} → statement M
unfolding drops.code
into_box_spec {M} 𝓤 𝓛 𝓜 𝓡 wired T' L dx glue =
    let 𝓣 = tables 𝓤 𝓛.H 𝓜 𝓡 𝓡.env in let R : RattleType = param 0 T' in let LR = param_laws 0 T' L in let E = boxed T' L in let B : RattleType = form.B E in let Row : RattleType = loose.the_row R in
    let End = ended T' dx in let c = clauses T' dx 𝓛 𝓜.mem 𝓡.returns in let inst : Args = bounded (a_type ∷ []) (T', tt) (dcons dx dnil) in let fn = inst_fn inst code.function in
    let stayed : Stays End.signature.params End.kept = (stay_dropped (plain (λ _. Row)) no, (stay_dropped (plain (λ _. global.the_row)) yes, tt)) in
    let allocates = passed 𝓡.env (code.calls-std_heap::GlobalAllocator::allocate 𝓡.env wired) (code.calls-std_heap::GlobalAllocator::deallocate 𝓡.env wired) (code.calls-std_heap::GlobalAllocator::grow 𝓡.env wired) (code.calls-std_heap::GlobalAllocator::shrink 𝓡.env wired) M 𝓤 𝓛 𝓜 𝓡 in
    let goes = glues "ripsawbean::Destruct++none::drop" 𝓡.env (code.calls-ripsawbean::Destruct++none::drop 𝓡.env wired) Z LZ M 𝓤 𝓛 𝓜 𝓡 in
    let k = triple_of 𝓛 (callee.signature T' Z ghosts dict lets_go) (callee.spec T' Z ghosts dict lets_go 𝓛 𝓜.mem 𝓡.returns) in
    let known = met 𝓤 𝓛 𝓜 𝓡 (code.calls-std_alloc::boxed::Box::from_raw 𝓡.env wired) T' Z L LZ ghosts dict lets_go allocates goes in
    proved_at 𝓛 End stayed c 𝓜 𝓡 (Goes-blank 𝓛 1 (plain (λ _. Row)) no (λ κs x f. tt), (Goes-dropped 𝓛 1 (plain (λ _. global.the_row)) yes (λ κs x w. refl), tt)) (name inst) fn (code.unfolded 𝓤 𝓛.H 𝓜 𝓡 wired (T', tt) dx) (λ z are.
    let κ = z.0.0.0 in let q = z.0.1.0 in let v = z.0.3.0 in let a = z.0.3.1.0 in let Post : Val → SProp 𝓤 = (walk_of 𝓛 End stayed c).post z in let Run : List Val → SProp 𝓤 = λ us. WpFn 𝓤 𝓛.H 𝓣.C 𝓣.Λ fn us Post in
    let κs : Lfts 2 = (κ, (κ, tt)) in let qs : Shares 2 = (left q, (right q, tt)) in let halves = ‵ (flft κ (left q)) ⊛ ‵ (flft κ (right q)) ⊛ ‵ ftrue in
    qed 𝓛 (((‵ (flft κ q) ⊛ ‵ ftrue) ⊛ ‵ (owns (types_at End.signature.params z.0.0) z.0.3 z.0.4)) ∷ raw ((c z.0.0 z.0.3).requires z.1) ∷ []) ∵
    split ! $ move ! (2 ∷ []) $ use1 𝓛 (raw (fact 𝓤 (κ ⊑ T'.lives)) ⊛ raw (fact 𝓤 (is_some v.value ≡ true))) (id⊢ 𝓤 _) $ split ! $ heard ! (κ ⊑ T'.lives) (λ lives. heard ! (is_some v.value ≡ true) (λ has.
    split ! $ use1 𝓛 (‵ (flft κ (left q)) ⊛ ‵ (flft κ (right q))) (𝓛.lfts.lft_split κ q) $ split ! $ move ! (3 ∷ []) $ fsplit ! $
    loose_out R ! LR v z.0.4.0 (λ ws. kept R ! v.at v.value has (λ x is_x. in_a_block ! v.at (λ at. box_owns token R at x) (fst∗ 𝓤 (never 𝓤) (sem 𝓛 (token (bare (layout T')) null_ptr))) (λ b o e.
    -- [what the box owned; the other parameter; the halves of the token; nothing]
    move ! (1 ∷ []) $ fsplit ! $ handle_tells heap ! a z.0.4.1.0 (λ h ea fits.
    let w : Val = pointer (block_ptr b o) in let is_w : z.0.4.0 ≡ w ∷ [] = ws ∙ ap (λ (at : Ptr). pointer at ∷ []) e in
    let y : k.Ghost = ((κs, qs, tt, (a, (block_ptr b o, tt)), (h ∷ [], (vptr b o ∷ [], tt))), x) in
    move ! (2 ∷ []) $ use0 𝓛 (raw (fact 𝓤 (κ ⊑ Z.lives))) (fact_i 𝓤 (κ ⊑ Z.lives) (emp 𝓤) (⊑_static κ)) $ join ! $ use0 𝓛 (raw (fact 𝓤 (κ ⊑ T'.lives))) (fact_i 𝓤 (κ ⊑ T'.lives) (emp 𝓤) lives) $ join ! $
    -- [what is required; the allocator; nothing; the halves; nothing]
    move ! (2 ∷ []) $ feq_i ! (List Val) (vptr b o ∷ []) (vptr b o ∷ []) refl $ fjoin ! $ move ! (2 ∷ 0 ∷ []) $ fjoin ! $
    move ! (3 ∷ 4 ∷ []) $ join ! $ move ! (3 ∷ 0 ∷ []) $ join ! $ join ! $ join ! $ use1 𝓛 (raw (k.pre y)) (id⊢ 𝓤 _) $
    suffices ! (Run (w ∷ h ∷ [])) (subst (λ (us : List Val). ent 𝓤 (Run (w ∷ h ∷ [])) (Run us)) (sym (λ i. is_w i ++ (ea i ++ []))) (id⊢ 𝓤 (Run (w ∷ h ∷ [])))) $
    enter ! 𝓣.C 𝓣.Λ fn (w ∷ h ∷ []) Post $ alloc_all ! (λ l. let Ev = env fn.locals l in pass_all ! refl ((tt, (tt, tt)), (fits, tt)) $
    sets ! (of_opd ! (get_in ! (fld ! refl (stop !)) (sub ! 0 refl (whole !)))) refl (tt, tt) $ first ! $ blocks ! $
    calls_at_last ! (framed 𝓤 𝓛.H 𝓜 𝓣) k known y (and_then ! (get ! refl) (and_then ! (get ! refl) (no_more !))) (λ u.
    use1 𝓛 (later (some (λ (r : B.Denot). (halves ⊛ ‵ (B.own_val r (u ∷ []))) ⊛ some (λ (ls : Lasts (callee.ended T' Z ghosts dict lets_go) κs (a, (block_ptr b o, tt))). ‵ (lasts (callee.ended T' Z ghosts dict lets_go) κs (a, (block_ptr b o, tt)) ls) ⊛ (raw (fact 𝓤 (r.value ≡ x)) ⊛ raw (fact 𝓤 (r.alloc ≡ a))))))) (id⊢ 𝓤 (k.post y u)) $
    await ! tt $ pick ! (λ r. split ! $ move ! (1 ∷ []) $ pick ! (λ _. split ! $ drop ! $ split ! $ heard ! (r.value ≡ x) (λ same. drop ! $
    -- [the halves with the box; the locals]
    split ! $ move ! (1 ∷ []) $ box_out E ! r (u ∷ []) (λ b' o' h' e' us fits'. box_in E ! r b' o' r.value e' refl $ rewrite ! 0 (λ (xs : List Val). ‵ (B.own_val r xs)) (sym us) refl $
    let good : T (has_ty (form.box_ty E) u) × WT u = subst (λ (s : Val). T (has_ty (form.box_ty E) s) × WT s) (sym (ap only us)) (form.box_typed E h' b' o' fits') in
    lands_last ! refl good $ exec ! 𝓣.C 𝓣.Λ Ev (rest (rest fn.body)) (at_ret Ev Post) $
    sets ! (of_opd ! (get ! refl)) refl good $ returns ! (look_at ! 0 refl) $ free_all ! refl $
    -- [the box; the halves]
    move ! (1 ∷ []) $ split ! $ move ! (1 ∷ []) $ split ! $ move ! (2 ∷ 0 ∷ []) $ use2 𝓛 (‵ (flft κ q)) (𝓛.lfts.lft_join κ q) $ join ! $
    suffices ! _ (ends_at 𝓛 End stayed c z u r (tt, (tt, tt)) (tt, (tt, tt))) $ says ! (ap Some same ∙ sym is_x) $
    nothing ! $ nothing ! $ fjoin ! $ nothing ! $ fjoin ! $ move ! (1 ∷ 0 ∷ []) $ done !)))))))))))))
