-- `of` makes a handle of a box's pointer, if any.
use Rattle.std.proofs.Common.{◌≡◌, Bool, List, [], ◌∷◌, ◌++◌, refl, sym, subst}
use Rattle.std.specs.Prelude.{is_some}
use mir.Val.{Val, vbool}
use base.Logic.{SProp, ent, id⊢}
use base.Fml.{ftrue}
use prog.Wp.{WpFn}
use types.Kit.{‵, raw, ◌⊛◌, ◌$◌, ◌∵◌, !, qed, done, move, keep, split, fsplit, fjoin, join, suffices, feq_l, feq_i}
use types.Run.{stop, fld, of_opd, no_more, and_then, returns, enter}
use types.ByLocal.{alloc_all, pass_all, free_all, look_at, get, get_in, sets}
use types.Part.{agg, sub, whole}
use contract.Monad.{fact}
use contract.Running.{tables}
use denote.Builtin.{bool}
use denote.Exit.{yes}
use denote.RattleType.{RattleType, owns}
use denote.Signature.{plain, types_at}
use denote.Steps.{nothing, heard, owned}
use denote.Struct.Struct.{Struct, Struct-Makes}
use denote.Struct.Owning.{shape}
use denote.Laws.{Is}
use denote.RawPtr.{ptr_val}
use denote.Triple.Walked.{Stays, stay_dropped, Goes-dropped, walk_of, says, ends_at}
use Rattle.ripsawbean.proofs.Common.{proved_at}
use Rattle.embedded.specs.contracts.database.Database.{the_row as R}
use Rattle.embedded.proofs.database.Database.TheLaws.{the_row_laws}
use Rattle.ripsawbean.proofs.LooseValues.{pointer, loose_out}
use Rattle.ripsawbean.proofs.HandleValues.{words, typed, typed_in}
use Rattle.ripsawbean.specs.contracts.loose.Loose as loose
use Rattle.ripsawbean.specs.contracts.handle.Handle.{the_type}
use Rattle.ripsawbean.specs.contracts.handle.Handle.of as f
use Rattle.ripsawbean.proofs.handle.Handle.of.Statement.{statement}
use Rattle.ripsawbean.proofs.handle.Handle.of.Code as code

abbrev Row : RattleType
Row = loose.the_row R

abbrev stayed : Stays f.ended.signature.params f.ended.kept
stayed = (stay_dropped (plain (λ _. bool)) yes, (stay_dropped (plain (λ _. Row)) yes, tt))

pub of_spec : {M : Type 1} → statement M
of_spec 𝓤 𝓛 𝓜 𝓡 wired =
    let c = f.clauses 𝓛 𝓜.mem 𝓡.returns in let 𝓣 = tables 𝓤 𝓛.H 𝓜 𝓡 𝓡.env in
    proved_at 𝓛 f.ended stayed c 𝓜 𝓡 (Goes-dropped 𝓛 0 (plain (λ _. bool)) yes (λ κs x w. refl), (Goes-dropped 𝓛 0 (plain (λ _. Row)) yes (λ κs x w. refl), tt)) f.Key.name code.function (code.unfolded 𝓤 𝓛.H 𝓜 𝓡 wired) (λ z are.
    let S = shape the_type in let is_open = z.0.3.0 in let v = z.0.3.1.0 in let Post : Val → SProp 𝓤 = (walk_of 𝓛 f.ended stayed c).post z in let Run : List Val → SProp 𝓤 = λ us. WpFn 𝓤 𝓛.H 𝓣.C 𝓣.Λ code.function us Post in
    qed 𝓛 ((‵ ftrue ⊛ ‵ (owns (types_at f.ended.signature.params z.0.0) z.0.3 z.0.4)) ∷ raw (fact 𝓤 (is_open ≡ is_some v.value)) ∷ []) ∵ move ! (1 ∷ []) $ heard ! (is_open ≡ is_some v.value) (λ agree. split ! $ move ! (1 ∷ []) $
    fsplit ! $ feq_l ! (λ us. fsplit ! $ loose_out R ! the_row_laws v z.0.4.1.0 (λ ws.
    let args : List Val = vbool is_open ∷ pointer v.at ∷ [] in
    suffices ! (Run args) (subst (λ (xs : List Val). ent 𝓤 (Run args) (Run xs)) (sym (λ i. us i ++ (ws i ++ []))) (id⊢ 𝓤 (Run args))) $
    enter ! 𝓣.C 𝓣.Λ code.function args Post $ alloc_all ! (λ l. pass_all ! refl ((tt, tt), ((typed_in v.at, ((typed v.at).1, tt)), tt)) $
    sets ! (of_opd ! (get_in ! (fld ! refl (stop !)) (sub ! 0 refl (whole !)))) refl (typed v.at) $
    sets ! (of_opd ! (get ! refl)) refl (typed v.at) $
    sets ! (agg ! (and_then ! (get ! refl) (and_then ! (get ! refl) (no_more !)))) refl (typed_in v.at, ((typed v.at).1, (tt, tt))) $
    returns ! (look_at ! 0 refl) $ free_all ! refl $ keep ! (0 ∷ []) $
    suffices ! _ (ends_at 𝓛 f.ended stayed c z (words v.at is_open) (record { at = v.at; is_open = is_open; database = v.value }) (tt, (tt, tt)) (tt, (tt, tt))) $ says ! refl $
    feq_i ! Bool is_open (is_some v.value) agree $ fjoin ! $ owned ! (Struct S) (Is (Struct S)) (Struct-Makes 𝓛 S ((λ p vs. tt), ((λ p vs. tt), tt))) (v.at, (is_open, tt)) (words v.at is_open ∷ []) ((ptr_val v.at ∷ [], (vbool is_open ∷ [], tt)), (refl, (refl, (refl, tt)))) $ fjoin ! $ nothing ! $ nothing ! $ join ! $ nothing ! $ join ! $ nothing ! $ done !)))))
