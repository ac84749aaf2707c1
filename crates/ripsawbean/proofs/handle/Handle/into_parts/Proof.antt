-- `into_parts` gives the pointer of a handle back, and whether it is open.
use Rattle.std.proofs.Common.{List, [], ◌∷◌, ◌++◌, refl, sym, subst}
use mir.Val.{Val, vbool}
use base.Logic.{SProp, ent, id⊢}
use base.Fml.{ftrue}
use prog.Wp.{WpFn}
use types.Kit.{‵, ◌⊛◌, ◌$◌, ◌∵◌, !, qed, done, move, keep, drop, split, fsplit, join, suffices, feq_l}
use types.Run.{stop, fld, of_opd, no_more, and_then, returns, enter}
use types.ByLocal.{alloc_all, pass_all, free_all, look_at, get, get_in, sets}
use types.Part.{agg, sub, whole}
use contract.Running.{tables}
use denote.Exit.{yes}
use denote.Laws.{Is, shows}
use denote.RattleType.{owns}
use denote.Signature.{plain, types_at}
use denote.Steps.{nothing, peeks}
use denote.Triple.Walked.{Stays, stay_dropped, Goes-dropped, walk_of, says, ends_at}
use Rattle.ripsawbean.proofs.Common.{proved_at}
use Rattle.embedded.specs.contracts.database.Database.{the_row as R}
use Rattle.ripsawbean.proofs.LooseValues.{pointer, loose_in}
use Rattle.ripsawbean.proofs.HandleValues.{words, pair, typed, typed_in, typed_pair, pair_in}
use Rattle.ripsawbean.proofs.handle.Handle.TheLaws.{lowers}
use Rattle.ripsawbean.specs.contracts.loose.Loose as loose
use Rattle.ripsawbean.specs.contracts.handle.Handle as handle
use Rattle.ripsawbean.specs.contracts.handle.Handle.into_parts as f
use Rattle.ripsawbean.proofs.handle.Handle.into_parts.Statement.{statement}
use Rattle.ripsawbean.proofs.handle.Handle.into_parts.Code as code

abbrev stayed : Stays f.ended.signature.params f.ended.kept
stayed = (stay_dropped (plain (λ _. handle.the_row)) yes, tt)

pub into_parts_spec : {M : Type 1} → statement M
into_parts_spec 𝓤 𝓛 𝓜 𝓡 wired =
    let c = f.clauses 𝓛 𝓜.mem 𝓡.returns in let 𝓣 = tables 𝓤 𝓛.H 𝓜 𝓡 𝓡.env in
    proved_at 𝓛 f.ended stayed c 𝓜 𝓡 (Goes-dropped 𝓛 0 (plain (λ _. handle.the_row)) yes (λ κs x w. refl), tt) f.Key.name code.function (code.unfolded 𝓤 𝓛.H 𝓜 𝓡 wired) (λ z are.
    let v = z.0.3.0 in let Post : Val → SProp 𝓤 = (walk_of 𝓛 f.ended stayed c).post z in let Run : List Val → SProp 𝓤 = λ us. WpFn 𝓤 𝓛.H 𝓣.C 𝓣.Λ code.function us Post in
    qed 𝓛 ((‵ ftrue ⊛ ‵ (owns (types_at f.ended.signature.params z.0.0) z.0.3 z.0.4)) ∷ ‵ ftrue ∷ []) ∵ split ! $ move ! (1 ∷ []) $ fsplit ! $
    peeks ! handle.the_row (Is handle.the_row) (shows 𝓛 handle.the_row) v z.0.4.0 (λ is. fsplit ! $ drop ! $
    -- [whether there is a value; it]
    fsplit ! $ feq_l ! (λ agree.
    let args : List Val = words v.at v.is_open ∷ [] in
    suffices ! (Run args) (subst (λ (xs : List Val). ent 𝓤 (Run args) (Run xs)) (sym (λ i. lowers.val_is v z.0.4.0 is i ++ [])) (id⊢ 𝓤 (Run args))) $
    enter ! 𝓣.C 𝓣.Λ code.function args Post $ alloc_all ! (λ l. pass_all ! refl ((typed_in v.at, ((typed v.at).1, (tt, tt))), tt) $
    sets ! (of_opd ! (get_in ! (fld ! refl (stop !)) (sub ! 0 refl (whole !)))) refl (typed v.at) $
    sets ! (of_opd ! (get_in ! (fld ! refl (stop !)) (sub ! 1 refl (whole !)))) refl (tt, tt) $
    sets ! (of_opd ! (get ! refl)) refl (typed v.at) $
    sets ! (agg ! (and_then ! (get ! refl) (no_more !))) refl (typed_in v.at, ((typed v.at).1, tt)) $
    sets ! (agg ! (and_then ! (get ! refl) (and_then ! (get ! refl) (no_more !)))) refl (typed_pair v.at, (tt, (((typed v.at).1, tt), tt))) $
    returns ! (look_at ! 0 refl) $ free_all ! refl $ keep ! (0 ∷ []) $
    suffices ! _ (ends_at 𝓛 f.ended stayed c z (pair (vbool v.is_open) (pointer v.at)) (v.is_open, record { at = v.at; value = v.database }) (tt, tt) (tt, tt)) $ says ! (agree, refl) $
    loose_in R ! v.at v.database $ pair_in ! v.is_open (loose.the_row R) (record { at = v.at; value = v.database }) (pointer v.at) $ nothing ! $ nothing ! $ join ! $ nothing ! $ done !))))
