-- `none` makes a loose box that keeps nothing.
use Rattle.std.proofs.Common.{[], ◌∷◌, refl, lit<}
use Rattle.std.specs.Prelude.{None}
use mir.Syntax.{Args, a_type, dcons, dnil}
use mir.MapTy.{inst_fn}
use types.Kit.{raw, ‵, ◌⊛◌, ◌$◌, ◌∵◌, !, qed, done, move, drop, split, suffices}
use types.Run.{lit, no_more, and_then, returns, enter}
use types.ByLocal.{alloc_all, pass_all, free_all, look_at, sets}
use types.Part.{agg}
use base.Fml.{ftrue}
use denote.Param.{param, bounded}
use denote.RawPtr.{null_ptr}
use denote.Steps.{nothing}
use denote.Triple.Entry.{alive}
use denote.Triple.Walked.{walk_of, says, ends_at}
use Rattle.std.proofs.raw_atomic.Walks.{proved}
use Rattle.ripsawbean.proofs.LooseValues.{pointer, loose_in}
use Rattle.ripsawbean.specs.contracts.loose.Loose.none.{ended, clauses}
use Rattle.ripsawbean.specs.contracts.loose.Loose.none.Key.{name}
use Rattle.ripsawbean.proofs.loose.Loose.none.Statement.{statement}
use Rattle.ripsawbean.proofs.loose.Loose.none.Code as code

pub none_spec : {M : Type 1} → statement M
none_spec 𝓤 𝓛 𝓜 𝓡 wired T L dx glue =
    let End = ended T dx in let c = clauses T dx 𝓛 𝓜.mem 𝓡.returns in let W = walk_of 𝓛 End tt c in let inst : Args = bounded (a_type ∷ []) (T, tt) (dcons dx dnil) in let fn = inst_fn inst code.function in
    proved 𝓛 End tt c 𝓜 𝓡 tt (name inst) fn (code.unfolded 𝓤 𝓛.H 𝓜 𝓡 wired (T, tt) dx) (λ κs. tt) (λ κs. tt) (λ κs qs bounds a g are.
    let y : W.Ghost = ((κs, qs, bounds, a, tt), g) in
    qed 𝓛 ((raw (alive 𝓛 End.signature κs qs) ⊛ ‵ ftrue) ∷ raw ((c κs a).requires g) ∷ []) ∵ move ! (1 ∷ []) $ drop ! $ split ! $ move ! (1 ∷ []) $ drop ! $
    enter ! _ _ _ _ _ $ alloc_all ! (λ l. pass_all ! refl tt $
    sets ! (agg ! (and_then ! (lit ! tt) (no_more !))) refl (tt, (record { fits = lit< tt }, tt)) $
    returns ! (look_at ! 0 refl) $ free_all ! refl $
    suffices ! _ (ends_at 𝓛 End tt c y (pointer null_ptr) (record { at = null_ptr; value = None }) tt tt) $ says ! refl $
    nothing ! $ loose_in (param 0 T) ! null_ptr None $ nothing ! $ move ! (2 ∷ 0 ∷ []) $ done !))
