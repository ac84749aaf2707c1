-- The longer log is made of nothing too: both references are let go.
use Rattle.std.proofs.Common.{[], ◌∷◌, ◌++◌, refl}
use Rattle.std.proofs.raw_atomic.Walks.{proved}
use base.Fml.{ftrue}
use mir.Syntax.{named}
use types.Kit.{‵, raw, ◌⊛◌, ◌$◌, ◌∵◌, !, qed, keep, move, split, join, suffices, done}
use types.Part.{agg}
use types.Run.{enter, no_more, returns}
use types.ByLocal.{alloc_all, pass_all, free_all, look_at, sets}
use denote.Builtin.{RefOf}
use denote.Exit.{yes}
use denote.RattleType.{owns}
use denote.Ref.{shr_vals, shr_Tells}
use denote.Signature.{plain, types_at, named_lft}
use denote.Steps.{nothing, owned}
use denote.Triple.Entry.{alive}
use denote.Triple.Walked.{Stays, walk_of, says, stay_dropped, Goes-dropped, ends_at}
use Rattle.byte_log.proofs.Free.{stored, IsStored, log_Makes}
use Rattle.byte_log.specs.contracts.ByteLog.{the_row}
use Rattle.byte_log.specs.contracts.Growth as Growth
use Rattle.byte_log.specs.declared.ByteLog.{ByteLog}
use Rattle.byte_log.specs.contracts.ByteLog.and as f
use Rattle.byte_log.proofs.ByteLog.and.Statement.{statement}
use Rattle.byte_log.proofs.ByteLog.and.Code as code

abbrev stayed : Stays f.ended.signature.params f.ended.kept
stayed = (stay_dropped _ yes, (stay_dropped _ yes, tt))

pub and_spec : {M : Type 1} → statement M
and_spec 𝓤 𝓛 𝓜 𝓡 wired =
    let c = f.clauses 𝓛 𝓜.mem 𝓡.returns in let W = walk_of 𝓛 f.ended stayed c in
    let log_goes = Goes-dropped 𝓛 3 (RefOf (0 ∷ []) tt (plain (λ _. the_row)) (λ _. tt)) yes (λ κs x w. refl) in
    let growth_goes = Goes-dropped 𝓛 3 (RefOf (1 ∷ []) tt (plain (λ κs. Growth.the_row (named_lft 3 2 tt κs))) (λ _. tt)) yes (λ κs x w. refl) in
    proved 𝓛 f.ended stayed c 𝓜 𝓡 (log_goes, (growth_goes, tt))
    f.Key.name code.function (code.unfolded 𝓤 𝓛.H 𝓜 𝓡 wired)
    (λ κs. (shr_vals, (shr_vals, tt)))
    (λ κs. (shr_Tells (named 0) κs.0 the_row, (shr_Tells (named 1) κs.1.0 (Growth.the_row (named_lft 3 2 tt κs)), tt)))
    (λ κs qs bounds a _ are.
    let y : W.Ghost = ((κs, qs, bounds, a, (shr_vals a.0, (shr_vals a.1.0, tt))), tt) in
    let longer : ByteLog = record { bytes = a.0.now.bytes ++ a.1.0.now.bytes.now } in
    qed 𝓛 ((raw (alive 𝓛 f.signature κs qs) ⊛ ‵ (owns (types_at f.signature.params κs) a y.0.4)) ∷ ‵ ftrue ∷ []) ∵
    keep ! (0 ∷ []) $ split ! $ keep ! (0 ∷ []) $
    -- [the tokens]; the body: one struct, without a field
    enter ! _ _ _ _ _ $ alloc_all ! (λ l. pass_all ! refl ((tt, tt), ((tt, tt), tt)) $
    sets ! (agg ! (no_more !)) refl (tt, tt) $
    returns ! (look_at ! 0 refl) $ free_all ! refl $
    -- the tokens, the parameters, of which nothing is left, and the result
    suffices ! _ (ends_at 𝓛 f.ended stayed c y stored longer (tt, (tt, tt)) (tt, (tt, tt))) $ says ! refl $
    owned ! the_row IsStored (log_Makes 𝓛) longer _ refl $
    nothing ! $ nothing ! $ join ! $ nothing ! $ join ! $ move ! (2 ∷ 0 ∷ 1 ∷ []) $ done !))
