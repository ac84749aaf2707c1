-- The empty log is made of nothing.
use Rattle.std.proofs.Common.{[], ◌∷◌, refl}
use Rattle.std.proofs.raw_atomic.Walks.{proved}
use base.Fml.{ftrue}
use types.Kit.{‵, raw, ◌$◌, ◌∵◌, !, qed, drop, suffices, done}
use types.Part.{agg}
use types.Run.{enter, no_more, returns}
use types.ByLocal.{alloc_all, pass_all, free_all, look_at, sets}
use denote.Steps.{nothing, owned}
use denote.Triple.Entry.{on_entry}
use denote.Triple.Walked.{Stays, walk_of, says, ends_at}
use Rattle.byte_log.proofs.Free.{stored, IsStored, log_Makes}
use Rattle.byte_log.specs.contracts.ByteLog.{the_row}
use Rattle.byte_log.specs.declared.ByteLog.{ByteLog}
use Rattle.byte_log.specs.contracts.ByteLog.new as f
use Rattle.byte_log.proofs.ByteLog.new.Statement.{statement}
use Rattle.byte_log.proofs.ByteLog.new.Code as code

abbrev stayed : Stays f.ended.signature.params f.ended.kept
stayed = tt

abbrev empty : ByteLog
empty = record { bytes = [] }

pub new_spec : {M : Type 1} → statement M
new_spec 𝓤 𝓛 𝓜 𝓡 wired =
    let c = f.clauses 𝓛 𝓜.mem 𝓡.returns in let W = walk_of 𝓛 f.ended stayed c in
    proved 𝓛 f.ended stayed c 𝓜 𝓡 tt
    f.Key.name code.function (code.unfolded 𝓤 𝓛.H 𝓜 𝓡 wired)
    (λ κs. tt) (λ κs. tt) (λ κs qs bounds a _ are.
    let y : W.Ghost = ((κs, qs, bounds, a, tt), tt) in
    qed 𝓛 (raw (on_entry 𝓛 f.signature κs qs a tt) ∷ ‵ ftrue ∷ []) ∵ drop ! $ drop ! $
    -- the body: one struct, without a field
    enter ! _ _ _ _ _ $ alloc_all ! (λ l. pass_all ! refl tt $
    sets ! (agg ! (no_more !)) refl (tt, tt) $
    returns ! (look_at ! 0 refl) $ free_all ! refl $
    -- the result, the parameters and the tokens, of which there are none
    suffices ! _ (ends_at 𝓛 f.ended stayed c y stored empty tt tt) $ says ! refl $
    owned ! the_row IsStored (log_Makes 𝓛) empty _ refl $ nothing ! $ nothing ! $ done !))
