use Rattle.std.proofs.Common.{◌∙◌, refl}
use Rattle.std.proofs.lemmas.Result.{on_err_weaker, on_ok_weaker}
use Rattle.version_chain.specs.declared.record.Record.{Record}
use Rattle.version_chain.specs.Records.{stored_of}
use Rattle.version_chain.proofs.Recorded.{IsHere, kept_chains, kept_marks, marked_at}
use Rattle.version_chain.proofs.chains.Chains.mark.Goals as goal
use Rattle.version_chain.proofs.chains.Chains.mark.Goals.{After-self-2-1}

here : (c : After-self-2-1) → IsHere c.number_for.new.self.keys c.number_for.new.self.records.items c.args.key.now c.in_ok-number.number c.index_mut.result.now
here c = record { number = c.in_ok-number.ensures.number.number; own = c.in_ok-number.ensures.number.own; low = c.number_for.new.self.low c.args.key.now c.in_ok-number.number c.in_ok-number.ensures.number.number; value = c.index_mut.ensures.value }

abbrev noted : After-self-2-1 → Record
noted c = record { chain = c.index_mut.result.now.chain; readers = c.note.new.self }

pub returns-clause-ok : goal.returns-clause-ok
returns-clause-ok c = let m = c.number_for.new.self in
    on_ok_weaker c.note.result (marked_at (stored_of c.args.self.now) m.keys m.records.items m.spans m.forgotten c.args.key.now c.in_ok-number.number c.index_mut.result.now (noted c) c.args.ts c.args.above c.args.until (here c)
    (λ x j. c.in_ok-number.ensures.marks x j ∙ c.make_room_for.ensures.marks x j)) c.note.ensures.ok

pub returns-clause-err : goal.returns-clause-err
returns-clause-err c = let m = c.number_for.new.self in
    on_err_weaker c.note.result (λ same x j. kept_marks m.keys m.records.items m.spans m.forgotten c.args.key.now c.in_ok-number.number c.index_mut.result.now (noted c) (here c) same x j ∙ c.in_ok-number.ensures.marks x j ∙ c.make_room_for.ensures.marks x j) c.note.ensures.err

pub returns-clause-chains : goal.returns-clause-chains
returns-clause-chains c = let m = c.number_for.new.self in
    λ x. kept_chains m.keys m.records.items m.spans m.forgotten c.args.key.now c.in_ok-number.number c.index_mut.result.now (noted c) (here c) refl x ∙ c.in_ok-number.ensures.chains x ∙ c.make_room_for.ensures.chains x
