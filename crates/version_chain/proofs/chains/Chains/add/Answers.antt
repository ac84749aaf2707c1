use Rattle.std.proofs.Common.{◌∙◌, ap, subst, sym, [], ◌∷◌}
use Rattle.read_marks.specs.Readers.{is_kept, readers_of}
use Rattle.version_chain.specs.declared.record.Record.{Record}
use Rattle.version_chain.specs.ByNumber.{IsPlaced, stored}
use Rattle.version_chain.specs.Records.{stored_of}
use Rattle.version_chain.proofs.Recorded.{first_reader, marks_alike, marks_nowhere, put_chain, put_marks}
use Rattle.version_chain.proofs.chains.Chains.add.Goals as goal
use Rattle.version_chain.proofs.chains.Chains.add.Goals.{After-self-2-1}

abbrev one : After-self-2-1 → Record
one c = record { chain = c.args.chain; readers = c.of-readers.result }

at_its_place : (c : After-self-2-1) → IsPlaced c.args.self.now.records.items c.place.new.records.items c.in_ok-number.number (one c)
at_its_place c = subst (λ rs. IsPlaced rs c.place.new.records.items c.in_ok-number.number (one c)) c.reserve.ensures.items c.place.ensures

pub returns-clause-chains : goal.returns-clause-chains
returns-clause-chains c = let m = c.args.self.now in
    put_chain m.keys c.add.new.self m.records.items c.place.new.records.items m.spans m.forgotten c.args.key.now c.in_ok-number.number (record { chain = c.args.chain; readers = c.of-readers.result }) c.in_ok-number.ensures.number c.in_ok-number.ensures.own (at_its_place c)

pub returns-clause-marks : goal.returns-clause-marks
returns-clause-marks c = let m = c.args.self.now in
    marks_alike (stored_of m) (stored c.add.new.self c.place.new.records.items m.spans m.forgotten) c.args.key.now (is_kept m.forgotten (readers_of c.of-readers.result))
    (put_marks m.keys c.add.new.self m.records.items c.place.new.records.items m.spans m.forgotten c.args.key.now c.in_ok-number.number (record { chain = c.args.chain; readers = c.of-readers.result }) c.in_ok-number.ensures.number c.in_ok-number.ensures.own (at_its_place c))
    (λ j. first_reader m.forgotten c.latest.result (readers_of c.of-readers.result) c.of-readers.ensures j ∙ ap (λ l. is_kept m.forgotten (l ∷ []) j) c.latest.ensures ∙ sym (marks_nowhere m.keys m.records.items m.spans m.forgotten c.args.key.now c.requires.new j))
