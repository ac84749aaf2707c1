use Rattle.std.proofs.Common.{◌≤◌, arith}
use Rattle.embedded.proofs.Common.{effects_of, mark_of}
use Rattle.embedded.specs.declared.dumping.DumpPiece.{DumpPiece}
use Rattle.embedded.specs.Dumping.{IsPiece}
use Rattle.embedded.proofs.DumpPieces.{piece_of_texts, rest_of}
use Rattle.embedded.proofs.DumpRows.{whole_left}
use Rattle.embedded.proofs.database.Database.dump_piece.Goals as goal

pub returns-then-end-place-clause-whole : goal.returns-then-end-place-clause-whole
returns-then-end-place-clause-whole c = λ h held. whole_left (effects_of h) (mark_of (effects_of h) c.args.at)

pub returns-in_err-next-clause-whole : goal.returns-in_err-next-clause-whole
returns-in_err-next-clause-whole c = λ h held. whole_left (effects_of h) (mark_of (effects_of h) c.args.at)

pub returns-clause-whole : goal.returns-clause-whole
returns-clause-whole c = λ h held. whole_left (effects_of h) (mark_of (effects_of h) c.args.at)

pub returns-clause-rest : goal.returns-clause-rest
returns-clause-rest c = λ h held.
    let p = effects_of h in
    let a = c.args in
    let end = c.dump_end-end.ensures h held in
    let piece : DumpPiece = record { text = c.put_texts.new.text; next = c.in_ok-next.next } in
    let high : a.place.ts ≤ c.dump_end-end.result.through = omega (arith, c.if-end-place.false) in
    let is : IsPiece p a.at a.through a.place a.room piece = piece_of_texts p a.at a.through a.room c.dump_end-end.result end a.place piece high (c.in_ok-next.ensures h held end.told) in
    rest_of p a.at a.through a.room a.place piece is
