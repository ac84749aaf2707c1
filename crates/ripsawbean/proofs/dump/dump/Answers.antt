use Rattle.std.proofs.Common.{arith, length, subst}
use Rattle.std.proofs.lemmas.Bool.Decides.{nat_tests}
use Rattle.ripsawbean.proofs.Common.{IsPiece, effects_of}
use Rattle.embedded.specs.declared.dumping.DumpPlace.{DumpPlace}
use Rattle.ripsawbean.proofs.Dumping.{told_here, told_piece}
use Rattle.ripsawbean.proofs.dump.dump.Goals as goal

pub returns-in-Ok-dump_piece : goal.returns-in-Ok-dump_piece
returns-in-Ok-dump_piece c =
    let a = c.args in
    told_here a.database.now a.at a.through a.place.now c.show.new.place a.key.now c.show.new.key a.out.now c.show.new.out c.show.result c.show.new.length (grind (arith, nat_tests)) (grind (arith, nat_tests)) (grind (arith, nat_tests))
    (told_piece a.database.now a.at a.through a.place.now c.show.new.place a.key.now c.show.new.key a.out.now c.show.new.out c.show.result c.show.new.length c.in-Ok-dump_piece.piece
    (λ h held. subst (λ (place : DumpPlace). IsPiece (effects_of h) a.at a.through place (length a.out.now) c.in-Ok-dump_piece.piece) c.in-Ok.ensures (c.in-Ok-dump_piece.ensures.piece h held))
    c.show.ensures)
