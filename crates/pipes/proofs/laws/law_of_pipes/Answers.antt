use Rattle.std.proofs.Common.{reverse}
use Rattle.pipes.proofs.Common.{Two, transcript_text}
use Rattle.pipes.proofs.Pipes.{kept_text, race_text, run_text, transcript_says}
use Rattle.pipes.proofs.laws.law_of_pipes.Goals as goal

pub returns-clause-served : goal.returns-clause-served
returns-clause-served c = λ f config r r' w w' e s whole. transcript_says s.output (run_text f config r r' w w' e s whole)

pub returns-clause-raced : goal.returns-clause-raced
returns-clause-raced c = λ f sessions text out raced. transcript_says out (race_text f sessions text out raced)

pub returns-clause-kept : goal.returns-clause-kept
returns-clause-kept c = λ d h stands keeps. transcript_says (transcript_text Two (reverse h)) (kept_text d h stands keeps)

pub returns-clause-run_text : goal.returns-clause-run_text
returns-clause-run_text c = run_text

pub returns-clause-race_text : goal.returns-clause-race_text
returns-clause-race_text c = race_text

pub returns-clause-kept_text : goal.returns-clause-kept_text
returns-clause-kept_text c = kept_text
