use Rattle.std.proofs.Common.{ap, sym, ◌∙◌}
use Rattle.spans.specs.Keys.{insert_key}
use Rattle.follow.specs.Reports.{named_with}
use Rattle.spans.proofs.Sets.{put_is}
use Rattle.follow.proofs.telling.Telling.note.Goals as goal

pub returns-in_ok-insert-in-Row-Changes-clause-named : goal.returns-in_ok-insert-in-Row-Changes-clause-named
returns-in_ok-insert-in-Row-Changes-clause-named c = λ changes. let keys = c.args.self.now.changed.keys in
    c.in_ok-insert-in-Row-Changes.ensures.keys
    ∙ (put_is c.in_ok-key-in-Row-Changes.key keys
    ∙ (ap (λ x. insert_key x keys) c.in_ok-key-in-Row-Changes.ensures.bytes ∙ ap (named_with keys) (sym c.in-Row-Changes.is-0)))
