use Rattle.std.proofs.Common.{ℕ, List, length, ap, ◌∙◌}
use Rattle.std.specs.Prelude.{◌==◌}
use Rattle.spelled_words.proofs.Splitting.{words_none}
use Rattle.spelled_words.proofs.words.Words.is_empty.Goals as goal

pub returns : goal.returns
returns c = words_none c.self.inside.rest c.is_none.result c.is_none.ensures ∙ ap (λ (ws : List (List ℕ)). length ws == 0) c.self.view_is
