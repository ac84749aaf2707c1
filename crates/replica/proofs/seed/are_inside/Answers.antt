use Rattle.std.proofs.Common.{◌≡◌, ℕ, List, rules}
use Rattle.std.proofs.lemmas.Iterator.{YieldsList-from_slice}
use Rattle.std.proofs.lemmas.Iterator.Search.{all_from_yields_List}
use Rattle.replica.proofs.Common.{in_span, list_all}
use Rattle.replica.proofs.Rising.{inside_is}
use Rattle.replica.proofs.seed.are_inside.Goals as goal

pub returns : goal.returns
returns c =
    let all : c.all.result ≡ list_all (λ (e : List ℕ × List ℕ). in_span c.args.span.now e.0) c.args.rows.now =
    all_from_yields_List _ _ _ _ c.all.ensures.ran (YieldsList-from_slice c.args.rows.now cc) (λ x b q k. search rules) in
    rw all (inside_is c.args.span.now c.args.rows.now)
