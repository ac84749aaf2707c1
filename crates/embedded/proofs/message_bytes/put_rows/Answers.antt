use Rattle.std.proofs.Common.{ap, append_assoc, get_or, length, sym, take, ℕ, List, [], ◌∷◌, ◌+◌, ◌++◌, ◌<◌, ◌≡◌, ◌∙◌}
use Rattle.embedded.proofs.Common.{append-nil, flat_map, flat_map-append, take_more}
use Rattle.embedded.specs.Typed.{pair_bytes}
use Rattle.embedded.proofs.message_bytes.put_rows.Goals as goal

-- one row more
pairs_more : (at i : ℕ) (rows : List (List ℕ × List ℕ)) (row : List ℕ × List ℕ) → i < length rows → row ≡ get_or rows i row → flat_map (pair_bytes at) (take (i + 1) rows) ≡ flat_map (pair_bytes at) (take i rows) ++ pair_bytes at row
pairs_more at i rows row low is =
    ap (flat_map (pair_bytes at)) (take_more rows i row low ∙ ap (λ r. take i rows ++ r ∷ []) (sym is))
    ∙ flat_map-append (pair_bytes at) (take i rows) (row ∷ [])
    ∙ ap (λ l. flat_map (pair_bytes at) (take i rows) ++ l) (append-nil (pair_bytes at row))

pub loop-key-preserved : goal.loop-key-preserved
loop-key-preserved c =
    let at = c.args.at in
    let rows = c.args.rows.now in
    let i = c.loop-key.key-index in
    c.in_ok-put_pair.ensures
    ∙ ap (λ l. l ++ pair_bytes at c.loop-key-item.result) c.loop-key.invariant
    ∙ append_assoc c.args.out.now.items (flat_map (pair_bytes at) (take i rows)) (pair_bytes at c.loop-key-item.result)
    ∙ ap (λ l. c.args.out.now.items ++ l) (sym (pairs_more at i rows c.loop-key-item.result c.loop-key-test.true c.loop-key-item.is))
