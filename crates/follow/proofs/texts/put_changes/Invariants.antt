use Rattle.std.proofs.Common.{◌≡◌, ◌++◌}
use Rattle.follow.proofs.Common.{flat_map, view_in}
use Rattle.follow.specs.Reports.{change_line}
use Rattle.follow.proofs.texts.put_changes.Given as goal

abbrev pub invariant-loop-key : goal.invariant-loop-key
invariant-loop-key l =
    l.out.items ++ flat_map (λ x. change_line x (view_in l.fn.replica x)) l.key-iterator ≡ l.initial.out.items ++ flat_map (λ x. change_line x (view_in l.fn.replica x)) l.fn.changed.keys
