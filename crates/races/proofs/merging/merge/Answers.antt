use Rattle.std.proofs.Common.{sym, subst, rules}
use Rattle.std.specs.Prelude.{IsPermutation}
use Rattle.races.proofs.Common.{IsNonDecreasingBy, IsNonDecreasingBy-from_sort_by_key}
use Rattle.races.specs.Merging.{position_of, events_of, IsBreak}
use Rattle.races.proofs.Refusing.{reason}
use Rattle.races.proofs.merging.merge.Goals as goal

pub first_break-requires : goal.first_break-requires
first_break-requires c = record { rising = subst (IsNonDecreasingBy position_of) (sym c.as_slice.ensures.value) (IsNonDecreasingBy-from_sort_by_key position_of _ c.in-Ok-sort_by_key.ensures.sorted (λ a r f k. search rules)) }

pub returns-in-Some-clause-refused : goal.returns-in-Some-clause-refused
returns-in-Some-clause-refused c =
    let rising : IsNonDecreasingBy position_of c.sort_by_key.new.self.items = IsNonDecreasingBy-from_sort_by_key position_of _ c.in-Ok-sort_by_key.ensures.sorted (λ a r f k. search rules) in
    reason (events_of c.args.lists.items) c.sort_by_key.new.self.items c.in-Some.found
    (subst (λ xs. IsPermutation xs c.sort_by_key.new.self.items) c.in-Ok.ensures c.sort_by_key.ensures.permutation)
    rising
    (subst (λ xs. IsBreak xs c.in-Some.found) c.as_slice.ensures.value c.in-Some.ensures.some)
