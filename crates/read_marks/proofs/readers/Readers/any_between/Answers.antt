use Rattle.std.proofs.Common.{arith, rules, leb-true, le-leb, Some, ◌≡◌, ◌<◌, ◌≤◌, ◌-◌, get_or, length, slice_get, sym}
use Rattle.std.proofs.lemmas.List.{get_or_default}
use Rattle.read_marks.proofs.Between.{first_up_to, has_first, has_latest, none_above_latest, place_inside}
use Rattle.read_marks.proofs.readers.Readers.any_between.Goals as goal

pub returns-then-latest-above : goal.returns-then-latest-above
returns-then-latest-above c =
    let xs = c.args.self.now.list.items in
    let is : slice_get xs (length xs - 1) ≡ Some c.in-Some.latest.now = rw (← c.as_slice-list.ensures) (sym c.in-Some.ensures.value) in
    (λ f. cc f, λ b. absurd (none_above_latest xs c.in-Some.latest.now is c.args.above c.args.to c.args.self.now.rising c.if-latest-above.true b))

pub returns-in_default-to : goal.returns-in_default-to
returns-in_default-to c =
    let xs = c.args.self.now.list.items in
    let is : slice_get xs (length xs - 1) ≡ Some c.in-Some.latest.now = rw (← c.as_slice-list.ensures) (sym c.in-Some.ensures.value) in
    rw c.in_default-to.is (λ _. has_latest xs c.in-Some.latest.now is c.args.above (omega (arith, c.if-latest-above.false)), λ b. search rules)

pub returns : goal.returns
returns c =
    let xs = c.args.self.now.list.items in
    let at = c.count_through-at.result in
    let latest : slice_get xs (length xs - 1) ≡ Some c.in-Some.latest.now = rw (← c.as_slice-list.ensures) (sym c.in-Some.ensures.value) in
    let lt : c.count_through-at.result < length xs = place_inside xs c.in-Some.latest.now latest c.args.above _ c.count_through-at.ensures.splits (omega (arith, c.if-latest-above.false)) in
    let is : get_or xs at 0 ≡ get_or xs at (get_or xs at 0) = get_or_default xs at 0 (get_or xs at 0) lt in
    rw (c.in-Some-to.is, c.as_slice-list.ensures) (λ t. has_first _ _ _ (Some c.in-Some-to.top) (get_or xs at 0) c.count_through-at.ensures.splits lt is (leb-true (get_or xs at 0) c.in-Some-to.top t), λ b. let h : get_or xs at 0 ≤ c.in-Some-to.top = first_up_to _ _ _ _ _ c.args.self.now.rising c.count_through-at.ensures.splits lt is b in le-leb (get_or xs at 0) c.in-Some-to.top h)
