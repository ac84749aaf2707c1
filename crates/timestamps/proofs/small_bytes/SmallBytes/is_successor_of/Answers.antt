use Rattle.std.proofs.Common.{[], ◌∷◌, ◌++◌, ◌≡◌, sym, ap, ◌∙◌, arith, false, length, rules, true}
use Rattle.std.proofs.lemmas.Bool.Decides.{nat_tests}
use Rattle.timestamps.proofs.Succeeding.{no_successor, successor_is, zero_behind}
use Rattle.timestamps.proofs.small_bytes.SmallBytes.is_successor_of.Goals as goal

pub returns-in-None : goal.returns-in-None
returns-in-None c = (
  λ yes. (let never : false ≡ true = yes in cc),
  λ is. no_successor c.as_slice.result.now c.as_slice-2.result.now c.in-None.ensures.cases (c.as_slice.ensures ∙ is ∙ ap (λ t. t ++ 0 ∷ []) (sym c.as_slice-2.ensures)),
)

pub returns-then-behind-eq1 : goal.returns-then-behind-eq1
returns-then-behind-eq1 c =
    let bytes = c.as_slice.result.now in
    let others = c.as_slice-2.result.now in
    let behind = c.in-Some.behind.now in
    let one : length behind ≡ 1 = search rules in
    let cases = c.in-Some.ensures.cases in (
      λ zero. sym c.as_slice.ensures ∙ successor_is bytes others behind cases.0 cases.1 one (grind (arith, nat_tests)) ∙ ap (λ t. t ++ 0 ∷ []) c.as_slice-2.ensures,
      λ is. (let nought = zero_behind bytes others behind cases.1 (c.as_slice.ensures ∙ is ∙ ap (λ t. t ++ 0 ∷ []) (sym c.as_slice-2.ensures)) in grind (arith, nat_tests)),
    )
