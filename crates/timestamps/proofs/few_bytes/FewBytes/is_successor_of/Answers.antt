use Rattle.std.proofs.Common.{[], ◌∷◌, ◌++◌, ◌≡◌, ◌+◌, ◌<◌, sym, ap, ◌∙◌, arith}
use Rattle.std.proofs.lemmas.Slice.Eq.{bytes_eq-Decides}
use Rattle.timestamps.proofs.Succeeding.{longer_is, place_is}
use Rattle.timestamps.proofs.few_bytes.FewBytes.is_successor_of.Goals as goal

pub returns-then-self-other : goal.returns-then-self-other
returns-then-self-other c =
    let self = c.self.inside in
    let other = c.other.inside in
    let more : self.len ≡ other.len + 1 = omega arith in
    let short : other.len < 24 = omega (arith, c.self.invariant.within) in
    let same = bytes_eq-Decides self.bytes other.bytes in (
      λ yes. sym c.self.view_is ∙ longer_is self.len other.len self.bytes other.bytes c.self.invariant c.other.invariant c.self.told c.other.told more short (same.0 (sym c.eq.ensures ∙ yes)) ∙ ap (λ t. t ++ 0 ∷ []) c.other.view_is,
      λ is. c.eq.ensures ∙ same.1 (place_is self.len other.len self.bytes other.bytes c.self.invariant c.other.invariant c.self.told c.other.told (c.self.view_is ∙ is ∙ ap (λ t. t ++ 0 ∷ []) (sym c.other.view_is))),
    )
