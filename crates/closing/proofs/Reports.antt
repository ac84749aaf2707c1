-- The protections of rising numbers are the protections that stand, with the oldest first.
use Rattle.std.proofs.Common.{List, [], ap, map, refl, reverse, sym, ℕ, ◌∙◌, ◌∷◌, ◌≡◌}
use Rattle.closing.proofs.Common.{protection_report, reverse-append}
use Rattle.closing.specs.Standing.{entry_report, newest_first, protection}

pub oldest_first : (es : List (ℕ × ℕ)) → map entry_report es ≡ map protection_report (reverse (newest_first es))
oldest_first [] = refl
oldest_first (e ∷ es) = ap (λ l. entry_report e ∷ l) (oldest_first es) ∙ ap (map protection_report) (sym (reverse-append (newest_first es) (protection e.0 e.1 ∷ [])))
