-- The machine value of a loose box, and how one is made and taken apart. Assumes `Logic`.
use Rattle.std.proofs.Common.{◌≡◌, List, [], ◌∷◌, refl, true}
use seplogic.Ra.Ura.{Ura}
use mir.Val.{Val, vstruct, vcons, vnil}
use types.Logic.{Logic}
use types.Kit.{Item, Goal, Step, step, Seq, ‵, ◌$◌, drop, fsplit, fjoin}
use denote.RattleType.{RattleType}
use denote.RawPtr.{Ptr, ptr_val}
use denote.Laws.{Is, shows}
use denote.Param.Laws.{Laws}
use denote.Steps.{owned, peeks}
use denote.Struct.Struct.{Struct, Struct-Makes}
use denote.Struct.Owning.{shape}
use Rattle.std.specs.Prelude.{Option, Some, None, is_some}
use Rattle.std.specs.Box.Ownership.{box_owns}
use Rattle.ripsawbean.specs.Handles.{token, keeps}
use Rattle.ripsawbean.specs.contracts.loose.Loose as loose
use Rattle.ripsawbean.proofs.loose.Loose.TheLaws.{lowers}

-- a struct of a pointer
abbrev pub pointer : Ptr → Val
pointer at = vstruct (vcons (ptr_val at) vnil)

module _ (R : RattleType) {M : Type 1} {𝓤 : Ura M} {𝓛 : Logic 𝓤} {K : Type 0} {Γ : List (Item 𝓤)} {G : Goal 𝓤 𝓛.H} where
  -- what a pointer keeps, behind it, is a loose box
  pub loose_in : K → (at : Ptr) (x : Option R.Denot) → Step K 𝓛 (‵ ((loose.the_row R).own_val (record { at = at; value = x }) (pointer at ∷ [])) ∷ Γ) G (‵ (keeps R at x) ∷ Γ) G
  loose_in t at x = step (λ rest.
      owned t (Struct (shape (loose.the_type R))) (Is (Struct (shape (loose.the_type R)))) (Struct-Makes 𝓛 (shape (loose.the_type R)) ((λ p vs. tt), tt)) (at, tt) (pointer at ∷ []) ((ptr_val at ∷ [], tt), (refl, (refl, tt))) $ fjoin t $ rest)

  -- and back
  pub loose_out : K → Laws R → (d : (loose.the_row R).Denot) (vs : List Val) → (vs ≡ pointer d.at ∷ [] → Seq K 𝓛 (‵ (keeps R d.at d.value) ∷ Γ) G) → Seq K 𝓛 (‵ ((loose.the_row R).own_val d vs) ∷ Γ) G
  loose_out t L d vs rest = peeks t (loose.the_row R) (Is (loose.the_row R)) (shows 𝓛 (loose.the_row R)) d vs (λ is. fsplit t $ drop t $ rest ((lowers R L).val_is d vs is))

  -- where there is a value, it is a box's
  pub kept : K → (at : Ptr) (x : Option R.Denot) → is_some x ≡ true → ((y : R.Denot) → x ≡ Some y → Seq K 𝓛 (‵ (box_owns token R at y) ∷ Γ) G) → Seq K 𝓛 (‵ (keeps R at x) ∷ Γ) G
  kept t at (Some y) some rest = rest y refl
  kept t at None some rest = absurd cc
