-- The machine value of a handle: its shape and its type. Assumes `Logic`.
use Rattle.std.proofs.Common.{Bool, List, [], ◌∷◌, refl, lit<}
use Rattle.std.specs.Prelude.{true, ◌&&◌}
use lib.Dec.{T}
use seplogic.Ra.Ura.{Ura}
use mir.Syntax.{ty_ptr}
use mir.Val.{Val, vstruct, vcons, vnil, vbool, has_ty_of, WT}
use types.Logic.{Logic}
use types.Kit.{Item, Goal, Step, step, Seq, ‵, ◌$◌, move, fjoin, fpack, feq_i}
use denote.RattleType.{RattleType, Valss}
use denote.RawPtr.{Ptr, ptr_val, block_ptr, null_ptr}
use denote.Steps.{nothing}
use denote.Struct.Declared.{shape as declared}
use denote.Struct.Tuple.{Tuple, tuple_type}
use denote.Builtin.{bool}
use denote.Struct.Struct.{within}

-- a struct of a pointer and of whether it is open
abbrev pub words : Ptr → Bool → Val
words at open' = vstruct (vcons (ptr_val at) (vcons (vbool open') vnil))

-- a pair
abbrev pub pair : Val → Val → Val
pair u v = vstruct (vcons u (vcons v vnil))

-- a pointer has its type
pub typed : (at : Ptr) → T (has_ty_of ty_ptr (ptr_val at)) × WT (ptr_val at)
typed (block_ptr b o) = (tt, tt)
typed null_ptr = (tt, record { fits = lit< tt })

pub typed_in : (at : Ptr) → T (has_ty_of ty_ptr (ptr_val at) && true)
typed_in (block_ptr b o) = tt
typed_in null_ptr = tt

pub typed_pair : (at : Ptr) → T ((has_ty_of ty_ptr (ptr_val at) && true) && true)
typed_pair (block_ptr b o) = tt
typed_pair null_ptr = tt

module _ {M : Type 1} {𝓤 : Ura M} {𝓛 : Logic 𝓤} {K : Type 0} {Γ : List (Item 𝓤)} {G : Goal 𝓤 𝓛.H} where
  -- a flag, and what is owned of another value, are a pair
  pub pair_in : K → (b : Bool) (R : RattleType) (x : R.Denot) (v : Val) → Step K 𝓛 (‵ ((Tuple (bool ∷ R ∷ [])).own_val (b, x) (pair (vbool b) v ∷ [])) ∷ Γ) G (‵ (R.own_val x (v ∷ [])) ∷ Γ) G
  pair_in t b R x v = step (λ rest. nothing t $ move t (1 ∷ 0 ∷ []) $ fjoin t $ feq_i t (List Val) (vbool b ∷ []) (vbool b ∷ []) refl $ fjoin t $ feq_i t (List Val) (pair (vbool b) v ∷ []) (pair (vbool b) v ∷ []) refl $ fjoin t $
      fpack t (Valss (bool ∷ R ∷ [])) (within (declared (tuple_type (bool ∷ R ∷ []))) (b, (x, tt)) (pair (vbool b) v ∷ [])) (vbool b ∷ [], (v ∷ [], tt)) $ rest)
