-- The program's heap as an allocator: its row, its methods, and that they meet their contracts. Assumes `Logic`.
use Rattle.std.proofs.Common.{[], ◌∷◌, refl}
use mir.Raw.{raw as bare}
use mir.Syntax.{Ty, Dict, impl, tcons, tnil, dnil}
use denote.RattleType.{RattleType}
use denote.Exit.{no}
use denote.Param.{layout, arg}
use denote.Param.Laws.{Laws, arg_laws}
use Rattle.ripsawbean.proofs.Common.{Al, dict, ghosts}
use Rattle.std.proofs.alloc.Global.TheLaws as global_laws
use Rattle.std.proofs.BoxSteps.Form.{Bx}
use Rattle.std.specs.contracts.alloc.Global as global
use Rattle.std.specs.contracts.boxed.Box as boxes

-- an allocator as a generic call is passed it
abbrev δ : Ty
δ = bare (layout global.the_row)

abbrev pub Z : RattleType
Z = arg δ no global.the_row

abbrev pub LZ : Laws Z
LZ = arg_laws δ no global.the_row global_laws.the_row_laws refl

-- what is run where an allocator is let go: nothing
abbrev pub lets_go : Dict
lets_go = impl ("ripsawbean::Destruct++none::drop" ∷ []) (tcons (layout Z) tnil) dnil

abbrev pub heap : Al
heap = record { row = Z; laws = LZ; g = ghosts; d = dict; drops = lets_go }

-- a box on the heap, at a value's row
abbrev pub boxed : (T : RattleType) → Laws T → Bx
boxed T L = record { row = T; laws = L; al = heap }

abbrev pub Boxed : RattleType → RattleType
Boxed R = boxes.the_row R global.the_row ghosts
