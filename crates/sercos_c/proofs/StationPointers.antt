-- The machine values of a `StationPointer`.
use Rattle.std.proofs.Common.{◌≡◌, List, [], ◌∷◌, ◌++◌, refl, subst}
use mathlib.Core.Bool.{true, ◌&&◌}
use lib.Dec.{T, lit<}
use seplogic.Ra.Ura.{Ura}
use mir.Syntax.{ty_ptr}
use mir.Val.{Val, vstruct, vcons, vnil, of_list, has_ty, WT}
use types.Logic.{Logic}
use types.Kit.{Item, Goal, Seq, Step, step, ‵, ◌$◌, drop, fsplit, fjoin, fpick, fpack, feq_i, feq_l}
use denote.RattleType.{Valss}
use denote.Builtin.{RawPtr}
use denote.RawPtr.{Ptr, block_ptr, null_ptr, ptr_val}
use denote.Steps.{nothing}
use denote.Struct.Struct.{within}
use denote.Struct.Owning.{shape}
use Rattle.std.specs.declared.option.Option.{Option}
use Rattle.sercos_c.specs.declared.station.Station.{Station}
use Rattle.sercos_c.specs.Stations.{station_owns}
use Rattle.sercos_c.specs.contracts.pointer.StationPointer as pointer

abbrev pub lone_val : Val → Val
lone_val v = vstruct (vcons v vnil)

pub lone_good : (p : Ptr) → T (has_ty ty_ptr (ptr_val p) && true) × WT (lone_val (ptr_val p))
lone_good null_ptr = (tt, (record { fits = lit< tt }, tt))
lone_good (block_ptr b o) = (tt, (tt, tt))

module _ {M : Type 1} {𝓤 : Ura M} {𝓛 : Logic 𝓤} {K : Type 0} {Γ : List (Item 𝓤)} {G : Goal 𝓤 𝓛.H} where
  pub pointer_open : K → (d : (pointer.the_row).Denot) (vs : List Val)
      → (vs ≡ lone_val (ptr_val d.at) ∷ [] → Seq K 𝓛 (‵ (station_owns d.at d.value) ∷ Γ) G)
      → Seq K 𝓛 (‵ ((pointer.the_row).own_val d vs) ∷ Γ) G
  pointer_open t d vs k =
      fsplit t $ fpick t (λ vss. fsplit t $ feq_l t (λ ev. fsplit t $ feq_l t (λ ep. drop t $ k
      (subst (λ (ps : List Val). vs ≡ vstruct (of_list (ps ++ [])) ∷ []) ep ev))))

  pub pointer_in : K → (p : Ptr) (v : Option Station)
      → Step K 𝓛 (‵ ((pointer.the_row).own_val (record { at = p; value = v }) (lone_val (ptr_val p) ∷ [])) ∷ Γ) G (‵ (station_owns p v) ∷ Γ) G
  pointer_in t p v = step (λ s. let w : Val = lone_val (ptr_val p) in
      nothing t $ feq_i t (List Val) (ptr_val p ∷ []) (ptr_val p ∷ []) refl $ fjoin t $ feq_i t (List Val) (w ∷ []) (w ∷ []) refl $ fjoin t $
      fpack t (Valss (RawPtr ∷ [])) (within (shape pointer.the_type) (p, tt) (w ∷ [])) (ptr_val p ∷ [], tt) $ fjoin t $ s)
