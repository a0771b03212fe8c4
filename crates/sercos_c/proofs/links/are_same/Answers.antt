use Rattle.std.proofs.Common.{refl}
use Rattle.std.specs.Cmp.{booleans_Decides}
use Rattle.std.proofs.lemmas.Bool.Decides.{same_from_decides}
use Rattle.std.proofs.lemmas.Slice.Eq.{slice_eq-Decides}
use Rattle.sercos_c.proofs.links.are_same.Goals as goal

pub returns : goal.returns
returns c = same_from_decides _ _ c.is_same.ensures (slice_eq-Decides booleans_Decides _ _ _ refl)
