-- Whether a telegram is of a kind.
use Rattle.std.specs.Prelude.{Bool, true, false}
use Rattle.sercos_telegram.specs.declared.layout.Kind.{Kind}
use Rattle.sercos_telegram.specs.declared.layout.Kind.TheVariants.{Mst, At, Mdt}

abbrev pub is_mst : Kind → Bool
is_mst Mst = true
is_mst _ = false

abbrev pub is_at : Kind → Bool
is_at At = true
is_at _ = false

abbrev pub is_mdt : Kind → Bool
is_mdt Mdt = true
is_mdt _ = false
