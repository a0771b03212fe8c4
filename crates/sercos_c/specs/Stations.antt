-- A station that is held, or none.
use Rattle.std.specs.Prelude.{Option}
use base.Fml.{Fml}
use denote.RawPtr.{Ptr}
use Rattle.std.specs.declared.alloc.Global.{Global}
use Rattle.std.specs.contracts.impls.GlobalAllocator.TheImpl.{ghosts}
use Rattle.sercos_c.specs.declared.station.Station.{Station}
use Rattle.sercos_c.specs.contracts.station.Station.{the_row}
use Rattle.sercos_c.specs.Holding.{held_owns}

-- what a station that is held as its pointer owns
abbrev heap : Global
heap = record { memory = record { seal = tt } }

abbrev pub station_owns : Ptr → Option Station → Fml
station_owns p v = held_owns (ghosts.dealloc_token heap) the_row p v
