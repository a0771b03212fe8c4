-- The effect of a script of faults on a telegram on its way through the ring, and which stations
-- restart. A script is a list of faults. A telegram takes the links of its path one after the
-- other, and on each link the faults of that link act in the order of the script.
use Rattle.std.specs.Prelude.{ℕ, ◌+◌, ◌-◌, ◌%◌, ◌==◌, nat_lt, nat_le, Bool, true, false, not, ◌&&◌, if◌then◌else◌, List, [], ◌∷◌, suc, zero, length, take, slice_index_or, slice_set, Option, Some, None, option_and_then}
use Rattle.std.specs.List.{filter, list_any}
use Rattle.sercos_telegram.specs.declared.layout.Kind.{Kind}
use Rattle.sercos_telegram.specs.declared.layout.Kind.TheVariants as kinds
use Rattle.sercos_script.specs.declared.link.Passage.{Passage}
use Rattle.sercos_script.specs.declared.fault.Damage.{Damage}
use Rattle.sercos_script.specs.declared.fault.Damage.TheVariants.{Lose, Flip, Cut, Deaf, Restart}
use Rattle.sercos_script.specs.declared.fault.Fault.{Fault}
use Rattle.sercos_script.specs.Links.{Carry, Restarts}

-- Whether two kinds are the same.
abbrev pub is_kind : Kind → Kind → Bool
is_kind kinds.Mst kinds.Mst = true
is_kind kinds.At kinds.At = true
is_kind kinds.Mdt kinds.Mdt = true
is_kind _ _ = false

-- A fault acts in the cycles from its first to its last whose distance from the first is a multiple
-- of `every`. The only multiple of 0 is 0 (x % 0 is x), so a fault with `every` 0 acts in its first
-- cycle alone.
unfoldable pub acts : ℕ → Fault → Bool
acts cycle f = nat_le f.cycle cycle && (nat_le cycle f.last && ((cycle - f.cycle) % f.every == 0))

-- A fault concerns the telegrams of its kind from its sender in the cycles in which it acts.
abbrev pub concerns : Passage → Fault → Bool
concerns p f = acts p.cycle f && (is_kind f.kind p.kind && (f.from == p.from))

-- The bits with one of them complemented, if they have it. Indices are counted from 0.
abbrev pub flipped : ℕ → List Bool → List Bool
flipped place bits = if nat_lt place (length bits) then slice_set bits place (not (slice_index_or bits place false)) else bits

-- What leaves a link of the bits that enter it, if one fault acts on them. A fault of another link
-- changes nothing, nor does one that makes a station deaf or restarts it.
abbrev pub over_fault : Damage → ℕ → List Bool → Option (List Bool)
over_fault (Lose at) link bits = if at == link then None else Some bits
over_fault (Flip at bit) link bits = if at == link then Some (flipped bit bits) else Some bits
over_fault (Cut at bit) link bits = if at == link then Some (take bit bits) else Some bits
over_fault (Deaf station) link bits = Some bits
over_fault (Restart station) link bits = Some bits

-- What leaves a link if these faults act, in their order. Once nothing is left, no later fault
-- brings anything back.
abbrev pub over_link : List Fault → ℕ → List Bool → Option (List Bool)
over_link [] link bits = Some bits
over_link (f ∷ faults) link bits = option_and_then (over_link faults link) (over_fault f.damage link bits)

-- What leaves the last of `count` links, from the link with this number on.
abbrev pub over_links : List Fault → ℕ → ℕ → List Bool → Option (List Bool)
over_links faults link zero bits = Some bits
over_links faults link (suc more) bits = option_and_then (over_links faults (link + 1) more) (over_link faults link bits)

-- Whether a damage makes a station deaf.
abbrev pub is_deaf : ℕ → Damage → Bool
is_deaf station (Deaf at) = at == station
is_deaf station _ = false

-- The number of links from one station to another, in a ring of `stations` drives. Link 0 leads
-- from the master to the first drive, link k from drive k to the next, and the last link back to
-- the master. So a telegram takes the links from the number of its sender up to the one before the
-- number of its receiver; at the end of the ring the master counts as station n + 1.
abbrev pub links_between : ℕ → ℕ → ℕ → ℕ
links_between stations from to = (if to == 0 then stations + 1 else to) - from

-- What arrives of the bits of a passage in a ring of `stations` drives, if these faults act on it:
-- nothing if one of them makes the receiver deaf, and otherwise what leaves the last link of the
-- path.
abbrev pub carried_by : ℕ → List Fault → Passage → List Bool → Option (List Bool)
carried_by stations faults p bits =
    if list_any (λ (f : Fault). is_deaf p.to f.damage) faults then None
    else over_links faults p.from (links_between stations p.from p.to) bits

-- What arrives under a script: only the faults that concern the passage act on it.
unfoldable pub carried : ℕ → List Fault → Carry
carried stations faults p bits = carried_by stations (filter (concerns p) faults) p bits

-- Whether a damage is a restart of a station.
abbrev pub is_restart : ℕ → Damage → Bool
is_restart station (Restart at) = at == station
is_restart station _ = false

-- Whether a station restarts in a cycle under a script: one of the faults is a restart of it and
-- acts. Several restarts of one station in one cycle are one.
unfoldable pub restarts_at : List Fault → Restarts
restarts_at faults cycle station = list_any (λ (f : Fault). acts cycle f && is_restart station f.damage) faults

-- A script and the number of drives of its ring.
pub record ScriptView : Type 0 where
  pub faults : List Fault
  pub stations : ℕ
