-- What is kept stands for the telegrams so far: the rules by what is kept, and one more telegram.
use Rattle.std.proofs.Common.{◌≡◌, ℕ, ◌<◌, List, refl}
use Rattle.sercos_telegram.specs.declared.layout.Kind.{Kind}
use Rattle.sercos_telegram.specs.declared.layout.Kind.TheVariants as telegram
use Rattle.sercos_timing.specs.Views.{WishesView}
use Rattle.sercos_trace.specs.Views.{SentView}
use Rattle.sercos_check.specs.Seen.{Told, address_of, slave_of}
use Rattle.sercos_check.specs.Rules.{first_broken, broken_rule, keeps_recovery, keeps_transition, order_of}
use Rattle.sercos_check.specs.Kept.{SeenState, SeenStandsFor, kept_by, order_by, recovery_by, transition_by}

order_stands : (v : SeenState) (w : WishesView) (before : List Told) (cycle : ℕ) (s : SentView) (kind : Kind) → address_of s < 256 → SeenStandsFor v w before →
    order_by kind v cycle s ≡ order_of kind w before (record { cycle = cycle; sent = s })
order_stands v w before cycle s telegram.Mst byte stands = rw stands.command_is refl
order_stands v w before cycle s telegram.At byte stands = rw (stands.command_is, stands.newest_is, stands.mdt_is, stands.heard_is (address_of s) byte) refl
order_stands v w before cycle s telegram.Mdt byte stands = rw (stands.command_is, stands.newest_is, stands.mdt_is) refl

recovery_stands : (v : SeenState) (w : WishesView) (before : List Told) (s : SentView) → slave_of w s < 256 → SeenStandsFor v w before →
    recovery_by v w s ≡ keeps_recovery w before s
recovery_stands v w before s byte stands = rw (stands.command_is, stands.marks_are (slave_of w s) byte) refl

transition_stands : (v : SeenState) (w : WishesView) (before : List Told) (s : SentView) → SeenStandsFor v w before →
    transition_by v s ≡ keeps_transition w before s
transition_stands v w before s stands = rw (stands.command_is, stands.free_is s.start) refl

pub broken_stands : (v : SeenState) (w : WishesView) (before : List Told) (cycle : ℕ) (s : SentView) → address_of s < 256 → slave_of w s < 256 → SeenStandsFor v w before →
    first_broken (kept_by v w cycle s) ≡ broken_rule w before (record { cycle = cycle; sent = s })
broken_stands v w before cycle s address slave stands =
    rw (order_stands v w before cycle s s.kind address stands, recovery_stands v w before s slave stands, transition_stands v w before s stands, stands.newest_is, stands.command_is) refl
