-- What the test of a capture's shape tells.
use Rattle.std.proofs.Common.{◌≡◌, Bool, true, false, ◌&&◌, List, refl}
use Rattle.std.proofs.lemmas.Bool.{false≢true, and_parts, and_from}
use Rattle.sercos_timing.specs.Tests.{TellsValid}
use Rattle.sercos_trace.specs.declared.reading.Line.{Line}
use Rattle.sercos_trace.specs.declared.reading.Line.TheVariants as line
use Rattle.sercos_check.specs.declared.awaited.Awaited.{Awaited}
use Rattle.sercos_check.specs.declared.awaited.Awaited.TheVariants as awaited
use Rattle.sercos_check.specs.Shape.{part_of, IsHeadValid, CanFollow}
use Rattle.sercos_check.specs.Tests.{is_same_part, is_head_valid, can_follow, TellsFollowing}

part_by : (a b : Awaited) → is_same_part a b ≡ true → a ≡ b
part_by awaited.Version awaited.Version e = refl
part_by awaited.Ring awaited.Ring e = refl
part_by awaited.Drive awaited.Drive e = refl
part_by awaited.Order awaited.Order e = refl
part_by awaited.Cycle awaited.Cycle e = refl
part_by awaited.Nothing awaited.Nothing e = refl
part_by _ _ e = absurd (false≢true e)

same_part : (a : Awaited) → is_same_part a a ≡ true
same_part awaited.Version = refl
same_part awaited.Ring = refl
same_part awaited.Drive = refl
same_part awaited.Order = refl
same_part awaited.Cycle = refl
same_part awaited.Nothing = refl

head_by : TellsValid → (before : List Line) (l : Line) → is_head_valid before l ≡ true → IsHeadValid before l
head_by tells before line.Version e = tt
head_by tells before (line.Ring rate cycle control gap drives) e = tt
head_by tells before (line.Drive wish) e = tt
head_by tells before (line.Order addresses) e = (tells _).0 e
head_by tells before (line.Telegram cycle sent) e = tt
head_by tells before line.Other e = tt
head_by tells before line.End e = tt

test_head : TellsValid → (before : List Line) (l : Line) → IsHeadValid before l → is_head_valid before l ≡ true
test_head tells before line.Version is = refl
test_head tells before (line.Ring rate cycle control gap drives) is = refl
test_head tells before (line.Drive wish) is = refl
test_head tells before (line.Order addresses) is = (tells _).1 is
test_head tells before (line.Telegram cycle sent) is = refl
test_head tells before line.Other is = refl
test_head tells before line.End is = refl

follow_by : TellsValid → (before : List Line) (l : Line) → can_follow before l ≡ true → CanFollow before l
unfolding can_follow
follow_by tells before l e = (part_by _ _ (and_parts _ _ e).0, head_by tells before l (and_parts _ _ e).1)

test_follow : TellsValid → (before : List Line) (l : Line) → CanFollow before l → can_follow before l ≡ true
unfolding can_follow
test_follow tells before l can = and_from _ _ (rw can.0 (same_part (part_of l))) (test_head tells before l can.1)

pub tells_following : TellsValid → TellsFollowing
tells_following tells before l = (follow_by tells before l, test_follow tells before l)
