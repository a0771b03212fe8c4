-- The kinds of lines of a trace, each with its template: B, W and D are numbers up to 255, 65535
-- and 2^32 - 1, S is a signed one of 32 bits, H and R are up to 2048 and 1024 bytes, C and A two
-- and four bytes, I is an identifier number.
use Rattle.std.specs.Prelude.{ℕ, max, if◌then◌else◌, List, [], ◌∷◌, ◌++◌, codes, Option, Some, None, is_none}
use Rattle.sercos_text.specs.declared.tail.Tail.{Tail}
use Rattle.sercos_text.specs.declared.tail.Tail.TheVariants.{End, Addresses, Idents}
use Rattle.sercos_text.specs.Templates.{Value, line_fault, line_text}
use Rattle.sercos_text.specs.Tails.{tail_text}
use Rattle.sercos_trace.specs.declared.kind.LineKind.{LineKind}
use Rattle.sercos_trace.specs.declared.kind.LineKind.TheVariants as kind

unfoldable pub template_of : LineKind → List ℕ
template_of kind.Version = codes "sercos 1"
template_of kind.Ring = codes "ring B W W W B"
template_of kind.Drive = codes "drive B B W W W W W W W W"
template_of kind.Order = codes "order"
template_of kind.Mst = codes "m D S D H"
template_of kind.Phase = codes "p D B B"
template_of kind.At = codes "a D S D H"
template_of kind.Mdt = codes "d D S D H"
template_of kind.Complete = codes "r D W complete R"
template_of kind.Refused = codes "r D W refused 0xC"
template_of kind.Broken = codes "r D W broken"
template_of kind.Plan = codes "plan D t2 W t3 W t4 W mdt W"
template_of kind.Slot = codes "slot D B t1 W position W"
template_of kind.NoFit = codes "stop D nofit"
template_of kind.RuleAt = codes "rule D B drive B at D"
template_of kind.RuleSum = codes "rule D B drive B sum D bound D"
template_of kind.StopRefused = codes "stop D refused B I 0xC"
template_of kind.StopConfig = codes "stop D config B I 0xA"
template_of kind.Check127 = codes "stop D check127 B"
template_of kind.Check128 = codes "stop D check128 B"
template_of kind.FallMst = codes "fall D mst"
template_of kind.FallAt = codes "fall D at B"
template_of kind.FallStep = codes "fall D step B"
template_of kind.FallRestart = codes "fall D restart"
template_of kind.End = codes "end D phase B complete D refused D broken D falls D unseen D"

-- what follows the template: the addresses of the order, the identifier numbers of a check's list,
-- or nothing
unfoldable pub tail_for : LineKind → Tail
tail_for kind.Order = Addresses
tail_for kind.Check127 = Idents
tail_for kind.Check128 = Idents
tail_for _ = End

-- a line with its line feed
abbrev pub line_of : LineKind → List Value → List ℕ
line_of kind values = line_text (template_of kind) values ++ 10 ∷ []

abbrev pub line_with : LineKind → List Value → List ℕ → List ℕ
line_with kind values items = line_text (template_of kind) values ++ tail_text (tail_for kind) items ++ 10 ∷ []

-- all kinds, the most frequent ones first
abbrev pub all_kinds : List LineKind
all_kinds =
    kind.At ∷ kind.Mst ∷ kind.Mdt ∷ kind.Version ∷ kind.Ring ∷ kind.Drive ∷ kind.Order ∷ kind.Phase ∷ kind.Complete ∷ kind.Refused ∷
    kind.Broken ∷ kind.Plan ∷ kind.Slot ∷ kind.NoFit ∷ kind.RuleAt ∷ kind.RuleSum ∷ kind.StopRefused ∷ kind.StopConfig ∷ kind.Check127 ∷
    kind.Check128 ∷ kind.FallMst ∷ kind.FallAt ∷ kind.FallStep ∷ kind.FallRestart ∷ kind.End ∷ []

-- The fault of a line for two kinds. It has none if it has none for one of them; otherwise it is
-- the later offset, that of the first byte at which the line can't continue either.
unfoldable pub later : Option ℕ → Option ℕ → Option ℕ
later None other = None
later (Some place) None = None
later (Some place) (Some other) = Some (max place other)

-- the offset of the first byte at which a line can't continue any kind of the list
unfoldable pub kinds_fault : List LineKind → List ℕ → Option ℕ
kinds_fault [] line = Some 0
kinds_fault (kind ∷ kinds) line = later (line_fault (tail_for kind) (template_of kind) line) (kinds_fault kinds line)

-- the kind of a line: the first for which it has no fault
unfoldable pub first_kind : List LineKind → List ℕ → Option LineKind
first_kind [] line = None
first_kind (kind ∷ kinds) line = if is_none (line_fault (tail_for kind) (template_of kind) line) then Some kind else first_kind kinds line
