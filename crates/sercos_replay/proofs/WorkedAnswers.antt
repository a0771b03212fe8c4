-- Inputs and texts that are worked out by hand. The checker computes them from the definitions.
use Rattle.std.proofs.Common.{◌≡◌, [], ◌∷◌, codes, Some, None, refl}
use Rattle.std.specs.Prelude.{pos, negsuc}
use Rattle.std.specs.Fmt.{digits}
use Rattle.hex.specs.Hex as Hex
use Rattle.sercos_io.specs.declared.status.Status.TheVariants.{Done, No, Refused}
use Rattle.sercos_telegram.specs.declared.layout.Kind.TheVariants as telegram
use Rattle.sercos_replay.specs.Divided.{capture_place, divided}
use Rattle.sercos_replay.specs.Replaying.{kind_name, place_line, sent_text, sent_line, place_text, number_line, place_answer, parts_answer, replay_answer}

-- the first such line divides, and it may come first or last
first : divided (codes "a\ncapture\nb\ncapture\nc\n") ≡ Some (codes "a\n", codes "b\ncapture\nc\n")
unfolding divided capture_place
first = refl

at_once : divided (codes "capture\nb") ≡ Some ([], codes "b")
unfolding divided capture_place
at_once = refl

at_last : divided (codes "a\ncapture") ≡ Some (codes "a\n", [])
unfolding divided capture_place
at_last = refl

-- a line with something before or after the word isn't one
within : divided (codes "a capture\n capture\ncaptured\ncapture \n") ≡ None
unfolding divided capture_place
within = refl

undivided : replay_answer 1 (codes "a\n") ≡ record { status = Refused; output = codes "refused 9 capture\n" }
unfolding replay_answer parts_answer divided capture_place
undivided = refl

agrees : place_answer None 300 ≡ record { status = Done; output = codes "agrees 300\n" }
unfolding place_answer number_line digits
agrees = refl

-- an AT that says something else
at_differs : place_answer (Some (record {
  cycle = 13;
  kind = telegram.At;
  expected = Some (record { kind = telegram.At; start = pos 1200; bits = 72; content = 1 ∷ 1 ∷ 0 ∷ 0 ∷ 0 ∷ [] });
  found = Some (record { kind = telegram.At; start = pos 1200; bits = 72; content = 1 ∷ 0 ∷ 0 ∷ 0 ∷ 0 ∷ [] });
})) 300 ≡ record { status = No; output = codes "differs cycle 13 at\nexpected 1200 0101000000\nfound 1200 0100000000\n" }
unfolding place_answer place_text place_line kind_name sent_line sent_text digits Hex.encode_with
at_differs = refl

-- an MST that says something else, and an MDT that isn't sent
mst_differs : place_text (record {
  cycle = 0;
  kind = telegram.Mst;
  expected = Some (record { kind = telegram.Mst; start = negsuc 48; bits = 49; content = 255 ∷ 0 ∷ [] });
  found = Some (record { kind = telegram.Mst; start = negsuc 49; bits = 50; content = 255 ∷ 3 ∷ [] });
}) ≡ codes "differs cycle 0 mst\nexpected -49 ff00\nfound -50 ff03\n"
unfolding place_text place_line kind_name sent_line sent_text digits Hex.encode_with
mst_differs = refl

mdt_missing : place_text (record {
  cycle = 7;
  kind = telegram.Mdt;
  expected = Some (record { kind = telegram.Mdt; start = pos 2600; bits = 72; content = 1 ∷ 15 ∷ 0 ∷ 3 ∷ 0 ∷ [] });
  found = None;
}) ≡ codes "differs cycle 7 mdt\nexpected 2600 010f000300\nfound none\n"
unfolding place_text place_line kind_name sent_line sent_text digits Hex.encode_with
mdt_missing = refl
