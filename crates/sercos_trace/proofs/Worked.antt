-- Lines of worked runs, computed from the definitions, each kind once.
use Rattle.std.proofs.Common.{◌≡◌, false, [], ◌∷◌, ◌++◌, Some, refl, codes}
use Rattle.std.specs.Prelude.{pos, negsuc}
use Rattle.std.specs.Fmt.{digits}
use Rattle.hex.specs.Hex.{encode_with}
use Rattle.sercos_idn.specs.Idns.{idn_text, four_digits}
use Rattle.sercos_telegram.specs.declared.layout.Kind.TheVariants as telegram
use Rattle.sercos_step.specs.declared.request.Outcome.TheVariants as outcome
use Rattle.sercos_timing.specs.Views.{WishesView}
use Rattle.sercos_text.specs.Lists.{item_text, list_text}
use Rattle.sercos_text.specs.Tails.{tail_text, idents_text}
use Rattle.sercos_text.specs.Templates.{field_of, value_text, hex_text, part_text, part_left, line_text}
use Rattle.sercos_text.specs.Templates.Value.{number}
use Rattle.sercos_trace.specs.declared.kind.LineKind.TheVariants as kind
use Rattle.sercos_trace.specs.declared.events.Stop.TheVariants as stop
use Rattle.sercos_trace.specs.declared.events.Fall.TheVariants as fall
use Rattle.sercos_trace.specs.Kinds.{template_of, tail_for, line_of}
use Rattle.sercos_trace.specs.Texts.{sent_text, move_text, plan_line, slot_text, ended_text, link_text, bound_text, stopped_text, fell_text, header_text, end_text}

-- a ring of one drive at 4 Mbit/s
abbrev ring : WishesView
ring = record {
  rate = 4;
  cycle = 250;
  control = 250;
  gap = 5;
  order = 0 ∷ [];
  drives = (record { address = 1; slave = 1; times = record { t1min = 10; tatmt = 6; t4min = 20; tatat = 5; tmtsy = 10; tmtsg = 20 }; at_len = 8; record_len = 8 }) ∷ [];
}

head : header_text ring ≡
    codes "sercos 1" ++ 10 ∷ codes "ring 4 250 250 5 1" ++ 10 ∷ codes "drive 1 1 10 6 20 5 10 20 8 8" ++ 10 ∷ codes "order 1" ++ 10 ∷ []
unfolding template_of tail_for line_text part_text part_left field_of value_text hex_text item_text idn_text four_digits list_text tail_text idents_text digits encode_with
head = refl

mst : sent_text 0 (record { kind = telegram.Mst; start = negsuc 48; bits = 49; content = 255 ∷ 0 ∷ [] }) ≡ codes "m 0 -49 49 ff00" ++ 10 ∷ []
unfolding template_of tail_for line_text part_text part_left field_of value_text hex_text item_text idn_text four_digits list_text tail_text idents_text digits encode_with
mst = refl

move : move_text 10 (record { drive = 1; phase = 1; late = false }) ≡ codes "p 10 1 1" ++ 10 ∷ []
unfolding template_of tail_for line_text part_text part_left field_of value_text hex_text item_text idn_text four_digits list_text tail_text idents_text digits encode_with
move = refl

mdt : sent_text 10 (record { kind = telegram.Mdt; start = pos 2600; bits = 72; content = 1 ∷ 0 ∷ 0 ∷ 0 ∷ 0 ∷ [] }) ≡ codes "d 10 2600 72 0100000000" ++ 10 ∷ []
unfolding template_of tail_for line_text part_text part_left field_of value_text hex_text item_text idn_text four_digits list_text tail_text idents_text digits encode_with
mdt = refl

at : sent_text 13 (record { kind = telegram.At; start = pos 1200; bits = 72; content = 1 ∷ 1 ∷ 0 ∷ 0 ∷ 0 ∷ [] }) ≡ codes "a 13 1200 72 0101000000" ++ 10 ∷ []
unfolding template_of tail_for line_text part_text part_left field_of value_text hex_text item_text idn_text four_digits list_text tail_text idents_text digits encode_with
at = refl

planned : plan_line 42 (record { t1 = 10 ∷ []; t2 = 47; t3 = 98; t4 = 230; position = 1 ∷ []; mdt_len = 8 }) ≡ codes "plan 42 t2 47 t3 98 t4 230 mdt 8" ++ 10 ∷ []
unfolding template_of tail_for line_text part_text part_left field_of value_text hex_text item_text idn_text four_digits list_text tail_text idents_text digits encode_with
planned = refl

slot : slot_text 42 ring (record { t1 = 10 ∷ []; t2 = 47; t3 = 98; t4 = 230; position = 1 ∷ []; mdt_len = 8 }) 0 ≡ codes "slot 42 1 t1 10 position 1" ++ 10 ∷ []
unfolding template_of tail_for line_text part_text part_left field_of value_text hex_text item_text idn_text four_digits list_text tail_text idents_text digits encode_with
slot = refl

complete : ended_text 105 1 (outcome.Complete (250 ∷ 255 ∷ 0 ∷ 0 ∷ [])) ≡ codes "r 105 1 complete faff0000" ++ 10 ∷ []
unfolding template_of tail_for line_text part_text part_left field_of value_text hex_text item_text idn_text four_digits list_text tail_text idents_text digits encode_with
complete = refl

complete_write : ended_text 106 1 (outcome.Complete []) ≡ codes "r 106 1 complete -" ++ 10 ∷ []
unfolding template_of tail_for line_text part_text part_left field_of value_text hex_text item_text idn_text four_digits list_text tail_text idents_text digits encode_with
complete_write = refl

refused : ended_text 104 1 (outcome.Refused (record { raw = 0x7005 })) ≡ codes "r 104 1 refused 0x7005" ++ 10 ∷ []
unfolding template_of tail_for line_text part_text part_left field_of value_text hex_text item_text idn_text four_digits list_text tail_text idents_text digits encode_with
refused = refl

broken : ended_text 106 1 outcome.Broken ≡ codes "r 106 1 broken" ++ 10 ∷ []
unfolding template_of tail_for line_text part_text part_left field_of value_text hex_text item_text idn_text four_digits list_text tail_text idents_text digits encode_with
broken = refl

no_fit : line_of kind.NoFit (number 42 ∷ []) ≡ codes "stop 42 nofit" ++ 10 ∷ []
unfolding template_of tail_for line_text part_text part_left field_of value_text hex_text item_text idn_text four_digits list_text tail_text idents_text digits encode_with
no_fit = refl

link : link_text 42 (record { rule = 1; drive = 1; at = 40 }) ≡ codes "rule 42 1 drive 1 at 40" ++ 10 ∷ []
unfolding template_of tail_for line_text part_text part_left field_of value_text hex_text item_text idn_text four_digits list_text tail_text idents_text digits encode_with
link = refl

bound : bound_text 42 (record { links = []; rule = 9; drive = 1; sum = 570; bound = 446 }) ≡ codes "rule 42 9 drive 1 sum 570 bound 446" ++ 10 ∷ []
unfolding template_of tail_for line_text part_text part_left field_of value_text hex_text item_text idn_text four_digits list_text tail_text idents_text digits encode_with
bound = refl

stop_refused : stopped_text 50 (stop.Refused 1 (record { raw = 2 }) (record { raw = 0x7006 })) ≡ codes "stop 50 refused 1 S-0-0002 0x7006" ++ 10 ∷ []
unfolding template_of tail_for line_text part_text part_left field_of value_text hex_text item_text idn_text four_digits list_text tail_text idents_text digits encode_with
stop_refused = refl

stop_config : stopped_text 50 (stop.BadConfig 1 (record { raw = 51 }) 0x00550001) ≡ codes "stop 50 config 1 S-0-0051 0x00550001" ++ 10 ∷ []
unfolding template_of tail_for line_text part_text part_left field_of value_text hex_text item_text idn_text four_digits list_text tail_text idents_text digits encode_with
stop_config = refl

stop_check : stopped_text 105 (stop.Check128 1 (record { items = (record { raw = 32778 }) ∷ [] })) ≡ codes "stop 105 check128 1 P-0-0010" ++ 10 ∷ []
unfolding template_of tail_for line_text part_text part_left field_of value_text hex_text item_text idn_text four_digits list_text tail_text idents_text digits encode_with
stop_check = refl

stop_check_none : stopped_text 95 (stop.Check127 1 (record { items = [] })) ≡ codes "stop 95 check127 1 -" ++ 10 ∷ []
unfolding template_of tail_for line_text part_text part_left field_of value_text hex_text item_text idn_text four_digits list_text tail_text idents_text digits encode_with
stop_check_none = refl

fall_mst : fell_text 121 fall.MstLost ≡ codes "fall 121 mst" ++ 10 ∷ []
unfolding template_of tail_for line_text part_text part_left field_of value_text hex_text item_text idn_text four_digits list_text tail_text idents_text digits encode_with
fall_mst = refl

fall_at : fell_text 121 (fall.AtLost 1) ≡ codes "fall 121 at 1" ++ 10 ∷ []
unfolding template_of tail_for line_text part_text part_left field_of value_text hex_text item_text idn_text four_digits list_text tail_text idents_text digits encode_with
fall_at = refl

fall_step : fell_text 76 (fall.StepLimit 1) ≡ codes "fall 76 step 1" ++ 10 ∷ []
unfolding template_of tail_for line_text part_text part_left field_of value_text hex_text item_text idn_text four_digits list_text tail_text idents_text digits encode_with
fall_step = refl

fall_restart : fell_text 120 fall.Restart ≡ codes "fall 120 restart" ++ 10 ∷ []
unfolding template_of tail_for line_text part_text part_left field_of value_text hex_text item_text idn_text four_digits list_text tail_text idents_text digits encode_with
fall_restart = refl

ended : end_text (record { cycles = 300; phase = 4; complete = 1; refused = 0; broken = 0; falls = 0; unseen = 0; phase4 = Some 100 }) ≡ codes "end 300 phase 4 complete 1 refused 0 broken 0 falls 0 unseen 0" ++ 10 ∷ []
unfolding template_of tail_for line_text part_text part_left field_of value_text hex_text item_text idn_text four_digits list_text tail_text idents_text digits encode_with
ended = refl
