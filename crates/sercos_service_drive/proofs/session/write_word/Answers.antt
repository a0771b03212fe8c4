use Rattle.std.proofs.Common.{◌≡◌, ℕ, Bool, List, Option, None, Some, ◌∷◌, [], ◌++◌, ap, sym, ◌∙◌}
use Rattle.sercos_idn.specs.Codes.{is_list}
use Rattle.sercos_block.specs.declared.block.Block.{Block}
use Rattle.sercos_block.specs.Stores.{find_block}
use Rattle.sercos_command.specs.Settings.{is_command}
use Rattle.sercos_service_drive.proofs.WordAnswers.{first_word, kept, at_place, place_at, written_at, error_is, refused_word, kept_word, last_word, refused_data}
use Rattle.sercos_service_drive.proofs.WritingLemmas.{setting, command_is}
use Rattle.sercos_service_drive.proofs.session.write_word.Goals as goal

-- the block that is found is the one that is spoken of
one_block : (b found : Block) → Some found ≡ Some b → b ≡ found
one_block b found is = cc

pub returns-in_err-check_place-clause-word : goal.returns-in_err-check_place-clause-word
returns-in_err-check_place-clause-word c = λ b words there same count started.
    let found = sym c.in-Some.is ∙ c.find.ensures.value ∙ there in
    let most = ap (λ (a : Block). a.max_len) (one_block b _ found) in
    let place = place_at b words c.args.place _ most c.in-Some.ensures.bound started count in
    let first = c.first_word-first.ensures ∙ first_word words c.args.word c.args.place c.args.buffer.now same place in
    let cause = rw c.from.ensures at c.in_err-check_place.ensures in
    rw (error_is _ _ c.from_residual.ensures.1)
    (refused_word c.args.idn.raw c.args.cycle c.args.phase b words c.args.word started c.args.last _ c.args.buffer.now c.args.store.now c.args.commands.now
    (at_place b c.args.phase c.args.last words c.args.word c.args.place c.first_word-first.result (sym cause) found place first))

pub returns-then-not-last-clause-word : goal.returns-then-not-last-clause-word
returns-then-not-last-clause-word c = λ b words there same count started.
    let found = sym c.in-Some.is ∙ c.find.ensures.value ∙ there in
    let most = ap (λ (a : Block). a.max_len) (one_block b _ found) in
    let place = place_at b words c.args.place _ most c.in-Some.ensures.bound started count in
    let first = c.first_word-first.ensures ∙ first_word words c.args.word c.args.place c.args.buffer.now same place in
    let cause = rw c.from.ensures at c.in_ok-check_place.ensures in
    kept_word c.args.idn.raw c.args.cycle c.args.phase b words c.args.word started c.args.last c.push_word.new.buffer c.args.store.now c.args.commands.now c.if-not-last.true
    (at_place b c.args.phase c.args.last words c.args.word c.args.place c.first_word-first.result (sym cause) found place first)
    (kept b words c.args.word _ c.args.buffer.now most c.in-Some.ensures.bound same started c.push_word.ensures)

-- the block of the run is a procedure command
command_of : (blocks : List Block) (raw : ℕ) (b : Block) {o : Option Block} (command : Bool) → o ≡ Some b → o ≡ find_block raw blocks → command ≡ b.attribute.command → command ≡ is_command blocks raw
command_of blocks raw b command some is attribute = command_is blocks raw b command (sym some ∙ is) attribute

pub tell-requires-clause-command : goal.tell-requires-clause-command
tell-requires-clause-command c = λ on.
    let command = command_of c.args.store.now c.args.idn.raw _ c.attribute-attribute.result.command c.in-Some.is c.find.ensures.value (ap (λ a. a.command) c.attribute-attribute.ensures) in
    rw c.in_ok-put.ensures.ok (c.stored_law.ensures.command c.args.idn.raw c.args.idn.raw c.written-bytes.result.now c.args.store.now ∙ sym command ∙ on)

pub tell-requires-clause-setting : goal.tell-requires-clause-setting
tell-requires-clause-setting c = λ on.
    let command = command_of c.args.store.now c.args.idn.raw _ c.attribute-attribute.result.command c.in-Some.is c.find.ensures.value (ap (λ a. a.command) c.attribute-attribute.ensures) in
    setting c.args.idn.raw c.args.phase c.written-bytes.result.now (find_block c.args.idn.raw c.args.store.now) c.in_ok-put.ensures.fault (sym command ∙ on)

pub tell-requires-clause-set : goal.tell-requires-clause-set
tell-requires-clause-set c = rw c.in_ok-put.ensures.ok (c.stored_law.ensures.set c.args.idn.raw c.written-bytes.result.now c.args.store.now c.args.commands.now ∙ c.requires.set)

pub returns-in_err-put-clause-word : goal.returns-in_err-put-clause-word
returns-in_err-put-clause-word c = λ b words there same count started.
    let found = sym c.in-Some.is ∙ c.find.ensures.value ∙ there in
    let one = one_block b _ found in
    let most = ap (λ (a : Block). a.max_len) one in
    let place = place_at b words c.args.place _ most c.in-Some.ensures.bound started count in
    let first = c.first_word-first.ensures ∙ first_word words c.args.word c.args.place c.args.buffer.now same place in
    let cause = rw c.from.ensures at c.in_ok-check_place.ensures in
    let buffer = kept b words c.args.word _ c.args.buffer.now most c.in-Some.ensures.bound same started c.push_word.ensures in
    let list = c.is_list.ensures ∙ ap (λ a. is_list a.length) c.attribute-attribute.ensures ∙ ap (λ (a : Block). is_list a.attribute.length) (sym one) in
    rw (error_is _ _ c.from_residual-in_err-put.ensures.1)
    (refused_data c.args.idn.raw c.args.cycle c.args.phase b words c.args.word started c.args.last _ c.push_word.new.buffer c.written-bytes.result.now c.args.store.now c.put.new.self c.args.commands.now c.if-not-last.false
    (at_place b c.args.phase c.args.last words c.args.word c.args.place c.first_word-first.result (sym cause) found place first)
    buffer
    (written_at b (words ++ c.args.word ∷ []) c.written-bytes.ensures list first c.as_slice.ensures.value buffer)
    (rw there at c.in_err-put.ensures.fault) c.in_err-put.ensures.err)

pub returns-clause-word : goal.returns-clause-word
returns-clause-word c = λ b words there same count started.
    let found = sym c.in-Some.is ∙ c.find.ensures.value ∙ there in
    let one = one_block b _ found in
    let most = ap (λ (a : Block). a.max_len) one in
    let place = place_at b words c.args.place _ most c.in-Some.ensures.bound started count in
    let first = c.first_word-first.ensures ∙ first_word words c.args.word c.args.place c.args.buffer.now same place in
    let cause = rw c.from.ensures at c.in_ok-check_place.ensures in
    let buffer = kept b words c.args.word _ c.args.buffer.now most c.in-Some.ensures.bound same started c.push_word.ensures in
    let list = c.is_list.ensures ∙ ap (λ a. is_list a.length) c.attribute-attribute.ensures ∙ ap (λ (a : Block). is_list a.attribute.length) (sym one) in
    let command = command_of c.args.store.now c.args.idn.raw _ c.attribute-attribute.result.command c.in-Some.is c.find.ensures.value (ap (λ a. a.command) c.attribute-attribute.ensures) in
    let fault = rw there at c.in_ok-put.ensures.fault in
    last_word c.args.idn.raw c.args.cycle c.args.phase b words c.args.word started c.args.last None c.push_word.new.buffer c.written-bytes.result.now c.args.store.now c.tell.new.store c.args.commands.now c.tell.new.commands c.if-not-last.false
    (at_place b c.args.phase c.args.last words c.args.word c.args.place c.first_word-first.result (sym cause) found place first)
    buffer
    (written_at b (words ++ c.args.word ∷ []) c.written-bytes.ensures list first c.as_slice.ensures.value buffer)
    (sym fault)
    (λ history stood. rw (fault, ← command, ← c.in_ok-put.ensures.ok) (c.tell.ensures.blocks history stood))
    (λ history stood. rw (fault, ← command, ← c.in_ok-put.ensures.ok) (c.tell.ensures.commands history stood))
