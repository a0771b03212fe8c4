use Rattle.std.proofs.Common.{◌≡◌, ℕ, ◌/◌, ◌%◌, ◌++◌, Bool, List, [], take, rules, ap, ◌∙◌, arith}
use Rattle.sercos_model.specs.Bits.{bits_of, low_bits}
use Rattle.sercos_c.proofs.FrameLemmas.{fed_rest, fed_whole}
use Rattle.sercos_c.proofs.links.first_bits.Goals as goal

pub returns-then-rest-gt0 : goal.returns-then-rest-gt0
returns-then-rest-gt0 c =
    let whole : c.bits_of.new.out ≡ bits_of (take (c.args.count / 8) c.args.bytes.now) = search rules in
    c.push_number.ensures.bits ∙ ap (λ (bits : List Bool). bits ++ low_bits (c.args.count % 8) c.from.result) whole
    ∙ ap (λ (n : ℕ). bits_of (take (c.args.count / 8) c.args.bytes.now) ++ low_bits (c.args.count % 8) n) c.from.ensures
    ∙ fed_rest c.args.bytes.now [] c.args.count (omega arith) (omega arith)

pub returns-else-rest-gt0 : goal.returns-else-rest-gt0
returns-else-rest-gt0 c =
    let whole : c.bits_of.new.out ≡ bits_of (take (c.args.count / 8) c.args.bytes.now) = search rules in
    whole ∙ fed_whole c.args.bytes.now [] c.args.count (omega arith) (omega arith)
