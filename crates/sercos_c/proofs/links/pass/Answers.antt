use Rattle.std.proofs.Common.{◌≡◌, ℕ, ◌++◌, ◌/◌, Bool, true, List, Some, take, drop, rules, ap, ◌∙◌}
use Rattle.sercos_model.specs.Bits.{bits_of}
use Rattle.sercos_script.specs.Scripts.{carried}
use Rattle.sercos_config.specs.Views.{DocumentView}
use Rattle.sercos_opened.specs.Kept.{script_carry}
use Rattle.sercos_c.specs.Links.{how_of}
use Rattle.sercos_c.proofs.FrameLemmas.{frame_there}
use Rattle.sercos_c.proofs.LinkLemmas.{passes_as}
use Rattle.sercos_c.proofs.links.pass.Goals as goal

pub returns-clause-passed : goal.returns-clause-passed
returns-clause-passed c = λ d links _.
    let sent = c.first_bits-sent.ensures in
    let is : script_carry d c.in-Some.p (take c.args.count (bits_of c.args.bits.now)) ≡ Some c.pass.new.bits =
    passes_as (carried c.args.links.now.stations c.args.links.now.faults) (script_carry d) c.in-Some.p c.assign.new.self _ c.pass.new.bits
    links.carries (c.assign.ensures ∙ sent) (search rules) c.pass.ensures.bits in
    rw (c.in-Some.is, is) (
      c.len.ensures.value,
      (
        ap (λ (n : ℕ). take n (bits_of (c.fill.new.out ++ drop (c.len-bytes.result / 8) c.args.out.now))) c.len.ensures.value
            ∙ frame_there c.fill.new.out (drop (c.len-bytes.result / 8) c.args.out.now) c.pass.new.bits (c.fill.ensures ∙ c.pad.ensures),
        c.how_of.ensures ∙ ap (λ (bits : List Bool). how_of bits c.pass.new.bits) sent,
      ),
    )
