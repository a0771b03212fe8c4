use Rattle.std.proofs.Common.{◌^◌, ◌<◌, ◌≤◌, sym, arith}
use Rattle.std.proofs.Math.Nat.{pow-le-pow_right, mod-eq_of_lt}
use Rattle.sercos_bits.proofs.bit_buf.lowest.Goals as goal

-- a number of sixteen bits has no more than these
below : (c : goal.Else-len-lt16) → c.args.number < 2 ^ c.args.len
below c =
    let wide : 16 ≤ c.args.len = omega arith in
    let above : 2 ^ 16 ≤ 2 ^ c.args.len = pow-le-pow_right {n = 2} (omega arith) wide in
    omega arith

pub returns-else-len-lt16-clause-value : goal.returns-else-len-lt16-clause-value
returns-else-len-lt16-clause-value c = sym (mod-eq_of_lt (below c))

pub returns-else-len-lt16-clause-few : goal.returns-else-len-lt16-clause-few
returns-else-len-lt16-clause-few c = below c
