-- The rules for a drive's own data blocks, and the first that is broken.
use Rattle.std.specs.Prelude.{ℕ, ◌%◌, ◌==◌, nat_lt, nat_le, Bool, true, not, ◌&&◌, ◌||◌, if◌then◌else◌, List, [], ◌∷◌, ◌++◌, length, Option, Some, None, is_none, option_map}
use Rattle.std.specs.Bool.{then_some}
use Rattle.std.specs.List.{list_all, list_any}
use Rattle.std.specs.Option.{option_or}
use Rattle.sercos_idn.specs.declared.attribute.Attribute.{Attribute}
use Rattle.sercos_idn.specs.Codes.{is_list, item_len}
use Rattle.sercos_block.specs.declared.block.Block.{Block}
use Rattle.sercos_block.specs.declared.check.Field.{Field}
use Rattle.sercos_block.specs.declared.check.Field.TheVariants.{Idn, Name, Unit, Min, Max, MaxLen, Value, Step, Fails}
use Rattle.sercos_block.specs.declared.check.BadBlock.{BadBlock}
use Rattle.sercos_block.specs.Limits.{most_name, most_unit, most_data}
use Rattle.sercos_block.specs.Blocks.{is_number, number_end}
use Rattle.sercos_block.specs.BuiltIns.{is_built_in}

-- whether one of the blocks has the identifier number
abbrev pub has_block : ℕ → List Block → Bool
has_block raw blocks = list_any (λ b. b.idn.raw == raw) blocks

-- whether the byte is printable ASCII
abbrev pub is_printable : ℕ → Bool
is_printable byte = nat_le 0x20 byte && nat_le byte 0x7e

-- whether a name or a unit is absent, or has 1 to `most` bytes, all printable
abbrev pub is_text : ℕ → Option (List ℕ) → Bool
is_text most None = true
is_text most (Some text) = nat_le 1 (length text) && (nat_le (length text) most && list_all is_printable text)

-- whether a minimum or a maximum is absent, or is that of a number and has no more bits than the
-- number
abbrev pub is_limit : Attribute → Option ℕ → Bool
is_limit a None = true
is_limit a (Some bits) = is_number a && nat_lt bits (number_end a.length)

-- whether the most bytes are valid: for a list at least 1, at most the limit, and whole items;
-- otherwise 0
abbrev pub is_max_len : Attribute → ℕ → Bool
is_max_len a most = if is_list a.length then nat_le 1 most && (nat_le most most_data && (most % item_len a.length == 0)) else most == 0

-- Whether the operation data is valid. A list has at most its most bytes, in whole items. A number
-- has as many bytes as its length requires. A procedure command is 0.
abbrev pub is_value : Block → Bool
is_value b =
    if is_list b.attribute.length then nat_le (length b.value) b.max_len && (length b.value % item_len b.attribute.length == 0)
    else (length b.value == item_len b.attribute.length) && (not b.attribute.command || list_all (λ byte. byte == 0) b.value)

-- whether the step is valid: only a number without limits has one
abbrev pub is_step : Block → Bool
is_step b = (b.step == 0) || (is_number b.attribute && (is_none b.min && is_none b.max))

-- The first rule that a block breaks if the blocks `before` precede it. The identifier number is
-- new and not built in. Then the rules for name, unit, minimum, maximum, most bytes, operation data
-- and step follow. Only a procedure command may fail.
unfoldable pub block_fault : List Block → Block → Option Field
block_fault before b =
    option_or (then_some (is_built_in b.idn.raw || has_block b.idn.raw before) Idn)
    (option_or (then_some (not (is_text most_name b.name)) Name)
    (option_or (then_some (not (is_text most_unit b.unit)) Unit)
    (option_or (then_some (not (is_limit b.attribute b.min)) Min)
    (option_or (then_some (not (is_limit b.attribute b.max)) Max)
    (option_or (then_some (not (is_max_len b.attribute b.max_len)) MaxLen)
    (option_or (then_some (not (is_value b)) Value)
    (option_or (then_some (not (is_step b)) Step)
    (then_some (b.fails && not b.attribute.command) Fails))))))))

-- the first block that breaks a rule, and the first rule that it breaks, if the blocks `before`
-- precede them
unfoldable pub blocks_fault : List Block → List Block → Option BadBlock
blocks_fault before [] = None
blocks_fault before (b ∷ blocks) =
    option_or (option_map (λ field. record { index = length before; field = field }) (block_fault before b))
    (blocks_fault (before ++ b ∷ []) blocks)
