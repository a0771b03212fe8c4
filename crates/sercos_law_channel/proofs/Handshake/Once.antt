-- What a transfer writes or reads, by the shape that the words of its attribute say.
use Rattle.sercos_law_channel.proofs.Words.{◌≡◌, ◌+◌, ◌*◌, ◌^◌, ◌<◌, attribute_word-below, attribute_fault-attribute_word, attribute_of-attribute_word, Block, types, shape_by, shape_of, ReadsOnce, WritesOnce}
use Rattle.sercos_law_channel.proofs.Handshake.AttributeReplies.{shape-attribute}
use Rattle.sercos_law_channel.proofs.Handshake.ElementReads.{reads_once_by}
use Rattle.sercos_law_channel.proofs.Handshake.ReadStages.{high_of, low_of}
use Rattle.sercos_law_channel.proofs.Handshake.WriteStages.{writes_once_by}

-- the words of an attribute say how the operation data of its block is read
pub says_shape : (b : Block) → b.attribute.factor < 2 ^ 16 → shape_of 7 (low_of b + 65536 * high_of b) ≡ shape_by b.attribute.length
says_shape b fits =
    shape-attribute b.attribute (attribute_word-below b.attribute fits) (attribute_fault-attribute_word b.attribute fits)
    (attribute_of-attribute_word b.attribute fits)

pub writes_once : WritesOnce
writes_once idn bytes blocks b e entries log are found fits is =
    writes_once_by idn bytes b (says_shape b fits) blocks found e entries log are is

pub reads_once : ReadsOnce
reads_once idn e bytes blocks b s entries log low high found fits is complete =
    reads_once_by (λ others raw d store there. (types others raw d store there).1) idn e bytes blocks b s entries log (says_shape b fits) low
    high found is complete
