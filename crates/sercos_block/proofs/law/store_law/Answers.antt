use Rattle.sercos_block.proofs.OpenLemmas.{store_of-permutes, IsStore-store_of}
use Rattle.sercos_block.proofs.TypeLemmas.{types}
use Rattle.sercos_block.proofs.law.store_law.Goals as goal

pub returns-clause-blocks : goal.returns-clause-blocks
returns-clause-blocks c = store_of-permutes

pub returns-clause-store : goal.returns-clause-store
returns-clause-store c = IsStore-store_of

pub returns-clause-types : goal.returns-clause-types
returns-clause-types c = types
